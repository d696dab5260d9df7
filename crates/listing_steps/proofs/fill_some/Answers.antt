use mathlib.Core.Path.{refl, sym, subst}
use lib.Dec.{T}
use native.Mathlib.Omega.{arith}
use Rattle.listing_steps.proofs.Filling.{going-full, going_on}
use Rattle.listing_steps.proofs.Over.{over-undone, over-here}
use Rattle.listing_steps.proofs.fill_some.Goals as goal

pub returns-then-out-spent : goal.returns-then-out-spent
returns-then-out-spent c =
    let over = over-here _ (c.requires.by_index _ _) c.is_over.ensures c.if-is_over.true in
    let line = c.spent_line-spent.ensures _ over in (
      record { going = λ p o g. going-full g line c.if-out-spent.true; fewer = λ some room. omega (arith, some); within = λ e. absurd (subst T (sym e) tt) },
      c.requires.knows,
    )

pub returns-then-is_over : goal.returns-then-is_over
returns-then-is_over c =
    let more = c.requires.left_nonzero in
    let over = over-here _ (c.requires.by_index _ _) c.is_over.ensures c.if-is_over.true in
    let line = c.spent_line-spent.ensures _ over in (
      record {
        going = λ p o g. going_on g line more (sym (over-undone _ _ over)) refl c.if-out-spent.false;
        fewer = λ some room. omega (arith, some);
        within = λ e. absurd (subst T (sym e) tt);
      },
      c.requires.knows,
    )
