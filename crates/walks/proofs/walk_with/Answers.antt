use mathlib.Core.Path.{refl, ap, ◌∙◌}
use native.Mathlib.Omega.{arith}
use Rattle.header.specs.Stream.{Opening}
use Rattle.header.proofs.Cases.{first-within}
use Rattle.layouts.proofs.Facts.{size-pos}
use Rattle.tables.proofs.Outcome.{is-refused, is-walked, same-walk}
use Rattle.walks.proofs.walk_with.Goals as goal

pub walk_tables-requires : goal.walk_tables-requires
walk_tables-requires c = record {
  first_le_len = omega (arith, ap (λ (h : Opening). h.first) c.in-Ok.ensures, first-within c.args.options c.args.tables.now);
  by_index = λ k h. rw c.index_sizes-sizes.ensures (size-pos _ _ _ k h);
}

pub returns-in-Err : goal.returns-in-Err
returns-in-Err c = c.refused_extents.ensures ∙ is-refused _ _ _ _ c.in-Err.ensures refl

pub returns-in-Ok : goal.returns-in-Ok
returns-in-Ok c = c.walk_tables.ensures ∙ same-walk c.index_sizes-sizes.ensures _ _ _ ∙ is-walked _ _ _ c.in-Ok.ensures refl
