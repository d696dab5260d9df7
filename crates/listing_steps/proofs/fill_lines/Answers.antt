use mathlib.Core.Path.{refl, sym, ◌∙◌, subst}
use lib.Dec.{T}
use native.Mathlib.Omega.{arith}
use Rattle.numbers.proofs.Pick.{by-lt}
use Rattle.lines.proofs.Ceiling.{all-at}
use Rattle.listing_steps.proofs.Filling.{going_done, going-full, going_on}
use Rattle.listing_steps.proofs.Over.{next-within}
use Rattle.listing_steps.proofs.fill_lines.Goals as goal
use Rattle.listing_steps.proofs.fill_lines.Goals.{else-not-all-via-then-not-all+else-counts_anew, else-not-all-via-else-not-all}

pub loop-left-init : goal.loop-left-init
loop-left-init c =
    let pre = c.requires in
    (λ p o g. g, refl, pre.at_in_bounds, omega arith, λ h. omega arith, pre.knows, pre.next_value)

pub returns-then-is_done : goal.returns-then-is_done
returns-then-is_done c =
    let inv = c.loop-left.invariant in (
      record { going = λ p o g. going_done (inv.0 p o g) c.is_done.ensures c.if-is_done.true; fewer = λ some room. omega (arith, some); within = λ _. inv.6 },
      inv.5,
    )

pub overflow_sub-out : goal.overflow_sub-out
overflow_sub-out c = omega (arith, c.loop-left.invariant.2)

-- Where there was room, a step was taken before.
pub returns-then-out-at-lt-LINE_ROOM : goal.returns-then-out-at-lt-LINE_ROOM
returns-then-out-at-lt-LINE_ROOM c =
    let inv = c.loop-left.invariant in (
      record {
        going = inv.0;
        fewer = λ some room. by-lt _ _ (λ h. h) (λ h. absurd (omega (arith, inv.4 h, inv.1, inv.2, room, c.if-out-at-lt-LINE_ROOM.true)));
        within = λ _. inv.6;
      },
      inv.5,
    )

pub next_line-on-requires : goal.next_line-on-requires
next_line-on-requires c =
    let inv = c.loop-left.invariant in
    let start = c.requires in
    record { laid = start.laid; by_index = start.by_index; knows = inv.5; line_room_in_bounds = omega (arith, c.if-out-at-lt-LINE_ROOM.false, inv.2); c_value = inv.6 }

pub returns-then-out-step : goal.returns-then-out-step
returns-then-out-step c =
    let inv = c.loop-left.invariant in
    let line = c.next_line-on.ensures in (
      record { going = λ p o g. going-full (inv.0 p o g) line.0 c.if-out-step.true; fewer = λ some room. omega (arith, some); within = λ _. inv.6 },
      line.1,
    )

pub returns-then-counts_anew : goal.returns-then-counts_anew
returns-then-counts_anew c =
    let inv = c.loop-left.invariant in
    let line = c.next_line-on.ensures in
    let more = c.loop-left-test.true in (
      record {
        going = λ p o g. going_on (inv.0 p o g) line.0 more c.is_done.ensures c.if-is_done.false c.if-out-step.false;
        fewer = λ some room. omega (arith, more, inv.3);
        within = λ e. absurd (subst T (sym e) tt);
      },
      line.1,
    )

pub loop-left-preserved : goal.loop-left-preserved
loop-left-preserved c =
    let inv = c.loop-left.invariant in
    let line = c.next_line-on.ensures in
    let more = c.loop-left-test.true in
    let fits = c.if-out-step.false in (
      λ p o g. going_on (inv.0 p o g) line.0 more c.is_done.ensures c.if-is_done.false fits,
      line.0.wrote.keeps.long ∙ inv.1,
      omega (arith, fits),
      omega (arith, more, inv.3),
      λ h. absurd (omega (arith, more, inv.3, h)),
      line.1,
      elim c.else-not-all.branch [
        | else-not-all-via-then-not-all+else-counts_anew w ↦ next-within _ _ line.0 inv.6 w.counts_anew.ensures w.if-counts_anew.false
        | else-not-all-via-else-not-all w ↦ all-at _ (c.requires.all_fit w.if-not-all.false) _
      ],
    )

pub returns : goal.returns
returns c =
    let inv = c.loop-left.invariant in
    (record { going = inv.0; fewer = λ some room. omega (arith, some, c.loop-left-test.false); within = λ _. inv.6 }, inv.5)
