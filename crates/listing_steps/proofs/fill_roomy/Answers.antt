use Rattle.lines.proofs.Ceiling.{all-at}
use native.Mathlib.Omega.{arith}
use Rattle.listing_steps.proofs.Filling.{going_start, going-inside}
use Rattle.listing_steps.proofs.fill_roomy.Goals as goal

pub loop-r-init : goal.loop-r-init
loop-r-init c =
    let pre = c.requires in
    (going_start _ _ _ _, pre.knows, λ e. all-at _ (pre.all_fit e) _)

pub overflow_sub-out : goal.overflow_sub-out
overflow_sub-out c = omega (arith, going-inside c.loop-r.invariant.0)

pub fill_some-r-requires : goal.fill_some-r-requires
fill_some-r-requires c =
    let inv = c.loop-r.invariant in
    let start = c.requires in
    record { laid = start.laid; by_index = start.by_index; knows = inv.1; all_fit = start.all_fit; next_value = inv.2; left_nonzero = c.loop-r-test.true; at_in_bounds = going-inside inv.0 }

pub loop-r-smaller : goal.loop-r-smaller
loop-r-smaller c =
    let inv = c.loop-r.invariant in
    c.fill_some-r.ensures.0.fewer c.loop-r-test.true (omega (arith, c.if-out-r-ge-LINE_ROOM.true, going-inside inv.0))

pub loop-r-preserved : goal.loop-r-preserved
loop-r-preserved c =
    let inv = c.loop-r.invariant in
    let some = c.fill_some-r.ensures in
    (some.0.going _ _ inv.0, some.1, some.0.within)
