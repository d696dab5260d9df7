use native.Mathlib.Omega.{arith}
use Rattle.listing_steps.proofs.Filling.{going-out}
use Rattle.listing_steps.proofs.fill_opened.Goals as goal

pub returns-then-reached-eq0 : goal.returns-then-reached-eq0
returns-then-reached-eq0 c =
    let reached = c.fill_roomy-reached.ensures in
    (going-out reached.0.going (omega (arith, c.if-reached-eq0.true)), reached.1)

pub fill_rest-requires : goal.fill_rest-requires
fill_rest-requires c =
    let start = c.requires in
    let reached = c.fill_roomy-reached.ensures in
    record { laid = start.laid; by_index = start.by_index; knows = reached.1; all_fit = start.all_fit; next_value = reached.0.within }

pub returns : goal.returns
returns c =
    let rest = c.fill_rest.ensures in
    (rest.0 _ _ c.fill_roomy-reached.ensures.0, rest.1)
