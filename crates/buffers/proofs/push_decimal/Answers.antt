use native.Mathlib.Omega.{arith}
use Rattle.buffers.proofs.Decimal.{digits-turn, digits-done}
use Rattle.buffers.proofs.push_decimal.Goals as goal

pub loop-rest-preserved : goal.loop-rest-preserved
loop-rest-preserved c = digits-turn c.loop-rest.invariant c.loop-rest-test.true

pub returns : goal.returns
returns c =
    let text = digits-done c.loop-rest.invariant (omega (arith, c.loop-rest-test.false)) in
    let wrote = c.push.ensures in
    rw (← text) wrote
