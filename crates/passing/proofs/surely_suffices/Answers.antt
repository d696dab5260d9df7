use native.Mathlib.Omega.{arith}
use Rattle.passing.proofs.Bounds.{suffices, nowhere-yet}
use Rattle.passing.proofs.surely_suffices.Goals as goal

pub loop-i-init : goal.loop-i-init
loop-i-init c = λ at lt. absurd (omega (arith, lt))

pub loop-i-preserved : goal.loop-i-preserved
loop-i-preserved c = nowhere-yet c.args.sig.now c.loop-i.invariant (c.names_spec.ensures c.if-names_spec.false)

pub returns : goal.returns
returns c = λ _.
    let a = c.args in
    suffices a.sig.now (λ at lt. c.loop-i.invariant at (omega (arith, lt, c.loop-i-test.false))) (omega (arith, c.if-steps-sig.false))
