use Rattle.std.proofs.Common.{refl, arith}
use Rattle.bundle.proofs.Input.{number_past, number-none, number-first, more-end, more-line, more-zero, more-none, more-over, more-digit}
use Rattle.bundle.proofs.read_number.Goals as goal

pub returns-then-s-at : goal.returns-then-s-at
returns-then-s-at c = (number_past _ _ c.if-s-at.true, tt)

pub returns-in_err-n : goal.returns-in_err-n
returns-in_err-n c = rw c.from_residual.ensures (number-none _ _ c.if-s-at.false refl c.in_err-n.ensures, tt)

pub loop-i-init : goal.loop-i-init
loop-i-init c = (omega (arith, c.in_ok-n.ensures.1), number-first _ _ c.if-s-at.false c.in_ok-n.ensures.0 c.in_ok-n.ensures.1)

pub returns-then-s-i-eq10 : goal.returns-then-s-i-eq10
returns-then-s-i-eq10 c = (more-line _ _ _ c.loop-i.invariant.1 c.loop-i-test.true c.if-s-i-eq10.true, (c.loop-i.invariant.0, omega arith))

pub returns-then-n-eq0 : goal.returns-then-n-eq0
returns-then-n-eq0 c = (more-zero _ _ _ c.loop-i.invariant.1 c.loop-i-test.true c.if-s-i-eq10.false c.if-n-eq0.true, tt)

pub returns-in_err-n-2 : goal.returns-in_err-n-2
returns-in_err-n-2 c = rw c.from_residual-in_err-n-2.ensures (more-none _ _ _ c.loop-i.invariant.1 c.loop-i-test.true c.if-s-i-eq10.false c.if-n-eq0.false refl c.in_err-n-2.ensures, tt)

pub returns-then-n-gt65536 : goal.returns-then-n-gt65536
returns-then-n-gt65536 c =
    let digit = c.in_ok-n-2.ensures in
    (more-over _ _ _ c.loop-i.invariant.1 c.loop-i-test.true c.if-s-i-eq10.false c.if-n-eq0.false digit.0 digit.1 c.if-n-gt65536.true, tt)

pub loop-i-preserved : goal.loop-i-preserved
loop-i-preserved c =
    let digit = c.in_ok-n-2.ensures in
    (c.if-n-gt65536.false, more-digit _ _ _ c.loop-i.invariant.1 c.loop-i-test.true c.if-s-i-eq10.false c.if-n-eq0.false digit.0 digit.1 c.if-n-gt65536.false)

pub returns : goal.returns
returns c = (more-end _ _ _ c.loop-i.invariant.1 c.loop-i-test.false, tt)
