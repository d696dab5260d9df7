use native.Mathlib.Omega.{arith}
use Rattle.rows.proofs.Left.{none_left}
use Rattle.names.proofs.Leaves.{look-start, look-on, look-found, look-end}
use Rattle.names.proofs.last_around.Goals as goal

pub loop-i-init : goal.loop-i-init
loop-i-init c = look-start _ _ _ _

pub returns-in-Some : goal.returns-in-Some
returns-in-Some c = look-found _ _ _ _ c.loop-i.invariant (omega (arith, c.loop-i-test.true)) c.class_around.ensures c.in-Some.is

pub loop-i-preserved : goal.loop-i-preserved
loop-i-preserved c = look-on _ _ _ _ c.loop-i.invariant (omega (arith, c.loop-i-test.true)) c.class_around.ensures (none_left c.in_default.not-Some)

pub returns : goal.returns
returns c = look-end _ _ _ _ c.loop-i.invariant c.loop-i-test.false
