use native.Mathlib.Omega.{arith}
use Rattle.buffers.proofs.Writing.{wrote_none, wrote-more}
use borrow.Author.Rules.{rules}
use Rattle.buffers.proofs.push.Goals as goal

pub loop-i-init : goal.loop-i-init
loop-i-init c = (search rules, wrote_none _ _ _ (omega arith))

pub loop-i-preserved : goal.loop-i-preserved
loop-i-preserved c = (omega arith, wrote-more _ c.loop-i-test.true (omega (arith, c.loop-i.invariant.1.keeps.long)) c.loop-i.invariant.1)
