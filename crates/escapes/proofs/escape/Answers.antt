use Rattle.std.proofs.Common.{arith}
use Rattle.escapes.proofs.Writing.{stands-more, stands-done, stands-then}
use Rattle.escapes.proofs.escape.Goals as goal

pub returns-then-not-stand_eight : goal.returns-then-not-stand_eight
returns-then-not-stand_eight c = stands-then c.requires.0 c.requires.1 (c.loop-i.invariant.0 _ c.pad.ensures) c.loop-i.auto.i c.loop-i.invariant.1 (omega (arith, c.loop-i-test.true)) c.escape_part.ensures

pub loop-i-preserved : goal.loop-i-preserved
loop-i-preserved c = (c.loop-i.invariant.0, stands-more c.loop-i.auto.i c.loop-i.invariant.1 (c.stand_eight.ensures c.if-not-stand_eight.false))

pub returns : goal.returns
returns c = stands-done c.requires.0 c.requires.1 (c.loop-i.invariant.0 _ c.pad.ensures) c.loop-i.auto.i c.loop-i.invariant.1 c.loop-i-test.false

pub returns-else-not-stand_eight : goal.returns-else-not-stand_eight
returns-else-not-stand_eight c = stands-done c.requires.0 c.requires.1 (c.loop-i.invariant.0 _ c.pad.ensures) (omega (arith, c.loop-i.auto.i)) (stands-more c.loop-i.auto.i c.loop-i.invariant.1 (c.stand_eight.ensures c.if-not-stand_eight.false)) (omega arith)
