use Rattle.std.proofs.Common.{arith}
use Rattle.header.proofs.CountLoop.{begin, room, over, taken, skipped, done}
use Rattle.header.proofs.read_counts.Goals as goal
use Rattle.header.proofs.read_counts.Goals.{then-mask-kind-eq1+else-limit-n, else-mask-kind-eq1}

pub loop-kind-init : goal.loop-kind-init
loop-kind-init c = begin _ _

pub read_four-n-requires : goal.read_four-n-requires
read_four-n-requires c = room _ _ _ _ _ c.loop-kind.invariant c.loop-kind-test.true _ c.requires.0 c.if-mask-kind-eq1.true c.requires.1

pub returns-then-limit-n : goal.returns-then-limit-n
returns-then-limit-n c = over _ _ _ _ _ c.loop-kind.invariant c.loop-kind-test.true _ c.requires.0 c.if-mask-kind-eq1.true _ c.read_four-n.ensures c.if-limit-n.true

pub overflow_add-at : goal.overflow_add-at
overflow_add-at c = omega (arith, room _ _ _ _ _ c.loop-kind.invariant c.loop-kind-test.true _ c.requires.0 c.if-mask-kind-eq1.true c.requires.1)

pub loop-kind-preserved : goal.loop-kind-preserved
loop-kind-preserved c =
    let i = c.loop-kind.invariant in
    elim c.if-mask-kind-eq1.branch [
      | then-mask-kind-eq1+else-limit-n w ↦ rw (w.counts-is, w.at-is) (taken _ _ _ _ _ i c.loop-kind-test.true _ c.requires.0 w.if-mask-kind-eq1.true _ w.read_four-n.ensures w.if-limit-n.false)
      | else-mask-kind-eq1 w ↦ rw (w.counts-is, w.at-is) (skipped _ _ _ _ _ i c.loop-kind-test.true _ c.requires.0 w.if-mask-kind-eq1.false)
    ]

pub returns : goal.returns
returns c = done _ _ _ _ _ c.loop-kind.invariant (omega arith)
