use native.Mathlib.Omega.{arith}
use Rattle.marks.proofs.Laws.{rising_none, rising-more, falls, tells-yes, tells-no}
use Rattle.marks.proofs.ascends.Goals as goal

pub loop-i-init : goal.loop-i-init
loop-i-init c = rising_none _

pub returns-then-here-last : goal.returns-then-here-last
returns-then-here-last c =
    let l = c.loop-i in
    tells-no _ _ (falls _ l.i l.invariant c.read_column-here.ensures _ (omega (arith, c.loop-i-test.true, c.count_rows-n.ensures)) c.if-here-last.true)

pub loop-i-preserved : goal.loop-i-preserved
loop-i-preserved c = rising-more _ c.loop-i.i c.loop-i.invariant c.read_column-here.ensures c.if-here-last.false

pub returns : goal.returns
returns c = tells-yes _ c.loop-i.i _ c.loop-i.invariant (omega (arith, c.count_rows-n.ensures))
