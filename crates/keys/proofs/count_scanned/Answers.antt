use native.Mathlib.Omega.{arith}
use Rattle.keys.proofs.Laws.{keyed-none, scan-over, key-met, key-passed}
use Rattle.keys.proofs.count_scanned.Goals as goal
use Rattle.keys.proofs.count_scanned.Goals.{then-here-key, else-here-key}

pub loop-i-init : goal.loop-i-init
loop-i-init c = (omega arith, keyed-none _ _)

pub loop-i-preserved : goal.loop-i-preserved
loop-i-preserved c =
    let l = c.loop-i in
    let read = c.read_column-here.ensures in
    elim c.if-here-key.branch [
      | then-here-key w ↦ rw w.seen-is (omega arith, key-met _ _ l.i read w.if-here-key.true l.invariant.1)
      | else-here-key w ↦ rw w.seen-is (omega arith, key-passed _ _ l.i read w.if-here-key.false l.invariant.1)
    ]

pub returns : goal.returns
returns c =
    let l = c.loop-i in
    scan-over _ _ _ (omega arith) c.count_rows-n.ensures c.loop-i-test.false l.invariant.1
