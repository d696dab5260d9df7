use native.Mathlib.Omega.{arith}
use Rattle.keys.proofs.Laws.{keyed-at-most, scan-over, key-met, key-passed}
use Rattle.keys.proofs.find_scanned.Goals as goal
use Rattle.keys.proofs.find_scanned.Goals.{then-read_column-key+else-seen-nth, else-read_column-key}

pub loop-i-init : goal.loop-i-init
loop-i-init c =
    let known = c.requires.column_lt_count in
    (rw known.2 (keyed-at-most _ _ _), known.3, known.2)

pub loop-i-preserved : goal.loop-i-preserved
loop-i-preserved c =
    let l = c.loop-i in
    let read = c.read_column.ensures in
    elim c.if-read_column-key.branch [
      | then-read_column-key+else-seen-nth w ↦ rw w.seen-is (omega arith, omega arith, key-met _ _ l.i read w.if-read_column-key.true l.invariant.2)
      | else-read_column-key w ↦ rw w.seen-is (omega arith, l.invariant.1, key-passed _ _ l.i read w.if-read_column-key.false l.invariant.2)
    ]

pub returns : goal.returns
returns c =
    let l = c.loop-i in
    let all = scan-over _ _ _ (omega (arith, c.requires.column_lt_count.1, c.count_rows-n.ensures)) c.count_rows-n.ensures c.loop-i-test.false l.invariant.2 in
    omega (arith, l.invariant.1)
