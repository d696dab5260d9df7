use mathlib.Core.Path.{refl}
use native.Mathlib.Omega.{arith}
use Rattle.keys.proofs.Laws.{keyed-none, scan-over, key-met, key-passed}
use Rattle.references.specs.Columns as columns
use Rattle.references.proofs.ConstantAnswers.{constant-row}
use Rattle.references.proofs.constants.find_string.Goals as goal
use Rattle.references.proofs.constants.find_string.Goals.{then-read_column-eq-STRING+else-seen-nth, else-read_column-eq-STRING}

pub loop-i-init : goal.loop-i-init
loop-i-init c = (omega arith, omega arith, keyed-none _ _)

pub read_column-requires : goal.read_column-requires
read_column-requires c = record { laid = c.requires; column_lt_count = (omega arith, constant-row c.requires columns.constant_type (omega arith) refl _ (omega (arith, c.count_entire-n.ensures, c.loop-i-test.true))) }

pub loop-i-preserved : goal.loop-i-preserved
loop-i-preserved c =
    let l = c.loop-i in
    let read = c.read_column.ensures in
    elim c.if-read_column-eq-STRING.branch [
      | then-read_column-eq-STRING+else-seen-nth w ↦ rw w.seen-is (omega arith, omega arith, key-met _ _ l.i read w.if-read_column-eq-STRING.true l.invariant.2)
      | else-read_column-eq-STRING w ↦ rw w.seen-is (omega arith, l.invariant.1, key-passed _ _ l.i read w.if-read_column-eq-STRING.false l.invariant.2)
    ]

pub returns : goal.returns
returns c =
    let l = c.loop-i in
    let all = scan-over _ _ _ (omega arith) c.count_entire-n.ensures c.loop-i-test.false l.invariant.2 in
    omega (arith, l.invariant.1)
