use mathlib.Core.Path.{refl}
use native.Mathlib.Omega.{arith}
use Rattle.keys.proofs.Laws.{keyed-none, scan-over, key-met, key-passed}
use Rattle.references.specs.Columns as columns
use Rattle.references.proofs.ConstantAnswers.{constant-row}
use Rattle.references.proofs.constants.count_strings.Goals as goal
use Rattle.references.proofs.constants.count_strings.Goals.{then-here-eq-STRING, else-here-eq-STRING}

pub loop-i-init : goal.loop-i-init
loop-i-init c = (omega arith, keyed-none _ _)

pub read_column-here-requires : goal.read_column-here-requires
read_column-here-requires c = record { laid = c.requires; column_lt_count = (omega arith, constant-row c.requires columns.constant_type (omega arith) refl _ (omega (arith, c.count_entire-n.ensures, c.loop-i-test.true))) }

pub loop-i-preserved : goal.loop-i-preserved
loop-i-preserved c =
    let l = c.loop-i in
    let read = c.read_column-here.ensures in
    elim c.if-here-eq-STRING.branch [
      | then-here-eq-STRING w ↦ rw w.seen-is (omega arith, key-met _ _ l.i read w.if-here-eq-STRING.true l.invariant.1)
      | else-here-eq-STRING w ↦ rw w.seen-is (omega arith, key-passed _ _ l.i read w.if-here-eq-STRING.false l.invariant.1)
    ]

pub returns : goal.returns
returns c =
    let l = c.loop-i in
    scan-over _ _ _ (omega arith) c.count_entire-n.ensures c.loop-i-test.false l.invariant.1
