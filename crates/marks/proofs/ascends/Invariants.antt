use Rattle.rows.specs.Layout.{cell}
use Rattle.marks.proofs.Laws.{Rising}
use Rattle.marks.proofs.ascends.Given as goal

abbrev pub invariant-loop-i : goal.invariant-loop-i
invariant-loop-i l = Rising (cell l.tables l.layout l.column) l.i l.last
