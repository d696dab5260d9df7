use Rattle.rows.specs.Columns as columns
use Rattle.rows.specs.Layout.{rows_at, cell}
use Rattle.nests.specs.Nests.{Nesting}
use Rattle.nests.proofs.nest_rows.Given as goal

abbrev pub invariant-loop-i : goal.invariant-loop-i
invariant-loop-i l = Nesting (cell l.tables l.layout columns.nested) (cell l.tables l.layout columns.enclosing) (rows_at l.layout columns.nested) l.i l.memory
