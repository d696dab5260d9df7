use native.Mathlib.Omega.{arith}
use Rattle.rows.specs.Columns as columns
use Rattle.rows.proofs.Laws.{rows-narrow}
use Rattle.places.proofs.Laws.{class-found, class-missed}
use Rattle.class_answers.proofs.Layouts.{row_is, no-class-row}
use Rattle.class_answers.proofs.layout_row.Goals as goal

pub class_row-requires : goal.class_row-requires
class_row-requires c = (rows-narrow c.requires columns.type_name (omega arith), c.requires.size)

pub returns : goal.returns
returns c =
    let laid = c.requires in
    row_is laid _ (class-found c.class_row.ensures c.in_ok-row.was) c.find_key.ensures

pub returns-in_err-row : goal.returns-in_err-row
returns-in_err-row c = rw c.from_residual.ensures (no-class-row c.requires _ (class-missed c.class_row.ensures c.in_err-row.was))
