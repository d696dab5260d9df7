use native.Mathlib.Omega.{arith}
use Rattle.rows.proofs.Laws.{marked-ascends}
use Rattle.methods.proofs.Laws.{next-decides}
use Rattle.rows.specs.Columns as columns
use Rattle.methods.proofs.left_after.Goals as goal

pub returns-then-next-ne0 : goal.returns-then-next-ne0
returns-then-next-ne0 c strings blob = next-decides c.requires.laid strings blob (marked-ascends c.requires.laid columns.method_list (omega arith) c.is_marked.ensures c.if-is_marked.true) c.args.row
    c.requires.row_nonzero.0 (omega (arith, c.if-row-count_rows.true, c.count_rows.ensures)) c.read_column-next.ensures c.if-next-ne0.true c.count_rows-then-next-ne0.ensures c.take_from.ensures
