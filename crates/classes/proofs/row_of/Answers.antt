use Rattle.classes.proofs.Laws.{row_if}
use Rattle.classes.proofs.row_of.Goals as goal

pub returns : goal.returns
returns c = row_if _ _ c.checked_add.ensures c.unwrap_or.ensures
