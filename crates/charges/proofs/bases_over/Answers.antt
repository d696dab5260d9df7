use Rattle.charges.proofs.Laws.{over-it}
use Rattle.charges.proofs.bases_over.Goals as goal

pub returns : goal.returns
returns c = over-it _ c.pass_bases_of.ensures _ c.is_none.ensures
