use Rattle.name_section.proofs.Filling.{refuse-all}
use Rattle.name_section.proofs.refuse.Goals as goal

pub returns : goal.returns
returns c = refuse-all _ c.clear_from.ensures c.clear_offsets.ensures
