use Rattle.name_section.proofs.Filling.{refuse-all}
use Rattle.section_text.proofs.Output.{zeros-cleared}
use Rattle.section_text.proofs.refuse_input.Goals as goal

pub returns : goal.returns
returns c = refuse-all _ c.clear_from.ensures (zeros-cleared _ _ c.clear_words.ensures)
