use Rattle.c_section.proofs.Told.{told-section}
use Rattle.c_section.proofs.name_section.Goals as goal

pub returns : goal.returns
returns c = told-section c.told_section.ensures (rw c.options_of-opened.ensures at c.name_section.ensures)
