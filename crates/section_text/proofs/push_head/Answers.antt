use mathlib.Core.Path.{ap}
use Rattle.name_section.specs.Section.{section_says}
use Rattle.section_text.proofs.Output.{head-written, head-refused}
use Rattle.section_text.proofs.push_head.Goals as goal

pub returns-in-Ok : goal.returns-in-Ok
returns-in-Ok c = head-written (ap section_says c.in-Ok.is) c.push_number-next.ensures c.push_number.ensures

pub returns-in-Err : goal.returns-in-Err
returns-in-Err c = head-refused (ap section_says c.in-Err.is) (rw c.refusal_number-n.ensures at c.push_number-in-Err.ensures)
