use Rattle.lines.proofs.Stepping.{done-goes}
use Rattle.listing_steps.proofs.done_line.Goals as goal

pub returns : goal.returns
returns c = λ v d m i. done-goes v d m i c.done_cursor.ensures c.push_nothing-end.ensures
