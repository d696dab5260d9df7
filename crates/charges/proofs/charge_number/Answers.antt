use Rattle.charges.proofs.Laws.{number-left, number-spent}
use Rattle.charges.proofs.charge_number.Goals as goal

pub returns : goal.returns
returns c = number-left _ _ c.tally_number.ensures c.in-Some.is c.left_after.ensures _ c.answer_number-reply.ensures

pub returns-in_default : goal.returns-in_default
returns-in_default c = number-spent _ _ c.tally_number.ensures c.in_default.is _
