use Rattle.charges.proofs.Laws.{name-left, name-spent}
use Rattle.charges.proofs.charge_name.Goals as goal

pub returns : goal.returns
returns c = name-left _ _ c.tally_name.ensures c.in-Some.is c.left_after.ensures _ c.answer_name-reply.ensures

pub returns-in_default : goal.returns-in_default
returns-in_default c = name-spent _ _ c.tally_name.ensures c.in_default.is _ c.refuse.ensures
