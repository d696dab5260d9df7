use Rattle.case_text.proofs.Laws.{after_none}
use Rattle.case_text.proofs.after.Goals as goal

pub returns-then-s-n : goal.returns-then-s-n
returns-then-s-n c = after_none _ _ _ c.if-s-n.true c.cut.ensures
