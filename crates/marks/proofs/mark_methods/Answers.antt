use Rattle.marks.proofs.Laws.{unmarked, marked-one}
use Rattle.marks.proofs.mark_methods.Goals as goal

pub returns-then-ascends : goal.returns-then-ascends
returns-then-ascends c = marked-one c.requires (c.ascends.ensures.yes c.if-ascends.true)

pub returns-else-ascends : goal.returns-else-ascends
returns-else-ascends c = unmarked c.requires
