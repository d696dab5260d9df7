use Rattle.replaying.proofs.Laws.{holds_is}
use Rattle.replaying.proofs.expected.holds.Goals as goal

pub returns : goal.returns
returns c = holds_is _ _ _ _ c.strip_prefix.ensures.cases c.is_some_and.ensures
