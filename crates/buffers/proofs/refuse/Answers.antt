use Rattle.buffers.proofs.Replies.{refuse-named}
use Rattle.buffers.proofs.refuse.Goals as goal

pub returns : goal.returns
returns c = refuse-named _ _ c.clear_from.ensures
