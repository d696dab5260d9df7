use Rattle.buffers.proofs.Replies.{named-text}
use Rattle.buffers.proofs.write_name.Goals as goal

pub returns : goal.returns
returns c = named-text c.push-at.ensures c.finish.ensures
