use Rattle.rows.proofs.Memory.{memory-is}
use Rattle.rows.proofs.memory_at.Goals as goal

pub returns : goal.returns
returns c = memory-is _ _ c.wide-start.ensures.0 c.wide-n.ensures.0
