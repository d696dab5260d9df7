use Rattle.buffers.proofs.Writing.{kept_same}
use Rattle.listing_steps.proofs.push_spent.Goals as goal

pub returns : goal.returns
returns c = c.end_spent.ensures _ _ _ _ c.push-start.ensures (kept_same _ _)
