use Rattle.buffers.proofs.Replies.{finish-over, finish-fits}
use Rattle.buffers.proofs.finish.Goals as goal

pub returns-then-buf-end : goal.returns-then-buf-end
returns-then-buf-end c = finish-over _ _ c.if-buf-end.true c.refuse.ensures

pub returns : goal.returns
returns c = finish-fits _ _ c.if-buf-end.false c.clear_from.ensures
