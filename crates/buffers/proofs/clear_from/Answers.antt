use Rattle.std.proofs.Common.{rules}
use Rattle.buffers.proofs.Replies.{cleared_rest, cleared_none}
use Rattle.buffers.proofs.clear_from.Goals as goal

pub returns-then-from-buf : goal.returns-then-from-buf
returns-then-from-buf c = cleared_rest _ _ (c.fill.ensures.after (λ _ e. e)) (search rules)

pub returns-else-from-buf : goal.returns-else-from-buf
returns-else-from-buf c = cleared_none _ _ c.if-from-buf.false
