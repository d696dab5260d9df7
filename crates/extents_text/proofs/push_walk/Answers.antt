use Rattle.std.proofs.Common.{ap}
use Rattle.buffers.specs.Replies.{reply_says}
use Rattle.extents_text.proofs.Lines.{text-stop, text-refused}
use Rattle.extents_text.proofs.push_walk.Goals as goal

pub returns-in-Ok : goal.returns-in-Ok
returns-in-Ok c = text-stop _ (ap reply_says c.in-Ok.is) c.push_kinds-at.ensures c.push_line.ensures

pub returns-in-Err : goal.returns-in-Err
returns-in-Err c = text-refused _ (ap reply_says c.in-Err.is) c.push_refused.ensures
