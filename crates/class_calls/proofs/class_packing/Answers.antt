use mathlib.Core.Path.{refl}
use Rattle.buffers.specs.Replies.{value}
use Rattle.record.proofs.Allowance.{numbered-free}
use Rattle.class_calls.proofs.class_packing.Goals as goal

pub returns : goal.returns
returns c = numbered-free 0 (value 0) c.ask_number.result.reply refl c.ask_number.ensures
