use mathlib.Core.Path.{refl}
use Rattle.buffers.specs.Replies.{value}
use Rattle.record.proofs.Allowance.{named-free}
use Rattle.class_calls.proofs.class_name.Goals as goal

pub returns : goal.returns
returns c = named-free 0 (value 0) refl c.ask_name.ensures
