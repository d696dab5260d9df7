use Rattle.buffers.proofs.Telling.{ends-name}
use Rattle.buffers.proofs.end_call.Goals as goal

pub returns-in-Ok : goal.returns-in-Ok
returns-in-Ok c = λ a b t. ends-name (rw c.in-Ok.is at t) c.finish.ensures
