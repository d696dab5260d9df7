use Rattle.buffers.specs.Texts.{q}
use Rattle.lines.proofs.Ending.{then-line}
use Rattle.lines.proofs.end_spent.Goals as goal

pub returns : goal.returns
returns c = λ o o₁ at key k kept. then-line k kept (q "!") c.push.ensures
