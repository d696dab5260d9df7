use mathlib.Core.List.{[]}
use Rattle.lines.proofs.Ending.{then-line}
use Rattle.lines.proofs.end_missing.Goals as goal

pub returns : goal.returns
returns c = λ o o₁ at key k w. then-line k w [] c.put.ensures
