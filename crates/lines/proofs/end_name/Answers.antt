use native.Mathlib.Omega.{arith}
use Rattle.lines.proofs.Ending.{ends-long, ends-short, is-long}
use Rattle.lines.proofs.end_name.Goals as goal

pub returns-then-end-start-gt-LONGEST : goal.returns-then-end-start-gt-LONGEST
returns-then-end-start-gt-LONGEST c = λ o o₁ at key t k w. ends-long k w (is-long k w c.requires.0 c.if-end-start-gt-LONGEST.true) (c.end_spent.ensures _ _ _ _ k w.keeps)

pub returns : goal.returns
returns c = λ o o₁ at key t k w.
    ends-short k w c.requires.0 (omega (arith, c.if-end-start-gt-LONGEST.false)) c.escape-after.ensures c.put.ensures
