use native.Mathlib.Omega.{arith}
use Rattle.backwards.proofs.Filling.{fill_start, move-turn, fill-moved}
use borrow.Author.Rules.{rules}
use Rattle.backwards.proofs.move_down.Goals as goal

pub loop-j-init : goal.loop-j-init
loop-j-init c = (search rules, fill_start _ _ _)

pub loop-j-preserved : goal.loop-j-preserved
loop-j-preserved c = (omega arith, move-turn c.loop-j.invariant.1 (search rules) (search rules))

pub returns : goal.returns
returns c = fill-moved c.loop-j.invariant.1 (search rules)
