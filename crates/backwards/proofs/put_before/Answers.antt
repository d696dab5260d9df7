use mathlib.Core.Path.{refl}
use native.Mathlib.Omega.{arith}
use Rattle.backwards.proofs.Filling.{fill_start, fill-turn, fill-behind}
use borrow.Author.Rules.{rules}
use Rattle.backwards.proofs.put_before.Goals as goal

pub loop-i-init : goal.loop-i-init
loop-i-init c = (search rules, fill_start _ _ _)

pub loop-i-preserved : goal.loop-i-preserved
loop-i-preserved c = (omega arith, fill-turn c.loop-i.invariant.1 _ refl (omega (arith, c.loop-i.invariant.1.long)))

pub returns : goal.returns
returns c = fill-behind _ _ _ (omega arith) (omega arith) (omega arith) c.loop-i.invariant.1
