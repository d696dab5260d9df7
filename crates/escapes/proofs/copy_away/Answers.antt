use Rattle.std.proofs.Common.{◌+◌, ◌-◌, arith}
use Rattle.backwards.proofs.Filling.{fill_start, fill-turn}
use Rattle.escapes.proofs.Writing.{part_same}
use Rattle.escapes.proofs.copy_away.Goals as goal

pub loop-i-init : goal.loop-i-init
loop-i-init c = fill_start _ _ _

pub loop-i-preserved : goal.loop-i-preserved
loop-i-preserved c =
    let i = c.loop-i.invariant in
    let few = c.loop-i-test.true in
    fill-turn i _ (i.below _ (omega (arith, c.requires.1, few))) (omega (arith, i.long, c.requires.2, few))

pub returns : goal.returns
returns c =
    let i = c.loop-i.invariant in
    let a = c.args in (
      record { long = i.long; kept = λ k l _. i.below k l },
      part_same _ _ a.start (a.start + a.gap) (a.end - a.start) (omega (arith, c.requires.0, c.requires.2)) (omega (arith, i.long, c.requires.0, c.requires.2))
          (λ k l. i.filled k (omega (arith, c.loop-i-test.false))),
    )
