use mathlib.Core.Path.{refl, ◌∙◌}
use native.Mathlib.Nat.{le_refl}
use native.Mathlib.Omega.{arith}
use Rattle.frames.proofs.Turns as turns
use Rattle.frames.proofs.ascend.Goals as goal

pub loop-n-init : goal.loop-n-init
loop-n-init c = (c.requires.0, refl, refl, le_refl _, λ b' a' r h. h)

pub loop-n-preserved : goal.loop-n-preserved
loop-n-preserved c =
    let l = c.loop-n in
    let h = rw c.in-Ok-Closed.field-0-is at c.in-Ok-Closed.ensures in
    (turns.ended-place h, c.end_frame.auto.buf ∙ l.invariant.1, l.invariant.2, omega (arith, l.invariant.3), λ b' a' r y. l.invariant.4 b' a' r (turns.ascend-closed _ c.loop-n-test.true h y))

pub returns-in-Ok-Next : goal.returns-in-Ok-Next
returns-in-Ok-Next c = c.loop-n.invariant.4 _ _ _ (turns.ascend-next _ c.loop-n-test.true (rw c.in-Ok-Next.field-0-is at c.in-Ok-Next.ensures) (omega (arith, c.loop-n.invariant.2, c.loop-n.invariant.3)))

pub returns-in-Err : goal.returns-in-Err
returns-in-Err c = c.loop-n.invariant.4 _ _ _ (turns.ascend-broken _ c.loop-n-test.true c.in-Err.ensures)

pub returns : goal.returns
returns c =
    let l = c.loop-n in l.invariant.4 _ _ _ (turns.ascend-over _ c.loop-n-test.false l.invariant.0)
