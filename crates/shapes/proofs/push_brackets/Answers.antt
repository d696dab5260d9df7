use mathlib.Core.Path.{refl, ◌∙◌}
use native.Mathlib.Omega.{arith}
use Rattle.buffers.proofs.Writing.{wrote-over}
use Rattle.shapes.proofs.Runs.{brackets-start, brackets-turn, brackets-done}
use Rattle.shapes.proofs.push_brackets.Goals as goal

pub loop-init : goal.loop-init
loop-init c = (refl, λ b r h. brackets-start _ h)

pub shape_of-buf-then-buf-k : goal.shape_of-buf-then-buf-k
shape_of-buf-then-buf-k c = c.loop.invariant.0

pub returns-then-buf-k : goal.returns-then-buf-k
returns-then-buf-k c = c.loop.invariant.1 _ _ (wrote-over _ _ _ (omega (arith, c.if-buf-k.true)))

pub loop-preserved : goal.loop-preserved
loop-preserved c =
    let l = c.loop in
    let w = c.push-k.ensures in
    (w.keeps.long ∙ l.invariant.0, λ b r h. l.invariant.1 b r (brackets-turn _ c.loop-test.true w h))

pub shape_of-buf : goal.shape_of-buf
shape_of-buf c = c.push.ensures.keeps.long ∙ c.loop.invariant.0

pub returns : goal.returns
returns c = c.loop.invariant.1 _ _ (brackets-done _ c.loop-test.false c.push.ensures)
