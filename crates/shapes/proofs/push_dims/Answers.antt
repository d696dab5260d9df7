use mathlib.Core.Path.{refl, ◌∙◌}
use native.Mathlib.Omega.{arith}
use Rattle.numbers.specs.Compressed.{uint, sint}
use Rattle.buffers.proofs.Writing.{wrote-over}
use Rattle.shapes.proofs.Dims.{dims-start, dims-turn, dims-done}
use Rattle.shapes.proofs.push_dims.Goals as goal

pub loop-i-init : goal.loop-i-init
loop-i-init c = (refl, λ b r h. dims-start _ uint sint _ _ _ h)

pub shape_of-buf-then-buf-k : goal.shape_of-buf-then-buf-k
shape_of-buf-then-buf-k c = c.loop-i.invariant.0

pub returns-then-buf-k : goal.returns-then-buf-k
returns-then-buf-k c = c.loop-i.invariant.1 _ _ (wrote-over _ _ _ (omega (arith, c.if-buf-k.true)))

pub loop-i-preserved : goal.loop-i-preserved
loop-i-preserved c =
    let l = c.loop-i in
    let comma = c.push_comma-next.ensures in
    let dim = c.push_dim-k.ensures in (
      dim.keeps.long ∙ comma.keeps.long ∙ l.invariant.0,
      λ b r h. l.invariant.1 b r
          (dims-turn c.loop-i-test.true c.size_at-size.ensures c.bound_at-low.ensures comma dim
          c.after_size-size_pos.ensures c.after_bound-bound_pos.ensures h),
    )

pub shape_of-buf : goal.shape_of-buf
shape_of-buf c = c.push.ensures.keeps.long ∙ c.loop-i.invariant.0

pub returns : goal.returns
returns c = c.loop-i.invariant.1 _ _ (dims-done _ _ _ c.loop-i-test.false c.push.ensures)
