use mathlib.Core.Path.{sym}
use Rattle.buffers.proofs.Writing.{kept_same, wrote_then}
use Rattle.rendering.proofs.Laws.{rendered-some, rendered-none}
use Rattle.std.proofs.lemmas.Result.{err_from_is_err_and}
use Rattle.shapes.proofs.Series.{shape-rankless, shape-sizeless, shape-boundless, shape_is}
use Rattle.shapes.proofs.push_shape.Goals as goal

pub returns-in_err-rank : goal.returns-in_err-rank
returns-in_err-rank c =
    let up = err_from_is_err_and c.from_residual.result c.from_residual.ensures.1 in
    rw (up.1, up.2) (rendered-none (shape-rankless _ _ (sym c.in_err-rank.ensures)) (kept_same _ _))

pub returns-in_err-sizes : goal.returns-in_err-sizes
returns-in_err-sizes c =
    let up = err_from_is_err_and c.from_residual-in_err-sizes.result c.from_residual-in_err-sizes.ensures.1 in
    rw (up.1, up.2) (rendered-none (shape-sizeless _ _ _ _ (sym c.in_ok-rank.ensures) c.in_err-sizes.ensures) (kept_same _ _))

pub returns-in_err-bounds : goal.returns-in_err-bounds
returns-in_err-bounds c =
    let up = err_from_is_err_and c.from_residual-in_err-bounds.result c.from_residual-in_err-bounds.ensures.1 in
    rw (up.1, up.2) (rendered-none
    (shape-boundless _ _ _ _ (sym c.in_ok-rank.ensures) c.in_ok-sizes.ensures c.in_err-bounds.ensures)
    (kept_same _ _))

pub returns : goal.returns
returns c =
    rendered-some
    (shape_is _ _ _ _ (sym c.in_ok-rank.ensures) c.in_ok-sizes.ensures c.in_ok-bounds.ensures c.wide.ensures.0)
    (wrote_then c.push-k.ensures c.push_dims.ensures)
