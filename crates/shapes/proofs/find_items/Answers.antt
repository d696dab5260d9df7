use mathlib.Core.Path.{sym}
use Rattle.std.proofs.lemmas.Result.{err_from_is_err_and}
use Rattle.shapes.specs.Series.{no-count}
use Rattle.shapes.proofs.Series.{finds-all, finds-cut}
use Rattle.shapes.proofs.find_items.Goals as goal

pub returns-in_err-n : goal.returns-in_err-n
returns-in_err-n c =
    let up = err_from_is_err_and c.from_residual.result c.from_residual.ensures.1 in
    rw (up.1, up.2) (no-count (sym c.in_err-n.ensures))

pub returns-in_err-next : goal.returns-in_err-next
returns-in_err-next c =
    let up = err_from_is_err_and c.from_residual-in_err-next.result c.from_residual-in_err-next.ensures.1 in
    rw (up.1, up.2) (finds-cut (sym c.in_ok-n.ensures) _ c.wide-count.ensures.0 c.in_err-next.ensures)

pub returns : goal.returns
returns c = finds-all (sym c.in_ok-n.ensures) _ c.wide-count.ensures.0 c.in_ok-next.ensures
