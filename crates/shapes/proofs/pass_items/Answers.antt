use mathlib.Core.Path.{sym}
use Rattle.std.proofs.lemmas.Result.{err_from_is_err_and}
use Rattle.shapes.proofs.Series.{pass-start, pass-turn, pass-cut, pass-done}
use Rattle.shapes.proofs.pass_items.Goals as goal

pub loop-init : goal.loop-init
loop-init c = λ r h. pass-start h

pub loop-preserved : goal.loop-preserved
loop-preserved c = λ r h. c.loop.invariant r (pass-turn c.loop-test.true (sym c.in_ok-next.ensures) h)

pub returns-in_err-next : goal.returns-in_err-next
returns-in_err-next c =
    let up = err_from_is_err_and c.from_residual.result c.from_residual.ensures.1 in
    c.loop.invariant _ (rw (up.1, up.2) (pass-cut c.loop-test.true (sym c.in_err-next.ensures)))

pub returns : goal.returns
returns c = c.loop.invariant _ (pass-done c.loop-test.false)
