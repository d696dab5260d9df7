use Rattle.std.proofs.lemmas.Result.{err_from_is_err_and}
use Rattle.sig_leaves.proofs.Numbers.{bounded-none, bounded-over, bounded-some}
use Rattle.sig_leaves.proofs.at_most.Goals as goal

pub returns-in_err-n : goal.returns-in_err-n
returns-in_err-n c =
    let up = err_from_is_err_and c.from_residual.result c.from_residual.ensures.1 in
    rw (up.1, up.2) (bounded-none _ c.in_err-n.was)

pub returns-then-most-n : goal.returns-then-most-n
returns-then-most-n c = bounded-over _ c.in_ok-n.was c.if-most-n.true

pub returns : goal.returns
returns c = bounded-some _ c.in_ok-n.was c.if-most-n.false
