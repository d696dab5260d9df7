use Rattle.std.proofs.lemmas.Result.{err_from_is_err_and}
use Rattle.buffers.proofs.Writing.{kept_same}
use Rattle.sig_leaves.proofs.Generics.{generic-failed, generic-done, generic-missing}
use Rattle.sig_leaves.proofs.sig_generic.Goals as goal

pub returns-in-Some : goal.returns-in-Some
returns-in-Some c = λ blob. generic-done _ _ _ c.in_ok-i.ensures c.wide.ensures.0 (c.in-Some.ensures blob)

pub returns-in-None : goal.returns-in-None
returns-in-None c = λ blob. generic-missing _ _ _ c.in_ok-i.ensures c.wide.ensures.0 (c.in-None.ensures blob)

pub returns-in_err-i : goal.returns-in_err-i
returns-in_err-i c = λ blob.
    let up = err_from_is_err_and c.from_residual.result c.from_residual.ensures.1 in
    rw (up.1, up.2) (generic-failed _ _ _ c.in_err-i.ensures (kept_same _ _))
