use Rattle.buffers.proofs.Writing.{kept_same}
use Rattle.sig_leaves.proofs.Generics.{said-string, said-no-string}
use Rattle.sig_leaves.proofs.push_string.Goals as goal

pub returns-in_err-start : goal.returns-in_err-start
returns-in_err-start c = rw c.from_residual.ensures (said-no-string _ _ _ c.read_string.ensures c.in_err-start.ensures.value (kept_same _ _))

pub returns : goal.returns
returns c = said-string _ _ _ c.read_string.ensures c.in_ok-start.ensures.value c.cut-text.ensures c.push.ensures
