use Rattle.sig_leaves.proofs.Generics.{generic-row, nobody}
use Rattle.sig_leaves.proofs.generic_row.Goals as goal

pub returns-in_err-owner : goal.returns-in_err-owner
returns-in_err-owner c = rw c.from_residual.ensures (nobody c.requires _ c.in_err-owner.was)

pub returns : goal.returns
returns c = generic-row c.requires _ c.in_ok-owner.was _ c.find_key.ensures
