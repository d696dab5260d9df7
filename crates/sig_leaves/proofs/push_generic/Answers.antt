use native.Mathlib.Omega.{arith}
use Rattle.buffers.proofs.Writing.{kept_same, said-missing}
use Rattle.sig_leaves.proofs.push_generic.Goals as goal

pub push_string-requires : goal.push_string-requires
push_string-requires c = record { laid = c.requires; column_lt_count = (omega arith, c.in_ok-row.ensures.0) }

pub returns-in_err-row : goal.returns-in_err-row
returns-in_err-row c = λ blob. rw c.from_residual.ensures (said-missing (c.in_err-row.ensures _ blob) (kept_same _ _))

pub returns : goal.returns
returns c = λ blob. rw (c.in_ok-row.ensures.1 _ blob) c.push_string.ensures
