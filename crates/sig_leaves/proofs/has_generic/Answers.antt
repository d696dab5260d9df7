use mathlib.Core.Path.{refl}
use native.Mathlib.Omega.{arith}
use Rattle.sig_leaves.proofs.has_generic.Goals as goal

pub has_string-requires : goal.has_string-requires
has_string-requires c = record { laid = c.requires; column_lt_count = (omega arith, c.in-Some.ensures.0) }

pub returns-in-Some : goal.returns-in-Some
returns-in-Some c = λ blob. rw (c.in-Some.ensures.1 _ blob) c.has_string.ensures

pub returns-in-None : goal.returns-in-None
returns-in-None c = λ blob. rw (c.in-None.ensures _ blob) refl
