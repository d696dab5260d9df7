use mathlib.Core.Path.{◌≡◌, refl}
use borrow.Author.Rules.{rules}
use Rattle.std.specs.Prelude.{None}
use Rattle.buffers.proofs.Writing.{kept_same, said-missing}
use Rattle.names.proofs.Leaves.{shown-at, shown-missing}
use Rattle.names.proofs.Full.{said-class, class-bare}
use Rattle.names.proofs.push_class_name.Goals as goal

pub push_behind_front-requires : goal.push_behind_front-requires
push_behind_front-requires c = record { laid = c.requires; len_in_bounds = (shown-at c.in_ok-name.ensures refl).1 }

pub returns-in_err-name : goal.returns-in_err-name
returns-in_err-name c = λ blob.
    let e : c.from_residual.result ≡ None = search rules in
    rw e (said-missing (class-bare c.requires _ blob _ (shown-missing c.in_err-name.ensures refl)) (kept_same _ _))

pub returns : goal.returns
returns c = λ blob.
    said-class c.requires _ blob _ _ (shown-at c.in_ok-name.ensures refl).0 c.push_behind_front.ensures
