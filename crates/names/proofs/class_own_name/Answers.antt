use mathlib.Core.Path.{◌≡◌, refl}
use borrow.Author.Rules.{rules}
use Rattle.std.specs.Prelude.{None}
use Rattle.names.proofs.Leaves.{shown-at, own_at, own-missing}
use Rattle.names.proofs.class_own_name.Goals as goal

pub name_length-len-requires : goal.name_length-len-requires
name_length-len-requires c = (shown-at c.in_ok-name.ensures refl).1

pub returns-in_err-name : goal.returns-in_err-name
returns-in_err-name c =
    let e : c.from_residual.result ≡ None = search rules in
    rw e (own-missing _ _ _ _ c.in_err-name.ensures refl)

pub returns : goal.returns
returns c = own_at _ _ _ _ c.in_ok-name.ensures refl c.name_length-len.ensures
