use mathlib.Core.Path.{ap}
use Prim.Native.Nat.{ℕ, ◌*◌}
use Rattle.bases.proofs.Laws.{type-name}
use Rattle.bases.proofs.push_type.Goals as goal

pub returns : goal.returns
returns c = rw (type-name c.requires.laid c.args.strings.now c.args.blob.now c.args.row.0 c.requires.lt_row _ c.args.index (ap (λ (n : ℕ). 2 * n) c.wide.ensures.0))
    at c.get_type_fullname.ensures
