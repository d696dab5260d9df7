use mathlib.Core.Path.{ap}
use Prim.Native.Nat.{ℕ, ◌*◌}
use Rattle.passing.proofs.Laws.{passes-takes}
use Rattle.bases.proofs.Laws.{type-steps}
use Rattle.bases.proofs.pass_base.Goals as goal

pub returns : goal.returns
returns c = rw (type-steps c.requires.laid c.args.strings.now c.args.blob.now c.args.row.0 c.requires.lt_row _ c.args.index (ap (λ (n : ℕ). 2 * n) c.wide.ensures.0))
    at (passes-takes c.pass_name-passed.ensures c.steps_left.ensures)
