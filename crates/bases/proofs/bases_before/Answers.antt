use native.Mathlib.Omega.{arith}
use mathlib.Core.Path.{refl}
use Rattle.bases.proofs.Laws.{knows-none}
use Rattle.bases.proofs.bases_before.Goals as goal

pub returns : goal.returns
returns c = (λ v _. knows-none v _, refl, omega arith)
