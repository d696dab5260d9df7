use mathlib.Core.Path.{refl}
use native.Mathlib.Omega.{arith}
use Rattle.rows.specs.Columns as columns
use Rattle.rows.proofs.Laws.{same_rows}
use Rattle.places.proofs.Laws.{method-found, method-place, method-missed}
use Rattle.method_answers.proofs.Laws.{method-takes, no-method-takes}
use Rattle.method_answers.proofs.pass_readings_of.Goals as goal

pub pass_readings-requires : goal.pass_readings-requires
pass_readings-requires c = record { laid = c.requires; m_bound = omega (arith, c.row_inside.ensures.0 _ c.in-Some.is, same_rows c.requires columns.method_name columns.method_signature (omega arith) (omega arith) refl) }

pub returns : goal.returns
returns c = λ m h.
    let is = c.row_inside.ensures.1 _ _ _ c.requires _ _ h in
    method-takes _ _ m (method-found is c.in-Some.is).0 (method-place is c.in-Some.is) c.pass_readings.ensures

pub returns-in_default : goal.returns-in_default
returns-in_default c = λ m h.
    no-method-takes _ _ m (method-missed (c.row_inside.ensures.1 _ _ _ c.requires _ _ h) c.in_default.is) _
