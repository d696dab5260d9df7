use mathlib.Core.Path.{refl}
use native.Mathlib.Omega.{arith}
use Rattle.rows.specs.Columns as columns
use Rattle.rows.specs.Layout.{view_in}
use Rattle.rows.proofs.Laws.{same_rows}
use Rattle.places.proofs.Laws.{method-found, method-place, method-missed}
use Rattle.method_answers.proofs.Laws.{method-counts, no-method-counts}
use Rattle.method_answers.proofs.surely_fits_of.Goals as goal

pub surely_fits-requires : goal.surely_fits-requires
surely_fits-requires c = record { laid = c.requires; m_bound = omega (arith, c.row_inside.ensures.0 _ c.in-Some.is, same_rows c.requires columns.method_name columns.method_signature (omega arith) (omega arith) refl) }

pub returns : goal.returns
returns c = λ strings k m h told.
    let is = c.row_inside.ensures.1 _ _ _ c.requires _ _ h in
    omega (arith, method-counts _ k m (method-found is c.in-Some.is).0 (method-place is c.in-Some.is), c.surely_fits.ensures strings k told)

pub returns-in_default : goal.returns-in_default
returns-in_default c = λ strings k m h told.
    let a = c.args in
    omega (arith, no-method-counts (view_in a.tables.now a.layout.now strings a.blob.now) k m (method-missed (c.row_inside.ensures.1 _ _ _ c.requires _ _ h) c.in_default.is))
