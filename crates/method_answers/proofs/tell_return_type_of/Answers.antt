use mathlib.Core.Path.{refl}
use native.Mathlib.Omega.{arith}
use Rattle.rows.specs.Columns as columns
use Rattle.rows.proofs.Laws.{same_rows}
use Rattle.places.proofs.Laws.{method-found, method-missed}
use Rattle.places.proofs.Values.{method-returns, no-method-returns}
use Rattle.method_answers.proofs.tell_return_type_of.Goals as goal

pub tell_return_type-requires : goal.tell_return_type-requires
tell_return_type-requires c = record { laid = c.requires; m_bound = omega (arith, c.row_inside.ensures.0 _ c.in-Some.is, same_rows c.requires columns.method_name columns.method_signature (omega arith) (omega arith) refl) }

pub returns : goal.returns
returns c = (λ m h. method-returns c.requires _ _ _ m (method-found (c.row_inside.ensures.1 _ _ _ c.requires _ _ h) c.in-Some.is) c.tell_return_type.ensures.0, c.tell_return_type.ensures.1)

pub returns-in_default : goal.returns-in_default
returns-in_default c = (λ m h. no-method-returns c.requires _ _ _ m (method-missed (c.row_inside.ensures.1 _ _ _ c.requires _ _ h) c.in_default.is) _ _, c.no_signature.ensures _ _)
