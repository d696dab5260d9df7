use mathlib.Core.Path.{refl}
use native.Mathlib.Omega.{arith}
use Rattle.rows.specs.Columns as columns
use Rattle.rows.proofs.Laws.{same_rows}
use Rattle.places.proofs.Laws.{method-found, method-missed}
use Rattle.places.proofs.Values.{method-parameter-type, no-method-parameter-type}
use Rattle.method_answers.proofs.tell_param_type_of.Goals as goal

pub tell_param_type-requires : goal.tell_param_type-requires
tell_param_type-requires c = record { laid = c.requires.laid; m_bound = omega (arith, c.row_inside.ensures.0 _ c.in-Some.is, same_rows c.requires.laid columns.method_name columns.method_signature (omega arith) (omega arith) refl); knows_signature = c.requires.knows_signature }

pub returns : goal.returns
returns c = (λ m h. method-parameter-type c.requires.laid _ _ _ m (method-found (c.row_inside.ensures.1 _ _ _ c.requires.laid _ _ h) c.in-Some.is) _ c.tell_param_type.ensures.0, c.tell_param_type.ensures.1)

pub returns-in_default : goal.returns-in_default
returns-in_default c = (λ m h. no-method-parameter-type c.requires.laid _ _ _ m (method-missed (c.row_inside.ensures.1 _ _ _ c.requires.laid _ _ h) c.in_default.is) _ _ _, c.requires.knows_signature)
