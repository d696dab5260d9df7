use mathlib.Core.Path.{refl}
use native.Mathlib.Omega.{arith}
use Rattle.rows.specs.Columns as columns
use Rattle.rows.proofs.Laws.{same_rows}
use Rattle.method_signatures.proofs.Known.{told-no-param, told-param}
use Rattle.method_signatures.proofs.tell_param_name.Goals as goal

pub returns-then-signature-wide : goal.returns-then-signature-wide
returns-then-signature-wide c = (told-no-param _ _ _ _ _ _ c.signature_of-signature.ensures.0 c.signature_of-signature.ensures.1 _ _ (omega (arith, c.if-signature-wide.true, c.wide.ensures.0)), c.signature_of-signature.ensures.0)

pub push_param_name-place-requires : goal.push_param_name-place-requires
push_param_name-place-requires c = record { laid = c.requires.laid; m_bound = omega (arith, c.requires.m_bound, same_rows c.requires.laid columns.method_signature columns.param_list (omega arith) (omega arith) refl) }

pub returns : goal.returns
returns c = (told-param _ _ _ _ _ _ c.signature_of-signature.ensures.0 c.signature_of-signature.ensures.1 (omega (arith, c.if-signature-wide.false, c.wide.ensures.0)) (c.told_by-told.ensures _ _ _ _ (c.push_param_name-place.ensures _)), c.signature_of-signature.ensures.0)
