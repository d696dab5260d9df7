use Rattle.std.proofs.Common.{rules, ◌≡◌, Err}
use Rattle.buffers.specs.declared.Refusal.TheVariants.{NoSuchRow}
use mathlib.Core.Path.{refl}
use native.Mathlib.Omega.{arith}
use Rattle.rows.specs.Columns as columns
use Rattle.rows.proofs.Laws.{same_rows}
use Rattle.places.proofs.Laws.{method-found, method-missed}
use Rattle.places.proofs.Values.{method-parameters, no-method-parameters}
use Rattle.method_answers.proofs.count_params_of.Goals as goal

pub count_params-count-requires : goal.count_params-count-requires
count_params-count-requires c = record { laid = c.requires; m_bound = omega (arith, c.row_inside.ensures.0 _ c.in_ok-i.ensures.ok_part, same_rows c.requires columns.method_name columns.method_signature (omega arith) (omega arith) refl) }

pub returns : goal.returns
returns c = λ m h.
    method-parameters c.requires _ _ _ m (method-found (c.row_inside.ensures.1 _ _ _ c.requires _ _ h) c.in_ok-i.ensures.ok_part) c.count_params-count.ensures

pub returns-in_err-i : goal.returns-in_err-i
returns-in_err-i c = λ m h.
    let e : c.from_residual.result ≡ Err NoSuchRow = search rules in
    rw e (no-method-parameters c.requires _ _ _ m (method-missed (c.row_inside.ensures.1 _ _ _ c.requires _ _ h) c.in_err-i.ensures.ok_part))
