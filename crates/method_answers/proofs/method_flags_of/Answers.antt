use Rattle.std.proofs.Common.{rules, ◌≡◌, Err}
use Rattle.buffers.specs.declared.Refusal.TheVariants.{NoSuchRow}
use mathlib.Core.Path.{refl}
use native.Mathlib.Omega.{arith}
use Rattle.rows.specs.Columns as columns
use Rattle.rows.proofs.Laws.{same_rows}
use Rattle.places.proofs.Laws.{method-found, method-missed}
use Rattle.places.proofs.Values.{method-flags, no-method-flags}
use Rattle.method_answers.proofs.method_flags_of.Goals as goal

pub read_column-flags-requires : goal.read_column-flags-requires
read_column-flags-requires c = record { laid = c.requires; column_lt_count = (omega arith, omega (arith, c.row_inside.ensures.0 _ c.in_ok-i.ensures.ok_part, same_rows c.requires columns.method_name columns.method_flags (omega arith) (omega arith) refl)) }

pub returns : goal.returns
returns c = λ strings blob k m h.
    method-flags c.requires strings blob k m (method-found (c.row_inside.ensures.1 _ _ _ c.requires _ _ h) c.in_ok-i.ensures.ok_part) c.read_column-flags.ensures

pub returns-in_err-i : goal.returns-in_err-i
returns-in_err-i c = λ strings blob k m h.
    let e : c.from_residual.result ≡ Err NoSuchRow = search rules in
    rw e (no-method-flags c.requires strings blob k m (method-missed (c.row_inside.ensures.1 _ _ _ c.requires _ _ h) c.in_err-i.ensures.ok_part))
