use Rattle.std.proofs.Common.{rules, ◌≡◌, Err}
use Rattle.buffers.specs.declared.Refusal.TheVariants.{NoSuchRow}
use mathlib.Core.Path.{refl}
use native.Mathlib.Omega.{arith}
use Rattle.rows.proofs.Laws.{rows-narrow, same_rows}
use Rattle.places.proofs.Laws.{class-found, class-missed}
use Rattle.places.proofs.Values.{class-flags, no-class-flags}
use Rattle.rows.specs.Columns as columns
use Rattle.class_answers.proofs.class_flags_of.Goals as goal

pub class_row-requires : goal.class_row-requires
class_row-requires c = (rows-narrow c.requires columns.type_name (omega arith), c.requires.size)

pub overflow_sub-place : goal.overflow_sub-place
overflow_sub-place c = omega (arith, (class-found c.class_row.ensures c.in_ok-row.ensures.ok_part).0)

pub read_column-flags-requires : goal.read_column-flags-requires
read_column-flags-requires c =
    let laid = c.requires in
    let at = class-found c.class_row.ensures c.in_ok-row.ensures.ok_part in
    record { laid = laid; column_lt_count = (omega arith, omega (arith, at.0, at.1, same_rows laid columns.type_name columns.type_flags (omega arith) (omega arith) refl)) }

pub returns : goal.returns
returns c = λ strings blob.
    class-flags c.requires strings blob _ (class-found c.class_row.ensures c.in_ok-row.ensures.ok_part) c.read_column-flags.ensures

pub returns-in_err-row : goal.returns-in_err-row
returns-in_err-row c = λ strings blob.
    let e : c.from_residual.result ≡ Err NoSuchRow = search rules in
    rw e (no-class-flags c.requires strings blob _ (class-missed c.class_row.ensures c.in_err-row.ensures.ok_part))
