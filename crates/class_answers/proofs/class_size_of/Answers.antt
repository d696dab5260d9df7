use Rattle.std.proofs.Common.{rules, ◌≡◌, Err}
use Rattle.buffers.specs.declared.Refusal.TheVariants.{NoSuchRow}
use mathlib.Core.Path.{refl}
use native.Mathlib.Omega.{arith}
use Rattle.rows.specs.Columns as columns
use Rattle.rows.proofs.Laws.{same_rows}
use Rattle.class_answers.proofs.Layouts.{row_inside, size_is, no_size}
use Rattle.class_answers.proofs.class_size_of.Goals as goal

pub read_column-size-requires : goal.read_column-size-requires
read_column-size-requires c =
    let laid = c.requires in
    let inside = row_inside c.layout_row.ensures c.in_ok-i.ensures.ok_part in
    record { laid = laid; column_lt_count = (omega arith, omega (arith, inside, same_rows laid columns.layout_parent columns.class_size (omega arith) (omega arith) refl)) }

pub returns : goal.returns
returns c = λ strings blob. size_is c.layout_row.ensures strings blob c.in_ok-i.ensures.ok_part c.read_column-size.ensures

pub returns-in_err-i : goal.returns-in_err-i
returns-in_err-i c = λ strings blob.
    let e : c.from_residual.result ≡ Err NoSuchRow = search rules in
    rw e (no_size c.layout_row.ensures strings blob c.in_err-i.ensures.ok_part)
