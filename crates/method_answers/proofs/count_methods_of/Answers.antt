use Rattle.std.proofs.Common.{rules, ◌≡◌, Err}
use Rattle.buffers.specs.declared.Refusal.TheVariants.{NoSuchRow}
use mathlib.Core.Path.{refl}
use mathlib.Core.List.{[]}
use native.Mathlib.Omega.{arith}
use Rattle.rows.proofs.Laws.{rows-narrow, same_rows}
use Rattle.places.proofs.Laws.{class-found, class-missed}
use Rattle.places.proofs.Values.{class-methods, no-class-methods}
use Rattle.rows.specs.Columns as columns
use Rattle.method_answers.proofs.count_methods_of.Goals as goal

pub class_row-requires : goal.class_row-requires
class_row-requires c = (rows-narrow c.requires columns.type_name (omega arith), c.requires.size)

pub method_range-range-requires : goal.method_range-range-requires
method_range-range-requires c =
    let laid = c.requires in
    let at = class-found c.class_row.ensures c.in_ok-row.ensures.ok_part in
    record { laid = laid; lt_row = (omega (arith, at.0), omega (arith, at.0, at.1, same_rows laid columns.type_name columns.method_list (omega arith) (omega arith) refl)) }

pub overflow_sub-result : goal.overflow_sub-result
overflow_sub-result c = omega (arith, (c.method_range-range.ensures [] []).order)

pub returns : goal.returns
returns c = λ strings blob.
    class-methods c.requires strings blob _ (class-found c.class_row.ensures c.in_ok-row.ensures.ok_part) (c.method_range-range.ensures strings blob)

pub returns-in_err-row : goal.returns-in_err-row
returns-in_err-row c = λ strings blob.
    let e : c.from_residual.result ≡ Err NoSuchRow = search rules in
    rw e (no-class-methods c.requires strings blob _ (class-missed c.class_row.ensures c.in_err-row.ensures.ok_part))
