use Rattle.std.proofs.Common.{rules, ◌≡◌, Err}
use Rattle.buffers.specs.declared.Refusal.TheVariants.{NoSuchRow}
use native.Mathlib.Omega.{arith}
use Rattle.rows.proofs.Laws.{rows-narrow}
use Rattle.places.proofs.Laws.{class-found, class-missed}
use Rattle.places.proofs.Values.{class-generics, no-class-generics}
use Rattle.rows.specs.Columns as columns
use Rattle.class_answers.proofs.count_generics_of.Goals as goal

pub class_row-requires : goal.class_row-requires
class_row-requires c = (rows-narrow c.requires columns.type_name (omega arith), c.requires.size)

pub returns : goal.returns
returns c = λ strings blob.
    class-generics c.requires strings blob _ (class-found c.class_row.ensures c.in_ok-row.ensures.ok_part) (c.count_generics.ensures strings blob)

pub returns-in_err-row : goal.returns-in_err-row
returns-in_err-row c = λ strings blob.
    let e : c.from_residual.result ≡ Err NoSuchRow = search rules in
    rw e (no-class-generics c.requires strings blob _ (class-missed c.class_row.ensures c.in_err-row.ensures.ok_part))
