use Rattle.std.proofs.Common.{rules, ◌≡◌, Err}
use Rattle.buffers.specs.declared.Unnamed.TheVariants.{NoRow}
use native.Mathlib.Omega.{arith}
use Rattle.rows.specs.Columns as columns
use Rattle.rows.proofs.Laws.{rows-narrow}
use Rattle.places.proofs.Laws.{class-found, class-missed}
use Rattle.places.proofs.Values.{class-generic, no-class-generic}
use Rattle.class_answers.proofs.tell_generic_name.Goals as goal

pub class_row-requires : goal.class_row-requires
class_row-requires c = (rows-narrow c.requires columns.type_name (omega arith), c.requires.size)

pub returns : goal.returns
returns c = λ blob.
    class-generic c.requires _ blob _ (class-found c.class_row.ensures c.in_ok-row.ensures.ok_part) _ (c.tell_generic.ensures blob)

pub returns-in_err-row : goal.returns-in_err-row
returns-in_err-row c = λ blob.
    let e : c.from_residual.result ≡ Err NoRow = search rules in
    rw e (no-class-generic c.requires _ blob _ (class-missed c.class_row.ensures c.in_err-row.ensures.ok_part) _ _ _)
