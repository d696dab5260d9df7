use Rattle.std.proofs.Common.{rules, ◌≡◌, Err}
use Rattle.buffers.specs.declared.Unnamed.TheVariants.{NoRow}
use native.Mathlib.Omega.{arith}
use Rattle.rows.specs.Columns as columns
use Rattle.rows.proofs.Laws.{rows-narrow}
use Rattle.places.proofs.Laws.{class-found, class-missed}
use Rattle.places.proofs.Values.{class-name, class-nameless, no-class-name}
use Rattle.class_answers.proofs.tell_class_name.Goals as goal

pub class_row-requires : goal.class_row-requires
class_row-requires c = (rows-narrow c.requires columns.type_name (omega arith), c.requires.size)

pub overflow_sub-i : goal.overflow_sub-i
overflow_sub-i c = omega (arith, (class-found c.class_row.ensures c.in_ok-row.ensures.ok_part).0)

pub missing_reason-requires : goal.missing_reason-requires
missing_reason-requires c =
    let at = class-found c.class_row.ensures c.in_ok-row.ensures.ok_part in
    record { laid = c.requires; column_lt_count = (omega arith, omega (arith, at.0, at.1)) }

pub returns-in_err-row : goal.returns-in_err-row
returns-in_err-row c = λ blob.
    let e : c.from_residual.result ≡ Err NoRow = search rules in
    rw e (no-class-name c.requires _ blob _ (class-missed c.class_row.ensures c.in_err-row.ensures.ok_part) _ _)

pub returns-in-Some : goal.returns-in-Some
returns-in-Some c = λ blob.
    class-name c.requires _ blob _ (class-found c.class_row.ensures c.in_ok-row.ensures.ok_part) (c.in-Some.ensures blob)

pub returns : goal.returns
returns c = λ blob.
    class-nameless c.requires _ blob _ (class-found c.class_row.ensures c.in_ok-row.ensures.ok_part) (c.in_default.ensures blob) c.missing_reason.ensures
