use Rattle.std.proofs.Common.{rules, ◌≡◌, Err}
use Rattle.buffers.specs.declared.Unnamed.TheVariants.{NoRow}
use native.Mathlib.Omega.{arith}
use Rattle.places.proofs.Laws.{method-found, method-missed}
use Rattle.places.proofs.Values.{method-name, no-method-name}
use Rattle.method_answers.proofs.tell_method_name.Goals as goal

pub tell_string-requires : goal.tell_string-requires
tell_string-requires c = record { laid = c.requires; column_lt_count = (omega arith, c.row_inside.ensures.0 _ c.in_ok-i.ensures.ok_part) }

pub returns : goal.returns
returns c = λ blob k m h.
    method-name c.requires _ blob k m (method-found (c.row_inside.ensures.1 _ _ _ c.requires _ _ h) c.in_ok-i.ensures.ok_part) c.tell_string.ensures

pub returns-in_err-i : goal.returns-in_err-i
returns-in_err-i c = λ blob k m h.
    let e : c.from_residual.result ≡ Err NoRow = search rules in
    rw e (no-method-name c.requires _ blob k m (method-missed (c.row_inside.ensures.1 _ _ _ c.requires _ _ h) c.in_err-i.ensures.ok_part) _ _)
