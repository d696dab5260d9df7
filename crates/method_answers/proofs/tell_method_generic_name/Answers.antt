use Rattle.std.proofs.Common.{rules, ◌≡◌, Err}
use Rattle.buffers.specs.declared.Unnamed.TheVariants.{NoRow}
use Rattle.places.proofs.Laws.{method-found, method-missed}
use Rattle.places.proofs.Values.{method-generic, no-method-generic}
use Rattle.method_answers.proofs.tell_method_generic_name.Goals as goal

pub returns : goal.returns
returns c = λ blob k m h.
    method-generic c.requires _ blob k m (method-found (c.row_inside.ensures.1 _ _ _ c.requires _ _ h) c.in_ok-i.ensures.ok_part) _ (c.tell_generic.ensures blob)

pub returns-in_err-i : goal.returns-in_err-i
returns-in_err-i c = λ blob k m h.
    let e : c.from_residual.result ≡ Err NoRow = search rules in
    rw e (no-method-generic c.requires _ blob k m (method-missed (c.row_inside.ensures.1 _ _ _ c.requires _ _ h) c.in_err-i.ensures.ok_part) _ _ _)
