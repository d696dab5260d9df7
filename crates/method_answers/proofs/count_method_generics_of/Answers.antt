use Rattle.std.proofs.Common.{rules, ◌≡◌, Err}
use Rattle.buffers.specs.declared.Refusal.TheVariants.{NoSuchRow}
use Rattle.places.proofs.Laws.{method-found, method-missed}
use Rattle.places.proofs.Values.{method-generics, no-method-generics}
use Rattle.method_answers.proofs.count_method_generics_of.Goals as goal

pub returns : goal.returns
returns c = λ strings blob k m h.
    method-generics c.requires strings blob k m (method-found (c.row_inside.ensures.1 _ _ _ c.requires _ _ h) c.in_ok-i.ensures.ok_part) (c.count_generics.ensures strings blob)

pub returns-in_err-i : goal.returns-in_err-i
returns-in_err-i c = λ strings blob k m h.
    let e : c.from_residual.result ≡ Err NoSuchRow = search rules in
    rw e (no-method-generics c.requires strings blob k m (method-missed (c.row_inside.ensures.1 _ _ _ c.requires _ _ h) c.in_err-i.ensures.ok_part))
