-- What is left where a pattern did not fit: none where there is not one, and a reason where it did not go well. Assumes nothing.
use mathlib.Core.Path.{◌≡◌, refl}
use Rattle.std.specs.Prelude.{Some, None, Result, Ok, Err}
use Rattle.std.specs.declared.option.Option as std

pub none_left : {A : Type 0} {o : std.Option A} → ((x : A) → o ≡ Some x → ⊥) → o ≡ None
none_left {o = Some x} h = absurd (h x refl)
none_left {o = None} h = refl

pub err_left : {A E : Type 0} {r : Result A E} → ((x : A) → r ≡ Ok x → ⊥) → (why : E) × (r ≡ Err why)
err_left {r = Ok x} h = absurd (h x refl)
err_left {r = Err why} h = (why, refl)
