-- What goes for a number that is read after another. Assumes nothing.
use mathlib.Core.Path.{◌≡◌, sym, ap}
use Prim.Native.Nat.{ℕ}
use native.Mathlib.Nat.{zero-add}
use Rattle.numbers.specs.Reading.{Res, after}

-- A result before which no type byte is read is that result.
pub after_none : {A : Type 0} (r : Res A) → r ≡ after 0 r
after_none r = ap (λ (n : ℕ). record { got = r.got; next = r.next; steps = n }) (sym (zero-add r.steps))
