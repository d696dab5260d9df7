-- Laws of rows and classes. Assumes nothing.
use mathlib.Core.Path.{◌≡◌, ap, refl}
use Prim.Native.Nat.{ℕ, ◌+◌, ◌-◌, ◌≤◌, ◌<◌, ◌^◌}
use native.Mathlib.Omega.{arith}
use borrow.Author.Tests.{le-leb, lt-leb}
use Rattle.std.specs.Prelude.{Option, Some, None, SomeIff, unwrap_or}
use Rattle.classes.specs.Numbering.{row_of, RoundTrip}
use Rattle.classes.specs.declared.TypeDefRow.{TypeDefRow}
use Rattle.classes.specs.declared.ClassNumber.{ClassNumber}

-- The row, by whether the sum fits.
pub row_if : (c : ClassNumber) (o : Option ℕ) {n : ℕ} → SomeIff o (c.0 + 2 < 2 ^ 32) (c.0 + 2) → n ≡ unwrap_or o 0
    → ◌≡◌ {A = TypeDefRow} (record { 0 = n }) (row_of c)
unfolding row_of
row_if c None h e = let k : 0xFFFF_FFFF < c.0 + 2 = omega (arith, h) in rw (e, lt-leb _ _ k) refl
row_if c (Some x) h e = let k : c.0 + 2 ≤ 0xFFFF_FFFF = omega (arith, h.0) in rw (e, h.1, le-leb _ _ k) refl

pub round_trip : RoundTrip
round_trip c = let back : c.0 + 1 - 1 ≡ c.0 = omega arith in ap (λ (n : ℕ). record { 0 = n }) back
