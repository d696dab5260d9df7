-- What a row of NestedClass does, by its two numbers. Assumes nothing.
use mathlib.Core.Path.{◌≡◌, refl, sym}
use mathlib.Core.Bool.{Bool, true, false, ◌&&◌}
use mathlib.Core.Option.{none, some}
use Prim.Native.Nat.{ℕ, ◌<◌}
use native.Mathlib.Omega.{arith}
use borrow.Author.Tests.{eq-eqb, ne_eqb, lt-ltb, le-ltb}
use lib.Dec.{eqb, ltb}
use Rattle.rows.specs.Held.{around}

module _ (f g : ℕ → ℕ) (i r : ℕ) where
  abbrev acts : Bool
  acts = ltb 1 (f i) && (ltb 1 (g i) && eqb r (f i))

  nothing : acts ≡ false → none ≡ around f g i r
  unfolding around
  nothing e = rw e

  pub around-low : f i < 2 → none ≡ around f g i r
  around-low h = nothing (rw (le-ltb 1 (f i) (omega arith)))

  pub around-other : (f i ≡ r → ⊥) → none ≡ around f g i r
  around-other h = nothing (rw (ne_eqb r (f i) (λ e. h (sym e))) (go (ltb 1 (f i)) (ltb 1 (g i))))
    where
      go : (a b : Bool) → (a && (b && false)) ≡ false
      go true true = refl
      go true false = refl
      go false b = refl

  pub around-out : g i < 2 → none ≡ around f g i r
  around-out h = nothing (rw (le-ltb 1 (g i) (omega arith)) (go (ltb 1 (f i))))
    where
      go : (a : Bool) → (a && false) ≡ false
      go true = refl
      go false = refl

  pub around-in : 1 < f i → 1 < g i → f i ≡ r → some (g i) ≡ around f g i r
  unfolding around
  around-in h k e = rw (lt-ltb 1 (f i) h, lt-ltb 1 (g i) k, eq-eqb r (f i) (sym e))
