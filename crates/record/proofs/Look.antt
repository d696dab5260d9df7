-- Tables of numbers and what stands beside each (`look`). Assumes nothing.
use mathlib.Core.Path.{◌≡◌, refl}
use mathlib.Core.List.{List, [], ◌∷◌}
use Prim.Native.Nat.{ℕ}
use borrow.Author.Tests.{ne_eqb}
use Rattle.record.specs.Types.{look}

-- A number that stands beside no value of a table, in the form of what the last arm of a `match` knows.
abbrev pub Apart : {A : Type 0} → ℕ → Type 0 → List (ℕ × A) → Type 0
Apart b P [] = P
Apart b P (r ∷ rs) = Apart b (P × (b ≡ r.0 → ⊥)) rs

module _ {A : Type 0} (b : ℕ) where
  apart-first : (P : Type 0) (rs : List (ℕ × A)) → Apart b P rs → P
  apart-first P [] h = h
  apart-first P (r ∷ rs) h = (apart-first (P × (b ≡ r.0 → ⊥)) rs h).0

  pub look-past : (P : Type 0) (rs : List (ℕ × A)) (d : A) → Apart b P rs → look b rs d ≡ d
  unfolding look
  look-past P [] d h = refl
  look-past P (r ∷ rs) d h =
      rw (ne_eqb b r.0 (apart-first (P × (b ≡ r.0 → ⊥)) rs h).1) (look-past (P × (b ≡ r.0 → ⊥)) rs d h)
