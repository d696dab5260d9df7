-- Rows that keep their order where their keys are equal leave each key's list as it was. And a swap of two rows of one key changes it.
-- Assumes nothing.
use mathlib.Core.Path.{◌≡◌, refl, sym, ap, ◌∙◌}
use mathlib.Core.Logic.{◌⊎◌, inl, inr, ◌≢◌}
use mathlib.Core.Bool.{Bool, true, false, cond}
use mathlib.Core.List.{List, [], ◌∷◌, ◌++◌, map, map-append, append_assoc, append_cancel_left}
use Prim.Native.Nat.{ℕ, zero, suc, ◌<◌}
use native.Mathlib.Nat.{eq-or-lt_of_le, le_of_suc-le-suc}
use native.Mathlib.Omega.{arith}
use lib.Dec.{eqb}
use borrow.Author.Tests.{eqb-true, eq-eqb}
use Rattle.record.specs.Rows.{add, of_key}
use Rattle.record.specs.Rearrangement.{Moved}
use Rattle.record.proofs.Fold.{runs_moved, runs_same}

module _ {W : Type 0} (key : List ℕ → ℕ) (value : List ℕ → W) where
  one_of : (x y : Bool) (l : List W) (a b : W) → (x ≡ true → y ≡ true → ⊥)
      → cond y (cond x (l ++ a ∷ []) l ++ b ∷ []) (cond x (l ++ a ∷ []) l) ≡ cond x (cond y (l ++ b ∷ []) l ++ a ∷ []) (cond y (l ++ b ∷ []) l)
  one_of true true l a b h = absurd (h refl refl)
  one_of true false l a b h = refl
  one_of false true l a b h = refl
  one_of false false l a b h = refl

  pub of_key-moved : (n : ℕ) (old new : ℕ → List ℕ) → Moved (λ r q. key r ≡ key q) n old new → (k : ℕ) → of_key key value old n k ≡ of_key key value new n k
  of_key-moved n old new m k =
      runs_moved (add key value k) (λ r q. key r ≡ key q)
      (λ a b ne l. one_of (eqb (key a) k) (eqb (key b) k) l (value a) (value b)
      (λ p q. ne (eqb-true (key a) k p ∙ sym (eqb-true (key b) k q))))
      n old new m []

  -- The list of a key, cut at a row of that key.
  abbrev pub Cut : (ℕ → List ℕ) → ℕ → ℕ → ℕ → Type 0
  Cut row k n i = (rest : List W) × (of_key key value row n k ≡ of_key key value row i k ++ value (row i) ∷ rest)

  cut-here : (row : ℕ → List ℕ) (k n : ℕ) → key (row n) ≡ k → Cut row k (suc n) n
  cut-here row k n e = ([], ap (λ x. cond x (of_key key value row n k ++ value (row n) ∷ []) (of_key key value row n k)) (eq-eqb (key (row n)) k e))

  more : (x : Bool) (l p rest : List W) (a w : W) → l ≡ p ++ a ∷ rest → cond x (l ++ w ∷ []) l ≡ p ++ a ∷ cond x (rest ++ w ∷ []) rest
  more true l p rest a w e = rw e (append_assoc p (a ∷ rest) (w ∷ []))
  more false l p rest a w e = e

  pub cut : (row : ℕ → List ℕ) (k n i : ℕ) → i < n → key (row i) ≡ k → Cut row k n i
  cut row k zero i h e = absurd (omega arith)
  cut row k (suc n) i h e = go (eq-or-lt_of_le (le_of_suc-le-suc h)) (λ l. cut row k n i l e)
    where
      go : (i ≡ n) ⊎ (i < n) → (i < n → Cut row k n i) → Cut row k (suc n) i
      go (inl s) rec = rw s (cut-here row k n (rw s at e))
      go (inr l) rec =
          let c = rec l in
          let x = eqb (key (row n)) k in
          (cond x (c.0 ++ value (row n) ∷ []) c.0, more x (of_key key value row n k) (of_key key value row i k) c.0 (value (row i)) (value (row n)) c.1)

  -- Two tables whose first difference is at row a, of key k in both and of different values, give k different lists.
  pub of_key-differs : (old new : ℕ → List ℕ) (k n a : ℕ) → a < n → ((i : ℕ) → i < a → new i ≡ old i)
      → key (old a) ≡ k → key (new a) ≡ k → value (new a) ≢ value (old a) → of_key key value new n k ≢ of_key key value old n k
  of_key-differs old new k n a h below ko kn ne e =
      let co = cut old k n a h ko in
      let cn = cut new k n a h kn in
      let front : of_key key value new a k ≡ of_key key value old a k = runs_same (add key value k) a new old below [] in
      let eo = co.1 in
      let en = cn.1 in
      let tails = append_cancel_left (of_key key value old a k) (value (new a) ∷ cn.0) (value (old a) ∷ co.0) (cc) in
      ne (cc)

-- What is made of each value of a key's list.
pub of_key-map : {X W : Type 0} (f : X → W) (key : List ℕ → ℕ) (value : List ℕ → X) (row : ℕ → List ℕ) (n k : ℕ)
    → map f (of_key key value row n k) ≡ of_key key (λ r. f (value r)) row n k
of_key-map f key value row zero k = refl
of_key-map f key value row (suc n) k = go (eqb (key (row n)) k) (of_key-map f key value row n k)
  where
    go : (x : Bool) → map f (of_key key value row n k) ≡ of_key key (λ r. f (value r)) row n k
        → map f (cond x (of_key key value row n k ++ value (row n) ∷ []) (of_key key value row n k))
        ≡ cond x (of_key key (λ r. f (value r)) row n k ++ f (value (row n)) ∷ []) (of_key key (λ r. f (value r)) row n k)
    go true e = map-append f (of_key key value row n k) (value (row n) ∷ []) ∙ ap (λ l. l ++ f (value (row n)) ∷ []) e
    go false e = e
