-- What the walk passed, and what it was left at: before the stopping kind every table has all its rows, and at it a table lacks one.
-- Assumes nothing.
use mathlib.Core.Path.{◌≡◌, refl, sym}
use mathlib.Core.Bool.{Bool, true, false, cond}
use mathlib.Core.List.{List}
use mathlib.Core.Logic.{dite}
use Prim.Native.Nat.{ℕ, zero, suc, ◌+◌, ◌*◌, ◌-◌, ◌/◌, ◌≤◌, ◌<◌}
use native.Mathlib.Nat.{le-div_iff_mul-le, div-lt_iff_lt-mul, le_refl, mul-pos}
use native.Mathlib.Numerals.{add-one}
use native.Mathlib.Decide.{dec_lt}
use native.Mathlib.Omega.{arith}
use borrow.Author.Tests.{lt-ltb, le-ltb, le-leb, leb-true, leb-false}
use lib.ListN.{get_or}
use Rattle.tables.specs.Extents.{start_of, is_table, passes, stop_from, stop_kind, whole_rows, if_reached}

contra : false ≡ true → ◌≡◌ {A = ℕ} 0 1
contra e = cc

module _ (size : ℕ → ℕ) (counts : List ℕ) (n first : ℕ) where
  -- one step of `stop_from`, by the kind that it looks at
  step : (m k : ℕ) (b : Bool) → passes size counts n first k ≡ b → stop_from size counts n first (suc m) k ≡ cond b (stop_from size counts n first m (k + 1)) k
  unfolding stop_from
  step m k b e = rw e

  none : (k : ℕ) → stop_from size counts n first zero k ≡ k
  unfolding stop_from
  none k = refl

  from_le : (m k : ℕ) → k ≤ stop_from size counts n first m k
  from_le zero k = rw none (le_refl _)
  from_le (suc m) k = go (passes size counts n first k) refl (from_le m (k + 1))
    where
      go : (b : Bool) → passes size counts n first k ≡ b → k + 1 ≤ stop_from size counts n first m (k + 1) → k ≤ stop_from size counts n first (suc m) k
      go true e h = rw (step m k true e) (omega arith)
      go false e h = rw (step m k false e) (le_refl _)

  -- every kind before the stop was passed
  through : (m k j : ℕ) → k ≤ j → j < stop_from size counts n first m k → passes size counts n first j ≡ true
  through zero k j h l = let q = rw none at l in absurd (omega arith)
  through (suc m) k j h l = go (passes size counts n first k) refl (λ u v. through m (k + 1) j u v)
    where
      go : (b : Bool) → passes size counts n first k ≡ b → (k + 1 ≤ j → j < stop_from size counts n first m (k + 1) → passes size counts n first j ≡ true) → passes size counts n first j ≡ true
      go true e r =
          let q = rw (step m k true e) at l in
          dite (dec_lt k j) (λ u. r (omega arith) q) (λ u. let z : j ≡ k = omega arith in rw z e)
      go false e r = let q = rw (step m k false e) at l in absurd (omega arith)

  -- the stop itself was not
  halts : (m k : ℕ) → stop_from size counts n first m k < k + m → passes size counts n first (stop_from size counts n first m k) ≡ false
  halts zero k l = let q = rw none at l in absurd (omega arith)
  halts (suc m) k l = go (passes size counts n first k) refl (λ u. halts m (k + 1) u)
    where
      go : (b : Bool) → passes size counts n first k ≡ b → (stop_from size counts n first m (k + 1) < k + 1 + m → passes size counts n first (stop_from size counts n first m (k + 1)) ≡ false)
          → passes size counts n first (stop_from size counts n first (suc m) k) ≡ false
      go true e r =
          let q = rw (step m k true e) at l in
          rw (step m k true e) (r (omega arith))
      go false e r = rw (step m k false e) e

  pub passed : (k : ℕ) → k < stop_kind size counts n first → passes size counts n first k ≡ true
  unfolding stop_kind
  passed k h = through 64 0 k (omega arith) h

  pub not-passed : stop_kind size counts n first < 64 → passes size counts n first (stop_kind size counts n first) ≡ false
  unfolding stop_kind
  not-passed h = halts 64 0 (omega arith)

  -- a kind that was passed is empty, or known and within the stream
  pub passed-cases : {C : Type 0} (k : ℕ) → passes size counts n first k ≡ true → (get_or counts k 0 ≤ 0 → C) → (0 < get_or counts k 0 → k < 45 → start_of size counts n first (k + 1) ≤ n → C) → C
  unfolding passes
  passed-cases k e a b =
      dite (dec_lt 0 (get_or counts k 0))
      (λ u.
      let g = rw (lt-ltb 0 (get_or counts k 0) u) at e in
      dite (dec_lt k 45) (λ v. b u v (leb-true _ _ (rw (lt-ltb k 45 v) at g)))
      (λ v. let z : ◌≡◌ {A = ℕ} 0 1 = contra (rw (le-ltb k 45 (omega arith)) at g) in absurd (omega arith)))
      (λ u. a (omega arith))

  pub halted-cases : {C : Type 0} (k : ℕ) → passes size counts n first k ≡ false → (0 < get_or counts k 0 → 45 ≤ k → C) → (0 < get_or counts k 0 → k < 45 → n < start_of size counts n first (k + 1) → C) → C
  unfolding passes
  halted-cases k e a b =
      dite (dec_lt 0 (get_or counts k 0))
      (λ u.
      let g = rw (lt-ltb 0 (get_or counts k 0) u) at e in
      dite (dec_lt k 45) (λ v. b u v (leb-false _ _ (rw (lt-ltb k 45 v) at g)))
      (λ v. a u (omega arith)))
      (λ u. let z : ◌≡◌ {A = ℕ} 0 1 = contra (sym (rw (le-ltb 0 (get_or counts k 0) (omega arith)) at e)) in absurd (omega arith))

  pub next : (k : ℕ) → start_of size counts n first (k + 1) ≡ start_of size counts n first k + get_or counts k 0 * size k
  unfolding start_of
  next k = rw add-one

  module _ (pos : (k : ℕ) → k < 45 → 0 < size k) where
    -- before the stop every table has all its rows
    pub entire : (k : ℕ) → k < stop_kind size counts n first → if_reached size counts n first (whole_rows size counts n first) k ≡ get_or counts k 0
    unfolding if_reached is_table whole_rows
    entire k h =
        rw (le-leb k (stop_kind size counts n first) (omega arith))
        (passed-cases k (passed k h) (λ a. rw (le-ltb 0 (get_or counts k 0) a) (omega arith))
        (λ a b c.
        let r : get_or counts k 0 * size k ≤ n - start_of size counts n first k = omega (arith, next k) in
        let q : get_or counts k 0 ≤ (n - start_of size counts n first k) / size k = (le-div_iff_mul-le (pos k b)).1 r in
        rw (lt-ltb 0 (get_or counts k 0) a, lt-ltb k 45 b) (omega arith)))

    -- at the stop a table lacks a row
    pub cut_short : stop_kind size counts n first < 64 → if_reached size counts n first (whole_rows size counts n first) (stop_kind size counts n first) < get_or counts (stop_kind size counts n first) 0
    unfolding if_reached is_table whole_rows
    cut_short h =
        let k = stop_kind size counts n first in
        rw (le-leb k k (omega arith))
        (halted-cases k (not-passed h) (λ a b. rw (lt-ltb 0 (get_or counts k 0) a, le-ltb k 45 b) a)
        (λ a b c.
        let m : 0 < get_or counts k 0 * size k = mul-pos a (pos k b) in
        let r : n - start_of size counts n first k < get_or counts k 0 * size k = omega (arith, next k) in
        let q : (n - start_of size counts n first k) / size k < get_or counts k 0 = (div-lt_iff_lt-mul (pos k b)).1 r in
        rw (lt-ltb 0 (get_or counts k 0) a, lt-ltb k 45 b) (omega arith)))
