-- The walk's starts are places of the stream. Assumes nothing.
use mathlib.Core.Path.{◌≡◌, refl, ap}
use mathlib.Core.Bool.{Bool, true, false, cond}
use mathlib.Core.List.{List}
use Prim.Native.Nat.{ℕ, zero, suc, ◌+◌, ◌≤◌, ◌<◌, zero-le}
use native.Mathlib.Numerals.{add-one}
use native.Mathlib.Decide.{dec_lt}
use native.Mathlib.Omega.{arith}
use borrow.Author.Tests.{lt-ltb, leb-true}
use lib.Dec.{leb, ltb}
use lib.ListN.{get_or, get_or-eq_default}
use Rattle.numbers.specs.Lists.{tabulate}
use Rattle.numbers.proofs.Lists.{table_at, tabulate-length}
use Rattle.tables.specs.Extents.{Walked, walk_says, start_of, is_table, passes, stop_kind, if_reached, walked}
use Rattle.tables.specs.declared.Extents.{Extents}
use Rattle.tables.proofs.Stop.{passed}

both : (a b : Bool) → cond a b false ≡ true → b ≡ true
both true b e = e
both false b e = let z : ◌≡◌ {A = ℕ} 0 1 = cc in absurd (omega arith)

module _ (size : ℕ → ℕ) (counts : List ℕ) (n first : ℕ) (within : first ≤ n) where
  -- A kind that the walk reaches begins within the stream.
  reached : (k : ℕ) → k ≤ stop_kind size counts n first → start_of size counts n first k ≤ n
  unfolding start_of passes
  reached zero h = within
  reached (suc k) h = go (dec_lt 0 (get_or counts k 0)) (reached k (omega arith))
    where
      go : Dec (0 < get_or counts k 0) → start_of size counts n first k ≤ n → start_of size counts n first (suc k) ≤ n
      go (yes l) r =
          let p = rw (lt-ltb 0 (get_or counts k 0) l) at (passed size counts n first k h) in
          rw add-one at (leb-true (start_of size counts n first (k + 1)) n (both (ltb k 45) (leb (start_of size counts n first (k + 1)) n) p))
      go (no l) r = let z : get_or counts k 0 ≡ 0 = omega arith in rw z (omega arith)

  found : (k : ℕ) → if_reached size counts n first (start_of size counts n first) k ≤ n
  unfolding if_reached
  found k = go (leb k (stop_kind size counts n first)) (is_table size counts n first k) (λ e. reached k (leb-true _ _ e))
    where
      go : (a b : Bool) → (a ≡ true → start_of size counts n first k ≤ n) → cond a (cond b (start_of size counts n first k) 0) 0 ≤ n
      go true true r = r refl
      go true false r = zero-le
      go false b r = zero-le

  starts-within : (k : ℕ) → get_or (walked size counts n first).starts k 0 ≤ n
  unfolding walked
  starts-within k = go (dec_lt k 64)
    where
      go : Dec (k < 64) → get_or (tabulate (if_reached size counts n first (start_of size counts n first)) 0 64) k 0 ≤ n
      go (yes l) = rw (table_at (if_reached size counts n first (start_of size counts n first)) 0 64 k l) (found k)
      go (no l) =
          let f = if_reached size counts n first (start_of size counts n first) in
          rw (get_or-eq_default (tabulate f 0 64) 0 {n = k} (omega (arith, tabulate-length f 0 64))) zero-le

  -- As the code has them.
  pub start-within : (r : Extents) → walk_says r ≡ walked size counts n first → (k : ℕ) → get_or r.starts k 0 ≤ n
  start-within r e k = rw (ap (λ (w : Walked). w.starts) e) (starts-within k)
