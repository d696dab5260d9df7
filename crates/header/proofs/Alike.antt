-- What opening a stream finds is read off its header, its counts and its length alone. Assumes nothing.
use mathlib.Core.Path.{◌≡◌, refl, ap, ap₂, ◌∙◌}
use mathlib.Core.Bool.{Bool, true, false, cond}
use mathlib.Core.List.{List}
use Prim.Native.Nat.{ℕ, zero, suc, ◌+◌, ◌*◌, ◌≤◌, ◌<◌}
use native.Mathlib.Omega.{arith}
use borrow.Author.Tests.{eqb-true}
use lib.Dec.{eqb, ltb}
use lib.ListN.{length, get_or}
use Rattle.numbers.specs.Bits.{bit_at, ones_below}
use Rattle.numbers.specs.Fixed.{le_at}
use Rattle.numbers.proofs.Fixed.{le_at-same}
use Rattle.numbers.proofs.Lists.{tabulate-same}
use Rattle.header.specs.Stream.{valid, row_count, row_counts, counts_end, over_limit, opened}
use Rattle.header.specs.declared.Options.{Options}
use Rattle.header.proofs.CountLoop.{count-inside}

module _ (t u : List ℕ) (len : length u ≡ length t) (e : (p : ℕ) → p < counts_end t → get_or u p 0 ≡ get_or t p 0) where
  valid_same : valid u ≡ valid t
  valid_same = le_at-same t u 8 8 (λ i a b. e i (omega arith))

  count_at : (k : ℕ) (b : Bool) → eqb (bit_at (valid t) k) 1 ≡ b → k < 64
      → cond b (le_at 4 u (24 + 4 * ones_below (valid t) k)) 0 ≡ cond b (le_at 4 t (24 + 4 * ones_below (valid t) k)) 0
  count_at k false s h = refl
  count_at k true s h =
      let c = count-inside (valid t) k h (eqb-true (bit_at (valid t) k) 1 s) in
      le_at-same t u 4 (24 + 4 * ones_below (valid t) k) (λ i a b. e i (omega arith))

  count_same : (k : ℕ) → k < 64 → row_count u k ≡ row_count t k
  unfolding row_count
  count_same k h =
      ap (λ (m : ℕ). cond (eqb (bit_at m k) 1) (le_at 4 u (24 + 4 * ones_below m k)) 0) valid_same
      ∙ count_at k (eqb (bit_at (valid t) k) 1) refl h

  limit-same : (limit k : ℕ) → k ≤ 64 → over_limit limit u k ≡ over_limit limit t k
  unfolding over_limit
  limit-same limit zero h = refl
  limit-same limit (suc k) h =
      ap₂ (λ (c : ℕ) (b : Bool). cond (ltb limit c) true b) (count_same k (omega arith)) (limit-same limit k (omega arith))

  counts_same : row_counts u ≡ row_counts t
  counts_same = tabulate-same (row_count u) (row_count t) 0 64 (λ k a b. count_same k (omega arith))

  pub opened-alike : (o : Options) → opened o u ≡ opened o t
  unfolding opened
  opened-alike o =
      let size = e 6 (omega arith) in
      rw (len, valid_same, limit-same o.limit 64 (omega arith), counts_same, size)
