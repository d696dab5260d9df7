-- The loop of `read_counts`: its invariant, and each way through its body. Assumes nothing.
use mathlib.Core.Path.{◌≡◌, refl, ap, sym, ◌∙◌}
use mathlib.Core.Bool.{Bool, true, false, cond}
use mathlib.Core.List.{List}
use Prim.Native.Nat.{ℕ, zero, suc, ◌+◌, ◌*◌, ◌-◌, ◌/◌, ◌%◌, ◌^◌, ◌≤◌, ◌<◌}
use native.Mathlib.Nat.{add-zero, add-suc, not-suc-le-zero}
use native.Mathlib.Numerals.{add-one}
use native.Mathlib.Omega.{arith}
use borrow.Author.Count.{below_more}
use borrow.Author.Tests.{lt-ltb, le-ltb, eq-eqb}
use lib.Dec.{ltb}
use lib.ListN.{length, get_or, set, length-set, replicate, get_or-replicate}
use lib.Seq.{get_or-set_same, get_or-set_other}
use Rattle.std.specs.Prelude.{Ok, Err}
use Rattle.numbers.specs.Bits.{bit_at, ones_below}
use Rattle.numbers.specs.Fixed.{le_at}
use Rattle.numbers.proofs.Bits.{ones-next, ones-rise}
use Rattle.numbers.proofs.Lists.{table_is}
use Rattle.buffers.specs.declared.Refusal.TheVariants.{TooManyRows}
use Rattle.header.specs.Stream.{valid, row_count, counts_end, over_limit, CountsRead}

pub record Counting (limit : ℕ) (s counts : List ℕ) (at kind : ℕ) : Type 0 where
  pub place : at ≡ 24 + 4 * ones_below (valid s) kind
  pub size : length counts ≡ 64
  pub read : (k : ℕ) → k < kind → get_or counts k 0 ≡ row_count s k
  pub rest : (k : ℕ) → kind ≤ k → k < 64 → get_or counts k 0 ≡ 0
  pub few : over_limit limit s kind ≡ false

-- Each set bit below 64 has its 4 bytes before the end of the counts.
pub count-inside : (m k : ℕ) → k < 64 → bit_at m k ≡ 1 → ones_below m k + 1 ≤ ones_below m 64
count-inside m k h b =
    let a : k + 1 + (63 - k) ≡ 64 = omega arith in
    let g : ones_below m (k + 1) ≤ ones_below m 64 = rw a at (ones-rise m (k + 1) (63 - k)) in
    omega (arith, ones-next m k)

set-bit : (s : List ℕ) (k at : ℕ) → bit_at (valid s) k ≡ 1 → at ≡ 24 + 4 * ones_below (valid s) k → le_at 4 s at ≡ row_count s k
unfolding row_count
set-bit s k at b e = rw (eq-eqb _ _ b) (ap (le_at 4 s) e)

clear-bit : (s : List ℕ) (k : ℕ) → bit_at (valid s) k ≡ 0 → 0 ≡ row_count s k
unfolding row_count
clear-bit s k b = rw b

few-more : (limit : ℕ) (s : List ℕ) (k : ℕ) → over_limit limit s k ≡ false → row_count s k ≤ limit → over_limit limit s (k + 1) ≡ false
unfolding over_limit
few-more limit s k e h = rw (add-one, le-ltb limit (row_count s k) h) e

stays : (b : Bool) → cond b true true ≡ true
stays true = refl
stays false = refl

many : (limit : ℕ) (s : List ℕ) (k : ℕ) → limit < row_count s k → (d : ℕ) → over_limit limit s (k + 1 + d) ≡ true
unfolding over_limit
many limit s k h zero = rw (add-zero, add-one, lt-ltb limit (row_count s k) h)
many limit s k h (suc d) = rw (add-suc, many limit s k h d) (stays (ltb limit (row_count s (k + 1 + d))))

pub begin : (limit : ℕ) (s : List ℕ) → Counting limit s (replicate 64 0) 24 0
unfolding ones_below over_limit
begin limit s =
    record {
      place = refl;
      size = refl;
      read = λ k p. absurd (not-suc-le-zero p);
      rest = λ k p q. get_or-replicate 64 k 0 0 q;
      few = refl;
    }

module _ (limit : ℕ) (s counts : List ℕ) (at kind : ℕ) (i : Counting limit s counts at kind) where
  module _ (h : kind < 64) (mask : ℕ) (e : mask ≡ valid s) where
    bit_is : mask / 2 ^ kind % 2 ≡ bit_at (valid s) kind
    unfolding bit_at
    bit_is = rw e refl

    module _ (b : mask / 2 ^ kind % 2 ≡ 1) where
      set-here : bit_at (valid s) kind ≡ 1
      set-here = sym bit_is ∙ b

      pub room : counts_end s ≤ length s → at + 4 ≤ length s
      room k = omega (arith, count-inside (valid s) kind h set-here, i.place)

      pub over : (n : ℕ) → n ≡ le_at 4 s at → limit < n → CountsRead limit s (Err TooManyRows)
      over n r l =
          let a : kind + 1 + (63 - kind) ≡ 64 = omega arith in
          let c : le_at 4 s at ≡ row_count s kind = set-bit s kind at set-here i.place in
          let o : over_limit limit s 64 ≡ true = rw a at (many limit s kind (omega arith) (63 - kind)) in
          rw o

      pub taken : (n : ℕ) → n ≡ le_at 4 s at → n ≤ limit → Counting limit s (set counts kind n) (at + 4) (kind + 1)
      taken n r l =
          let c : le_at 4 s at ≡ row_count s kind = set-bit s kind at set-here i.place in
          record {
            place = omega (arith, ones-next (valid s) kind, set-here, i.place);
            size = simp length-set i.size;
            read = below_more _ _ (λ k p. get_or-set_other counts kind k n 0 (λ q. omega arith) ∙ i.read k p) (get_or-set_same counts kind n 0 (omega arith) ∙ r ∙ c);
            rest = λ k p q. get_or-set_other counts kind k n 0 (λ d. omega arith) ∙ i.rest k (omega arith) q;
            few = few-more limit s kind i.few (omega arith);
          }

    pub skipped : (mask / 2 ^ kind % 2 ≡ 1 → ⊥) → Counting limit s counts at (kind + 1)
    skipped b =
        let clear : bit_at (valid s) kind ≡ 0 = omega (arith, b, bit_is) in
        let c : 0 ≡ row_count s kind = clear-bit s kind clear in
        record {
          place = omega (arith, ones-next (valid s) kind, clear, i.place);
          size = i.size;
          read = below_more _ _ i.read (i.rest kind (omega arith) h ∙ c);
          rest = λ k p q. i.rest k (omega arith) q;
          few = few-more limit s kind i.few (omega arith);
        }

  pub done : kind ≡ 64 → CountsRead limit s (Ok counts)
  done h =
      let few : over_limit limit s 64 ≡ false = rw h at i.few in
      rw few (ap Ok (table_is (row_count s) 0 64 counts i.size (λ k p. i.read k (omega arith))))
