-- Bytes from 0x26 to 0x7E stand, and eight of them are seen as one number. Assumes nothing.
use Rattle.std.proofs.Common.{◌≡◌, ℕ, ◌+◌, ◌%◌, ◌^◌, ◌<◌, ◌≤◌, false, List, get_or, ◌∙◌, subst, arith, le-ltb, ne_eqb}
use lib.Bits.{bit_and}
use Rattle.numbers.specs.Fixed.{le_at}
use Rattle.numbers.proofs.Words.{all, worth-le, less-low, less-small, less-most}
use Rattle.escapes.specs.Escapes.{special, Stands}

stands-byte : (b : ℕ) → 0x26 ≤ b → b ≤ 0x7E → special b ≡ false
unfolding special
stands-byte b l h = let low : 0x22 ≤ b = omega arith in rw (le-ltb _ _ low, le-ltb _ _ h, ne_eqb b 0x25 (λ e. omega arith))

-- Eight bytes less 0x26 each, by a difference that wraps, where no highest bit is set.
module _ (s : List ℕ) (at : ℕ) (bytes : (i : ℕ) → get_or s i 0 < 256) {v w : ℕ} (is : v ≡ le_at 8 s at) (fits : w < 2 ^ 64)
    (wraps : (w + all 0x26 8) % 2 ^ 64 ≡ v) (clear : bit_and w (all 128 8) ≡ 0) where
  abbrev g : ℕ → ℕ
  g j = get_or s j 0

  pub low-eight : w ≤ all 127 8
  low-eight = less-small g at 0x26 (λ k _. bytes (at + k)) (omega arith) (is ∙ worth-le s 8 at) fits wraps clear

  pub stand-eight : bit_and (w + all 0x27 8) (all 128 8) ≡ 0 → Stands s at 8
  stand-eight e = record { each = λ k l. stands-byte (g (at + k)) (low k l) (omega (arith, high k l)) }
    where
      low : (k : ℕ) → k < 8 → 0x26 ≤ g (at + k)
      low = less-low g at 0x26 (λ k _. bytes (at + k)) (omega arith) (is ∙ worth-le s 8 at) fits wraps clear

      high : (k : ℕ) → k < 8 → g (at + k) + 0x27 < 0x26 + 128
      high = less-most g at 0x26 (λ k _. bytes (at + k)) (omega arith) (is ∙ worth-le s 8 at) fits wraps clear 0x27 (omega arith) e

  -- The sum does not wrap.
  pub stand-wrapped : {r : ℕ} → r ≡ (w + all 0x27 8) % 2 ^ 64 → bit_and r (all 128 8) ≡ 0 → Stands s at 8
  stand-wrapped {r} e z =
      let sum : r ≡ w + all 0x27 8 = omega (arith, e, low-eight) in
      stand-eight (subst (λ (x : ℕ). bit_and x (all 128 8) ≡ 0) sum z)
