-- The loops that fill a part of a buffer, whose bytes a function names.
--     fill_start, fill-turn      no byte yet; one byte more
--     fill-behind                all bytes of a text are there
--     move-turn, fill-moved      the same of bytes that are moved down within the buffer: one more; all of them
-- Assumes nothing.
use mathlib.Core.Path.{◌≡◌, refl, ◌∙◌}
use mathlib.Core.List.{List}
use Prim.Native.Nat.{ℕ, ◌+◌, ◌<◌, ◌≤◌}
use native.Mathlib.Decide.{dec_lt}
use native.Mathlib.Omega.{arith}
use lib.ListN.{length, get_or, set, length-set}
use lib.Seq.{get_or-set_same, get_or-set_other}
use Rattle.buffers.specs.Texts.{Text}
use Rattle.backwards.specs.Backwards.{Behind, Moved}

-- From the buffer b₀ to b, the first i bytes from a place on are those that f names, and all others as they were.
pub record Filling (b₀ : List ℕ) (at : ℕ) (f : ℕ → ℕ) (b : List ℕ) (i : ℕ) : Type 0 where
  pub long : length b ≡ length b₀
  pub below : (j : ℕ) → j < at → get_or b j 0 ≡ get_or b₀ j 0
  pub above : (j : ℕ) → at + i ≤ j → get_or b j 0 ≡ get_or b₀ j 0
  pub filled : (j : ℕ) → j < i → get_or b (at + j) 0 ≡ f j

pub fill_start : (b : List ℕ) (at : ℕ) (f : ℕ → ℕ) → Filling b at f b 0
fill_start b at f = record { long = refl; below = λ j _. refl; above = λ j _. refl; filled = λ j lt. absurd (omega arith) }

module _ {b₀ b : List ℕ} {at i : ℕ} {f : ℕ → ℕ} (l : Filling b₀ at f b i) where
  pub fill-turn : (x : ℕ) → x ≡ f i → at + i < length b → Filling b₀ at f (set b (at + i) x) (i + 1)
  fill-turn x e room = record {
    long = length-set b (at + i) x ∙ l.long;
    below = λ j lt. get_or-set_other b (at + i) j x 0 (omega arith) ∙ l.below j lt;
    above = λ j le. get_or-set_other b (at + i) j x 0 (omega arith) ∙ l.above j (omega arith);
    filled = λ j lt. go j lt (dec_lt j i);
  }
    where
      go : (j : ℕ) → j < i + 1 → Dec (j < i) → get_or (set b (at + i) x) (at + j) 0 ≡ f j
      go j lt (yes y) = get_or-set_other b (at + i) (at + j) x 0 (omega arith) ∙ l.filled j y
      go j lt (no n) =
          let ji : j ≡ i = omega arith in
          rw ji (get_or-set_same b (at + i) x 0 room ∙ e)

-- A text was copied to where it ends at a place.
pub fill-behind : {b₀ b : List ℕ} {p i : ℕ} (floor end : ℕ) (t : Text) → floor ≤ p → p + length t ≡ end → i ≡ length t
    → Filling b₀ p (λ j. get_or t j 0) b i → Behind b₀ floor end t b p
fill-behind floor end t low place all l = record {
  long = l.long;
  low = low;
  place = place;
  below = λ j lt. l.below j (omega arith);
  above = λ j le. l.above j (omega arith);
  text = λ j lt. l.filled j (omega arith);
}

-- Bytes are moved down: the one that is read next is still as it was.
module _ {b₀ b : List ℕ} {at from i : ℕ} (l : Filling b₀ at (λ j. get_or b₀ (from + j) 0) b i) where
  pub move-turn : at ≤ from → from + i < length b → Filling b₀ at (λ j. get_or b₀ (from + j) 0) (set b (at + i) (get_or b (from + i) 0)) (i + 1)
  move-turn le room = fill-turn l (get_or b (from + i) 0) (l.above (from + i) (omega arith)) (omega arith)

  pub fill-moved : length b ≤ from + i → Moved b₀ at from b
  fill-moved done = record { long = l.long; kept = l.below; moved = λ j lt. l.filled j (omega (arith, l.long)) }
