-- How texts that are written from their ends follow one another, and what they come to.
--     behind-none                no byte
--     behind-then                one text, then another before it
--     behind-kept                what stood before the floor is kept by a later call that finds no room
--     placed-then                one text, then a call for another before it
--     placed-from, placed-none   what is known of such a call by its answer
--     moved-wrote                a text that was written up to the buffer's very end, and then moved to its place, was appended
--     wrote-over-kept            a text that does not fit, whatever stands behind its place
-- Assumes nothing.
use mathlib.Core.Path.{◌≡◌, refl, sym, ◌∙◌, ap, subst}
use mathlib.Core.List.{List, [], ◌++◌}
use Prim.Native.Nat.{ℕ, ◌+◌, ◌-◌, ◌<◌, ◌≤◌}
use native.Mathlib.Decide.{dec_lt}
use native.Mathlib.Omega.{arith}
use lib.ListN.{length, get_or, length-append, get_or-append}
use lib.Seq.{get_or-append-add}
use Rattle.std.specs.Prelude.{Some, None}
use Rattle.buffers.specs.Texts.{Text}
use Rattle.buffers.specs.Writes.{Kept, Wrote}
use Rattle.backwards.specs.Backwards.{Behind, Spot, Placed, Moved}

pub behind-none : (b : List ℕ) (floor end : ℕ) → floor ≤ end → Behind b floor end [] b end
behind-none b floor end le = record {
  long = refl;
  low = le;
  place = omega arith;
  below = λ i _. refl;
  above = λ i _. refl;
  text = λ i lt. absurd (omega arith);
}

module _ {b b₁ : List ℕ} {floor end p : ℕ} {t : Text} (w : Behind b floor end t b₁ p) where
  pub behind-kept : {b₂ : List ℕ} → Kept b₁ floor b₂ → Kept b floor b₂
  behind-kept k = record {
    long = k.long ∙ w.long;
    kept = λ i lt in_b. k.kept i lt (omega (arith, w.long)) ∙ w.below i lt;
  }

  pub behind-then : {b₂ : List ℕ} {u : Text} {p₂ : ℕ} → Behind b₁ floor p u b₂ p₂ → Behind b floor end (u ++ t) b₂ p₂
  behind-then {b₂} {u} {p₂} v = record {
    long = v.long ∙ w.long;
    low = v.low;
    place = omega (arith, v.place, w.place, length-append u t);
    below = λ i lt. v.below i lt ∙ w.below i lt;
    above = λ i le. v.above i (omega (arith, w.place)) ∙ w.above i le;
    text = λ i lt. go i lt (dec_lt i (length u));
  }
    where
      go : (i : ℕ) → i < length (u ++ t) → Dec (i < length u) → get_or b₂ (p₂ + i) 0 ≡ get_or (u ++ t) i 0
      go i lt (yes h) = v.text i h ∙ sym (get_or-append u t 0 i h)
      go i lt (no n) =
          let j : ℕ = i - length u in
          let ij : i ≡ length u + j = omega arith in
          let e : p₂ + i ≡ p + j = omega (arith, v.place) in
          ap (λ (k : ℕ). get_or b₂ k 0) e
          ∙ v.above (p + j) (omega arith)
          ∙ w.text j (omega (arith, length-append u t))
          ∙ sym (get_or-append-add u t j 0)
          ∙ ap (λ (k : ℕ). get_or (u ++ t) k 0) (sym ij)

  pub placed-then : (b₂ : List ℕ) (u : Text) (r : Spot) → Placed b₁ floor p u b₂ r → Placed b floor end (u ++ t) b₂ r
  placed-then b₂ u (Some p₂) v = behind-then v
  placed-then b₂ u None v = (omega (arith, v.0, w.place, length-append u t), behind-kept v.1)

module _ {b b' : List ℕ} {floor end : ℕ} {r : Spot} where
  pub placed-from : {t : Text} (p : ℕ) → Placed b floor end t b' r → r ≡ Some p → Behind b floor end t b' p
  placed-from {t} p h e = subst (Placed b floor end t b') e h

  pub placed-none : (t : Text) → Placed b floor end t b' r → r ≡ None → (end < floor + length t) × Kept b floor b'
  placed-none t h e = subst (Placed b floor end t b') e h

pub moved-wrote : {b b₁ b₂ : List ℕ} {at p : ℕ} {t : Text}
    → Behind b at (length b) t b₁ p → Moved b₁ at p b₂ → Wrote b at t b₂ (at + (length b - p))
moved-wrote {b} {b₁} {b₂} {at} {p} {t} w m = record {
  keeps = record { long = m.long ∙ w.long; kept = λ i lt _. m.kept i lt ∙ w.below i lt };
  place = omega (arith, w.place, w.low);
  text = λ _ i lt. m.moved i (omega (arith, w.place, w.long)) ∙ w.text i lt;
}

pub wrote-over-kept : {b b' : List ℕ} (at : ℕ) (t : Text) → length b < at + length t → Kept b at b' → Wrote b at t b' (length b + 1)
wrote-over-kept at t over k = record {
  keeps = k;
  place = omega arith;
  text = λ fits. absurd (omega arith);
}
