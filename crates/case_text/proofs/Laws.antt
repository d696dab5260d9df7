-- Laws of the text of cases, one for each way through its definitions. Assumes nothing.
use Rattle.std.proofs.Common.{◌≡◌, refl, sym, ap, ◌∙◌, List, [], ◌∷◌, ◌++◌, ℕ, ◌+◌, ◌-◌, ◌*◌, ◌≤◌, ◌<◌, add-one, add-zero, arith, length, get_or, drop, length-append, length-drop, get_or-drop}
use Rattle.std.proofs.lemmas.List.{drop_at, drop-drop, get_or_append_left}
use Rattle.std.specs.Borrow.{Bor}
use Rattle.numbers.specs.Parts.{CutOf}
use Rattle.numbers.proofs.Parts.{cut-is, none-start, none-length}
use Rattle.buffers.specs.Writes.{Wrote}
use Rattle.buffers.proofs.Writing.{wrote_none, wrote_then}
use Rattle.case_text.specs.Digits.{hex_digit, hex_pair, hex_bytes, with_digit, worth}

-- Past the end there is nothing.
pub after_none : (r s : Bor (List ℕ)) (n : ℕ) → length s.now ≤ n → CutOf r s 0 0 → CutOf r s (n + 1) (length s.now - (n + 1))
after_none r s n h c =
    let over : length s.now < n + 1 + (length s.now - (n + 1)) = omega arith in
    rw (none-start s.now (n + 1) (length s.now - (n + 1)) over, none-length s.now (n + 1) (length s.now - (n + 1)) over) (cut-is r s 0 0 (omega arith) c)

-- A text that goes on with a pair, and then with what is left.
module _ (s x t : List ℕ) (m : ℕ) (h : drop m s ≡ x ++ t) (two : length x ≡ 2) where
  pub pair-fits : m + 2 ≤ length s
  pair-fits = omega (arith, ap length h, length-append x t, length-drop m s)

  pub pair-rest : t ≡ drop (m + 2) s
  pair-rest = sym (drop_at x t 2 two) ∙ ap (drop 2) (sym h) ∙ drop-drop 2 m s

  pair-digit : (i : ℕ) → i < length x → get_or x i 0 ≡ get_or s (m + i) 0
  pair-digit i k = sym (get_or_append_left x t 0 i k) ∙ ap (λ (l : List ℕ). get_or l i 0) (sym h) ∙ get_or-drop m s i 0

  pub pair-worth : hex_pair (get_or x 0 0) (get_or x 1 0) ≡ hex_pair (get_or s m 0) (get_or s (m + 1) 0)
  pair-worth =
      let first : get_or x 0 0 ≡ get_or s m 0 = pair-digit 0 (omega arith) ∙ ap (λ (i : ℕ). get_or s i 0) (add-zero m) in
      let second : get_or x 1 0 ≡ get_or s (m + 1) 0 = pair-digit 1 (omega arith) in
      rw (first, second) refl

-- The bytes of pairs: none, and one more.
pub hex-none : (b s : List ℕ) → Wrote b 0 (hex_bytes 0 s) b 0
unfolding hex_bytes
hex-none b s = wrote_none b 0 0 (omega arith)

pub hex-more : {b b₁ b₂ : List ℕ} {at at' x : ℕ} (s : List ℕ) (n : ℕ) → Wrote b 0 (hex_bytes n s) b₁ at
    → x ≡ hex_pair (get_or s (2 * n) 0) (get_or s (2 * n + 1) 0) → Wrote b₁ at (x ∷ []) b₂ at' → Wrote b 0 (hex_bytes (n + 1) s) b₂ at'
unfolding hex_bytes
hex-more s n p e r = rw (add-one n, ← e) (wrote_then p r)

-- The worth of digits: none, and one more.
pub worth-none : (s : List ℕ) → 0 ≡ worth 0 s
unfolding worth
worth-none s = refl

pub worth-more : {x y d : ℕ} (s : List ℕ) (n : ℕ) → x ≡ worth n s → d ≡ hex_digit (get_or s n 0) → y ≡ with_digit x d → y ≡ worth (n + 1) s
unfolding worth
worth-more s n e f g = rw (add-one n, ← e, ← f) g
