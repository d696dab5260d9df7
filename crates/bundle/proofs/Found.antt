-- Streams are found in the input that they make: the first half of what `Opens` says. Assumes nothing.
use mathlib.Core.Path.{◌≡◌, sym, ap, ◌∙◌}
use mathlib.Core.List.{List, [], ◌∷◌, ◌++◌, append_assoc}
use Rattle.std.specs.Prelude.{Some}
use Prim.Native.Nat.{ℕ, zero, suc, ◌+◌, ◌*◌, ◌/◌, ◌%◌, ◌≤◌, ◌<◌}
use native.Mathlib.Nat.{zero-add}
use native.Mathlib.Omega.{arith}
use borrow.Author.Tests.{ne_eqb, le-leb}
use lib.ListN.{length, take, drop, length-append}
use lib.Seq.{take-append_seam, drop-append_seam, drop-append-add, drop-drop, take_all}
use Rattle.numbers.specs.Parts.{part}
use Rattle.numbers.proofs.Pick.{by-lt}
use Rattle.buffers.specs.Texts.{Text, q, decimal}
use Rattle.buffers.specs.Replies.{value}
use Rattle.buffers.proofs.Decimal.{decimal-small, decimal-more}
use Rattle.bundle.specs.Input.{digit_of, more_digits, number_line, key_line, line_at, bundle_of, bundle_says, Inputs, line_text, input_of}
use Rattle.bundle.proofs.Input.{digit-is, key-number, all_lines, laid-whole}

digit-worth : (d : ℕ) → d ≤ 9 → digit_of (48 + d) ≡ d
digit-worth d h =
    let low : 48 ≤ 48 + d = omega arith in
    let high : 48 + d ≤ 57 = omega arith in
    sym (digit-is (48 + d) low high) ∙ omega arith

-- A digit more.
more-text : (n d at : ℕ) (t : List ℕ) → d ≤ 9 → 0 < n → n * 10 + d ≤ 65536
    → more_digits n at ((48 + d) ∷ t) ≡ more_digits (n * 10 + d) (at + 1) t
unfolding more_digits
more-text n d at t h p l =
    let no_line : 48 + d ≡ 10 → ⊥ = λ e. omega arith in
    let no_zero : n ≡ 0 → ⊥ = λ e. omega arith in
    simp (ne_eqb _ _ no_line, ne_eqb _ _ no_zero, digit-worth d h, le-leb _ _ h, le-leb _ _ l)

small-text : (n at : ℕ) (t : List ℕ) → n < 10 → number_line at (decimal n ++ t) ≡ more_digits n (at + length (decimal n)) t
unfolding number_line
small-text n at t s = let h : n ≤ 9 = omega arith in rw (decimal-small n s) (simp (digit-worth n h, le-leb _ _ h))

step-text : (n at : ℕ) (t : List ℕ) → n ≤ 65536
    → ((u : List ℕ) → number_line at (decimal (n / 10) ++ u) ≡ more_digits (n / 10) (at + length (decimal (n / 10))) u)
    → 10 ≤ n → number_line at (decimal n ++ t) ≡ more_digits n (at + length (decimal n)) t
step-text n at t l before h =
    let last : List ℕ = (48 + n % 10) ∷ [] in
    let place : at + length (decimal (n / 10)) + 1 ≡ at + length (decimal (n / 10) ++ last) = omega (arith, length-append (decimal (n / 10)) last) in
    let whole : n / 10 * 10 + n % 10 ≡ n = omega arith in
    let read : number_line at (decimal (n / 10) ++ ((48 + n % 10) ∷ t)) ≡ more_digits n (at + length (decimal (n / 10) ++ last)) t
    = before ((48 + n % 10) ∷ t)
    ∙ more-text (n / 10) (n % 10) (at + length (decimal (n / 10))) t (omega arith) (omega arith) (omega arith)
    ∙ ap (λ (m : ℕ). more_digits m (at + length (decimal (n / 10)) + 1) t) whole
    ∙ ap (λ (p : ℕ). more_digits n p t) place in
    rw (decimal-more n h, append_assoc (decimal (n / 10)) last t) read

-- The digits of a number are read as that number.
read-decimal : (k n at : ℕ) (t : List ℕ) → n < k → n ≤ 65536 → number_line at (decimal n ++ t) ≡ more_digits n (at + length (decimal n)) t
read-decimal zero n at t h l = absurd (omega arith)
read-decimal (suc k) n at t h l =
    by-lt n 10 (small-text n at t) (λ m. step-text n at t l (λ u. read-decimal k (n / 10) at u (omega arith) (omega arith)) m)

-- A line is read as its number.
line-text : (key : Text) (n at : ℕ) (t : List ℕ) → n ≤ 65536 → key_line key at (line_text key n ++ t) ≡ Some (n, at + length (line_text key n))
unfolding line_text more_digits
line-text key n at t h =
    let x : List ℕ = (decimal n ++ (10 ∷ [])) ++ t in
    let place : at + length key + length (decimal n) + 1 ≡ at + length (key ++ (decimal n ++ (10 ∷ [])))
    = omega (arith, length-append key (decimal n ++ (10 ∷ [])), length-append (decimal n) (10 ∷ [])) in
    rw (append_assoc key (decimal n ++ (10 ∷ [])) t)
    (sym (key-number key at (key ++ x) (take-append_seam key x))
    ∙ rw (drop-append_seam key x, append_assoc (decimal n) (10 ∷ []) t) (read-decimal (suc n) n (at + length key) (10 ∷ t) (omega arith) h)
    ∙ ap (λ (p : ℕ). Some (n, p)) place)

-- Three lists after three others, each found by its place.
module _ (a b c t n h : List ℕ) where
  abbrev joined : List ℕ
  joined = a ++ (b ++ (c ++ (t ++ (n ++ h))))

  after-a : drop (length a) joined ≡ b ++ (c ++ (t ++ (n ++ h)))
  after-a = drop-append_seam a (b ++ (c ++ (t ++ (n ++ h))))

  after-b : drop (length a + length b) joined ≡ c ++ (t ++ (n ++ h))
  after-b = drop-append-add a (b ++ (c ++ (t ++ (n ++ h)))) (length b) ∙ drop-append_seam b (c ++ (t ++ (n ++ h)))

  after-c : drop (length a + length b + length c) joined ≡ t ++ (n ++ h)
  after-c = sym (drop-drop (length c) (length a + length b) joined) ∙ ap (drop (length c)) after-b ∙ drop-append_seam c (t ++ (n ++ h))

  after-t : drop (length a + length b + length c + length t) joined ≡ n ++ h
  after-t = sym (drop-drop (length t) (length a + length b + length c) joined) ∙ ap (drop (length t)) after-c ∙ drop-append_seam t (n ++ h)

  after-n : drop (length a + length b + length c + length t + length n) joined ≡ h
  after-n = sym (drop-drop (length n) (length a + length b + length c + length t) joined) ∙ ap (drop (length n)) after-t ∙ drop-append_seam n h

  joined_length : length joined ≡ length a + length b + length c + length t + length n + length h
  joined_length = simp length-append (omega arith)

-- Three streams, and the lines before them.
module _ (t n h : List ℕ) where
  abbrev a : Text
  a = line_text (q "tables=") (length t)

  abbrev b : Text
  b = line_text (q "strings=") (length n)

  abbrev c : Text
  c = line_text (q "blob=") (length h)

  abbrev s : List ℕ
  s = joined a b c t n h

  abbrev start : ℕ
  start = length a + length b + length c

  opened : length s ≤ 65536 → Some (record {
    tables = record { at = start; len = length t };
    strings = record { at = start + length t; len = length n };
    blob = record { at = start + length t + length n; len = length h };
  }) ≡ bundle_of s
  opened fits =
      let total = joined_length a b c t n h in
      let tables : line_at (q "tables=") s 0 ≡ Some (length t, length a)
      = line-text (q "tables=") (length t) 0 (b ++ (c ++ (t ++ (n ++ h)))) (omega arith) ∙ ap (λ (p : ℕ). Some (length t, p)) (zero-add (length a)) in
      let strings : line_at (q "strings=") s (length a) ≡ Some (length n, length a + length b)
      = ap (key_line (q "strings=") (length a)) (after-a a b c t n h) ∙ line-text (q "strings=") (length n) (length a) (c ++ (t ++ (n ++ h))) (omega arith) in
      let blob : line_at (q "blob=") s (length a + length b) ≡ Some (length h, start)
      = ap (key_line (q "blob=") (length a + length b)) (after-b a b c t n h) ∙ line-text (q "blob=") (length h) (length a + length b) (t ++ (n ++ h)) (omega arith) in
      laid-whole (length s) (length t) (length n) (length h) start (sym total) ∙ all_lines s fits tables strings blob

  part-t : part s start (length t) ≡ t
  part-t = ap (take (length t)) (after-c a b c t n h) ∙ take-append_seam t (n ++ h)

  part-n : part s (start + length t) (length n) ≡ n
  part-n = ap (take (length n)) (after-t a b c t n h) ∙ take-append_seam n h

  part-h : part s (start + length t + length n) (length h) ≡ h
  part-h = ap (take (length h)) (after-n a b c t n h) ∙ take_all (length h) h (omega arith)

  says : length s ≤ 65536 → bundle_says s (bundle_of s) ≡ value (record { tables = t; strings = n; blob = h })
  says fits = rw (← opened fits, part-t, part-n, part-h)

pub found : (i : Inputs) → length (input_of i) ≤ 65536 → bundle_says (input_of i) (bundle_of (input_of i)) ≡ value i
unfolding input_of
found i fits = says i.tables i.strings i.blob fits
