-- An input in which streams are found is the one that they make: the second half of what `Opens` says. Assumes nothing.
use mathlib.Core.Path.{◌≡◌, refl, sym, ap, ◌∙◌}
use mathlib.Core.List.{List, [], ◌∷◌, ◌++◌, append_assoc, append-nil}
use Rattle.std.specs.Prelude.{Option, Some, None}
use Rattle.std.specs.Option.{unwrap_or}
use Prim.Native.Nat.{ℕ, ◌+◌, ◌*◌, ◌/◌, ◌%◌, ◌≤◌}
use native.Mathlib.Omega.{arith}
use lib.ListN.{length, drop, length-append, length-drop, take-append-drop}
use lib.Seq.{drop-append_seam, drop-drop, take_all, length-take-le}
use Rattle.numbers.specs.Parts.{part}
use Rattle.numbers.proofs.Pick.{pick-lt, pick-le, pick-eq}
use Rattle.buffers.specs.Texts.{Text, q, decimal}
use Rattle.buffers.specs.Replies.{value}
use Rattle.buffers.proofs.Decimal.{decimal-small, decimal-more}
use Rattle.bundle.specs.Input.{Line, digit_of, more_digits, number_line, key_line, line_at, laid, on_line, bundle_of, bundle_says, Inputs, line_text, input_of, Opens}
use Rattle.bundle.specs.declared.Bundle.{Bundle}
use Rattle.bundle.proofs.Found.{found}

-- A digit is the byte that it was read from.
digit-told : (c : ℕ) → digit_of c ≤ 9 → 48 + digit_of c ≡ c
unfolding digit_of
digit-told c =
    pick-lt P c 48 (λ _ h. absurd (omega arith)) (λ low. pick-lt P 57 c (λ _ h. absurd (omega arith)) (λ high h. omega arith))
  where
    P : ℕ → Type 0
    P d = d ≤ 9 → 48 + d ≡ c

never : {A : Type 0} {m next : ℕ} → ◌≡◌ {A = Line} None (Some (m, next)) → A
never e = let z : ◌≡◌ {A = ℕ} 0 1 = cc in absurd (omega arith)

-- Digits that go on from n and are read as m.
record Digits (n at : ℕ) (s : List ℕ) (m next : ℕ) : Type 0 where
  used : List ℕ
  rest : List ℕ
  splits : s ≡ used ++ (10 ∷ rest)
  worth : decimal m ≡ decimal n ++ used
  place : next ≡ at + length used + 1

digits-end : (n at c : ℕ) (s : List ℕ) {m next : ℕ} → c ≡ 10 → ◌≡◌ {A = Line} (Some (n, at + 1)) (Some (m, next)) → Digits n at (c ∷ s) m next
digits-end n at c s {m} {next} is e =
    let same : n ≡ m = ap (λ (l : Line). (unwrap_or l (0, 0)).0) e in
    let after : at + 1 ≡ next = ap (λ (l : Line). (unwrap_or l (0, 0)).1) e in
    record {
      used = [];
      rest = s;
      splits = ap (λ (x : ℕ). x ∷ s) is;
      worth = ap decimal (sym same) ∙ sym (append-nil (decimal n));
      place = omega arith;
    }

digits_more : (n at c : ℕ) (s : List ℕ) {m next : ℕ} → (n ≡ 0 → ⊥) → digit_of c ≤ 9 → Digits (n * 10 + digit_of c) (at + 1) s m next → Digits n at (c ∷ s) m next
digits_more n at c s no_zero h d =
    let tens : (n * 10 + digit_of c) / 10 ≡ n = omega arith in
    let last : 48 + (n * 10 + digit_of c) % 10 ≡ c = omega (arith, digit-told c h) in
    let grown : decimal (n * 10 + digit_of c) ≡ decimal n ++ (c ∷ []) = decimal-more (n * 10 + digit_of c) (omega arith) ∙ rw (tens, last) in
    record {
      used = c ∷ d.used;
      rest = d.rest;
      splits = ap (λ (l : List ℕ). c ∷ l) d.splits;
      worth = d.worth ∙ ap (λ (l : List ℕ). l ++ d.used) grown ∙ append_assoc (decimal n) (c ∷ []) d.used;
      place = omega (arith, d.place);
    }

digits-told : (n at : ℕ) (s : List ℕ) (m next : ℕ) → more_digits n at s ≡ Some (m, next) → Digits n at s m next
unfolding more_digits
digits-told n at [] m next e = never e
digits-told n at (c ∷ s) m next e =
    let P : Line → Type 0 = λ l. l ≡ Some (m, next) → Digits n at (c ∷ s) m next in
    pick-eq P c 10 (λ is e. digits-end n at c s is e)
    (λ _. pick-eq P n 0 (λ _ e. never e)
    (λ no_zero. pick-le P (digit_of c) 9
    (λ h. pick-le P (n * 10 + digit_of c) 65536 (λ _ e. digits_more n at c s no_zero h (digits-told (n * 10 + digit_of c) (at + 1) s m next e)) (λ _ e. never e))
    (λ _ e. never e)))
    e

-- A line that is read as its number.
record LineTold (key : Text) (at : ℕ) (s : List ℕ) (m next : ℕ) : Type 0 where
  rest : List ℕ
  text : s ≡ line_text key m ++ rest
  place : next ≡ at + length (line_text key m)

number-told : (at : ℕ) (s : List ℕ) (m next : ℕ) → number_line at s ≡ Some (m, next) → LineTold [] at s m next
unfolding number_line line_text
number-told at [] m next e = never e
number-told at (c ∷ s) m next e =
    pick-le (λ (l : Line). l ≡ Some (m, next) → LineTold [] at (c ∷ s) m next) (digit_of c) 9
    (λ h e.
    let d = digits-told (digit_of c) (at + 1) s m next e in
    let digits : decimal m ≡ c ∷ d.used = d.worth ∙ ap (λ (l : List ℕ). l ++ d.used) (decimal-small (digit_of c) (omega arith)) ∙ ap (λ (x : ℕ). x ∷ d.used) (digit-told c h) in
    record {
      rest = d.rest;
      text = rw digits (ap (λ (l : List ℕ). c ∷ l) (d.splits ∙ sym (append_assoc d.used (10 ∷ []) d.rest)));
      place = omega (arith, d.place, ap length digits, length-append (decimal m) (10 ∷ []));
    })
    (λ _ e. never e)
    e

line-told : (key : Text) (at : ℕ) (s : List ℕ) (m next : ℕ) → key_line key at s ≡ Some (m, next) → LineTold key at s m next
unfolding key_line line_text
line-told [] at s m next e = number-told at s m next e
line-told (k ∷ key) at [] m next e = never e
line-told (k ∷ key) at (c ∷ s) m next e =
    pick-eq (λ (l : Line). l ≡ Some (m, next) → LineTold (k ∷ key) at (c ∷ s) m next) c k
    (λ is e.
    let l = line-told key (at + 1) s m next e in
    record {
      rest = l.rest;
      text = rw is (ap (λ (x : List ℕ). k ∷ x) l.text);
      place = omega (arith, l.place);
    })
    (λ _ e. never e)
    e

-- So what stands at a line's place is the line, and then what stands at the place after it.
line-stands : (key : Text) (s : List ℕ) (at : ℕ) {m next : ℕ} → line_at key s at ≡ Some (m, next) → drop at s ≡ line_text key m ++ drop next s
line-stands key s at {m} {next} e =
    let l = line-told key at (drop at s) m next e in
    let after : drop next s ≡ l.rest =
    ap (λ (p : ℕ). drop p s) l.place ∙ sym (drop-drop (length (line_text key m)) at s) ∙ ap (drop (length (line_text key m))) l.text
    ∙ drop-append_seam (line_text key m) l.rest in
    l.text ∙ ap (λ (x : List ℕ). line_text key m ++ x) (sym after)

-- What stands after the lines is the three streams.
module _ (s : List ℕ) (start t n h : ℕ) (total : start + t + n + h ≡ length s) where
  parts-stand : drop start s ≡ part s start t ++ (part s (start + t) n ++ part s (start + t + n) h)
  parts-stand =
      let last : part s (start + t + n) h ≡ drop (start + t + n) s = take_all h (drop (start + t + n) s) (omega (arith, length-drop (start + t + n) s)) in
      let second : part s (start + t) n ++ drop (start + t + n) s ≡ drop (start + t) s
      = ap (λ (x : List ℕ). part s (start + t) n ++ x) (sym (drop-drop n (start + t) s)) ∙ take-append-drop n (drop (start + t) s) in
      let first : part s start t ++ drop (start + t) s ≡ drop start s
      = ap (λ (x : List ℕ). part s start t ++ x) (sym (drop-drop t start s)) ∙ take-append-drop t (drop start s) in
      rw (last, second, first)

  part_length : (at m : ℕ) → at + m ≤ length s → length (part s at m) ≡ m
  part_length at m k = length-take-le m (drop at s) (omega (arith, length-drop at s))

  made_of : {second third : ℕ}
      → line_at (q "tables=") s 0 ≡ Some (t, second) → line_at (q "strings=") s second ≡ Some (n, third) → line_at (q "blob=") s third ≡ Some (h, start)
      → s ≡ input_of (record { tables = part s start t; strings = part s (start + t) n; blob = part s (start + t + n) h })
  unfolding input_of
  made_of e f g =
      rw (part_length start t (omega arith), part_length (start + t) n (omega arith), part_length (start + t + n) h (omega arith))
      (line-stands (q "tables=") s 0 e
      ∙ ap (λ (x : List ℕ). line_text (q "tables=") t ++ x) (line-stands (q "strings=") s _ f
      ∙ ap (λ (x : List ℕ). line_text (q "strings=") n ++ x) (line-stands (q "blob=") s _ g
      ∙ ap (λ (x : List ℕ). line_text (q "blob=") h ++ x) parts-stand)))

on_line-cases : (P : Option Bundle → Type 0) (l : Line) {next : ℕ → ℕ → Option Bundle} → P None → ((n at : ℕ) → l ≡ Some (n, at) → P (next n at)) → P (on_line l next)
unfolding on_line
on_line-cases P None p f = p
on_line-cases P (Some line) p f = f line.0 line.1 refl

pub made : (s : List ℕ) (i : Inputs) → bundle_says s (bundle_of s) ≡ value i → (s ≡ input_of i) × (length s ≤ 65536)
unfolding bundle_of laid
made s i =
    pick-le P (length s) 65536
    (λ fits. on_line-cases P _ none λ t second e. on_line-cases P _ none λ n third f. on_line-cases P _ none λ h start g.
    pick-eq P (start + t + n + h) (length s) (λ total is. (made_of s start t n h total e f g ∙ ap input_of (cc), fits)) (λ _. none))
    (λ _. none)
  where
    P : Option Bundle → Type 0
    P b = bundle_says s b ≡ value i → (s ≡ input_of i) × (length s ≤ 65536)

    none : P None
    none e = let z : ◌≡◌ {A = ℕ} 0 1 = cc in absurd (omega arith)

pub opens : Opens
opens = record { found = found; made = made }
