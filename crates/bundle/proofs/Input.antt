-- Laws of the input's definition, one for each way through it. Assumes nothing.
use mathlib.Core.Path.{◌≡◌, refl, sym, ap, ◌∙◌, subst, subst⁻¹}
use mathlib.Core.List.{List, [], ◌∷◌}
use Rattle.std.specs.Prelude.{Option, Some, None}
use Prim.Native.Nat.{ℕ, suc, ◌+◌, ◌-◌, ◌*◌, ◌≤◌, ◌<◌}
use native.Mathlib.Numerals.{add-one}
use native.Mathlib.Nat.{add-zero}
use native.Mathlib.Omega.{arith}
use borrow.Author.Tests.{eq-eqb, ne_eqb, le-ltb, le-leb, lt-leb}
use lib.ListN.{length, get_or, take, drop, length-take, length-drop, drop_of_length-le}
use lib.Seq.{drop-cons, drop-drop}
use Rattle.numbers.specs.Parts.{part, cut_start, cut_length}
use Rattle.numbers.proofs.Pick.{pick-eq, pick-le, by-lt}
use Rattle.numbers.proofs.Parts.{cut-start, cut-length, none-length}
use Rattle.buffers.specs.Texts.{Text, q}
use Rattle.bundle.specs.Input.{Line, digit_of, more_digits, number_line, key_line, number_at, line_at, laid, on_line, bundle_of}
use Rattle.bundle.specs.declared.Bundle.{Bundle}

-- A byte as a digit.
pub digit-is : (c : ℕ) → 48 ≤ c → c ≤ 57 → c - 48 ≡ digit_of c
unfolding digit_of
digit-is c h k = rw (le-ltb _ _ h, le-ltb _ _ k)

-- The first digit of a number.
module _ (s : List ℕ) (at : ℕ) where
  pub number_past : length s ≤ at → None ≡ number_at s at
  unfolding number_line
  number_past h = rw (drop_of_length-le s h)

  module _ (h : at < length s) {d : ℕ} (is : d ≡ digit_of (get_or s at 0)) where
    pub number-none : 9 < d → None ≡ number_at s at
    unfolding number_line
    number-none k = rw (drop-cons s at 0 h, ← is, lt-leb _ _ k)

    pub number-first : d ≤ 9 → more_digits d (at + 1) (drop (at + 1) s) ≡ number_at s at
    unfolding number_line
    number-first k = simp (add-one at, drop-cons s at 0 h, sym is, le-leb _ _ k)

-- The others, in the form of the loop's invariant: the digits so far are worth n, and e is what the whole will be.
module _ (s : List ℕ) (i n : ℕ) {e : Line} (inv : more_digits n i (drop i s) ≡ e) where
  pub more-end : length s ≤ i → None ≡ e
  unfolding more_digits
  more-end h = let q : None ≡ more_digits n i (drop i s) = rw (drop_of_length-le s h) in q ∙ inv

  module _ (h : i < length s) where
    pub more-line : get_or s i 0 ≡ 10 → Some (n, i + 1) ≡ e
    unfolding more_digits
    more-line k = let q : Some (n, i + 1) ≡ more_digits n i (drop i s) = rw (drop-cons s i 0 h, eq-eqb _ _ k) in q ∙ inv

    module _ (no_line : get_or s i 0 ≡ 10 → ⊥) where
      pub more-zero : n ≡ 0 → None ≡ e
      unfolding more_digits
      more-zero k = let q : None ≡ more_digits n i (drop i s) = rw (drop-cons s i 0 h) (simp (ne_eqb _ _ no_line, eq-eqb _ _ k)) in q ∙ inv

      module _ (no_zero : n ≡ 0 → ⊥) {d : ℕ} (is : d ≡ digit_of (get_or s i 0)) where
        pub more-none : 9 < d → None ≡ e
        unfolding more_digits
        more-none k = let q : None ≡ more_digits n i (drop i s) = rw (drop-cons s i 0 h) (simp (ne_eqb _ _ no_line, ne_eqb _ _ no_zero, sym is, lt-leb _ _ k)) in q ∙ inv

        module _ (k : d ≤ 9) where
          pub more-over : 65536 < n * 10 + d → None ≡ e
          unfolding more_digits
          more-over l =
              let q : None ≡ more_digits n i (drop i s) = rw (drop-cons s i 0 h) (simp (ne_eqb _ _ no_line, ne_eqb _ _ no_zero, sym is, le-leb _ _ k, lt-leb _ _ l)) in q ∙ inv

          pub more-digit : n * 10 + d ≤ 65536 → more_digits (n * 10 + d) (i + 1) (drop (i + 1) s) ≡ e
          unfolding more_digits
          more-digit l =
              let q : more_digits n i (drop i s) ≡ more_digits (n * 10 + d) (i + 1) (drop (i + 1) s)
              = rw (drop-cons s i 0 h) (simp (ne_eqb _ _ no_line, ne_eqb _ _ no_zero, sym is, le-leb _ _ k, le-leb _ _ l, add-one i)) in sym q ∙ inv

-- A key, then a number: by what stands in the key's place.
pub key-number : (key : Text) (at : ℕ) (s : List ℕ) → take (length key) s ≡ key → number_line (at + length key) (drop (length key) s) ≡ key_line key at s
unfolding key_line
key-number [] at s e = rw (add-zero at)
key-number (k ∷ key) at [] e = let z : ◌≡◌ {A = ℕ} 0 1 = cc in absurd (omega arith)
key-number (k ∷ key) at (c ∷ s) e =
    let first : c ≡ k = cc in
    let others : take (length key) s ≡ key = cc in
    let place : at + suc (length key) ≡ at + 1 + length key = omega arith in
    rw (eq-eqb _ _ first, place) (key-number key (at + 1) s others)

key-none : (key : Text) (at : ℕ) (s : List ℕ) → (take (length key) s ≡ key → ⊥) → None ≡ key_line key at s
unfolding key_line
key-none [] at s other = absurd (other refl)
key-none (k ∷ key) at [] other = refl
key-none (k ∷ key) at (c ∷ s) other =
    pick-eq (λ (l : Line). None ≡ l) c k (λ e. key-none key (at + 1) s (λ f. other (cc))) (λ _. refl)

-- The same, by the cut that the code compares with the key. A cut past the end is empty, and so is then a key that equals it.
module _ (s : List ℕ) (at : ℕ) (key : Text) where
  cut-key : part s (cut_start s at (length key)) (cut_length s at (length key)) ≡ key → take (length key) (drop at s) ≡ key
  cut-key e = by-lt (length s) (at + length key) over fits
    where
      over : length s < at + length key → take (length key) (drop at s) ≡ key
      over h = subst (λ (k : Text). take (length k) (drop at s) ≡ k) (rw (none-length s at (length key) h) at e) refl

      fits : at + length key ≤ length s → take (length key) (drop at s) ≡ key
      fits h = rw (cut-start s at (length key) h, cut-length s at (length key) h) at e

  key-cut : take (length key) (drop at s) ≡ key → part s (cut_start s at (length key)) (cut_length s at (length key)) ≡ key
  key-cut e = by-lt (length s) (at + length key) over fits
    where
      over : length s < at + length key → part s (cut_start s at (length key)) (cut_length s at (length key)) ≡ key
      over h =
          let none : length key ≡ 0 = omega (arith, simp (length-take, length-drop) at (ap length e)) in
          rw (none-length s at (length key) h) (sym (ap (λ (n : ℕ). take n (drop at s)) none) ∙ e)

      fits : at + length key ≤ length s → part s (cut_start s at (length key)) (cut_length s at (length key)) ≡ key
      fits h = rw (cut-start s at (length key) h, cut-length s at (length key) h) e

  module _ {r : List ℕ} (cut : r ≡ part s (cut_start s at (length key)) (cut_length s at (length key))) where
    pub key-room : r ≡ key → length key ≤ length s - at
    key-room e = omega (arith, simp (length-take, length-drop) at (ap length (cut-key (sym cut ∙ e))))

    pub line-key : r ≡ key → number_at s (at + length key) ≡ line_at key s at
    line-key e = rw (drop-drop (length key) at s) at (key-number key at (drop at s) (cut-key (sym cut ∙ e)))

    pub line-none : (r ≡ key → ⊥) → None ≡ line_at key s at
    line-none other = key-none key at (drop at s) (λ e. other (cut ∙ key-cut e))

-- The way through the whole input that finds its lines.
pub all_lines : (s : List ℕ) {tables second strings third blob start : ℕ} → length s ≤ 65536
    → line_at (q "tables=") s 0 ≡ Some (tables, second) → line_at (q "strings=") s second ≡ Some (strings, third)
    → line_at (q "blob=") s third ≡ Some (blob, start) → laid (length s) tables strings blob start ≡ bundle_of s
unfolding bundle_of on_line
all_lines s h e f g = rw (le-leb _ _ h, e, f, g)

pub laid-whole : (total tables strings blob at : ℕ) → at + tables + strings + blob ≡ total
    → Some (record {
      tables = record { at = at; len = tables };
      strings = record { at = at + tables; len = strings };
      blob = record { at = at + tables + strings; len = blob };
    }) ≡ laid total tables strings blob at
unfolding laid
laid-whole total tables strings blob at e = rw (eq-eqb _ _ e)

-- The streams lie in the input.
abbrev Inside : ℕ → Option Bundle → Type 0
Inside total None = Unit {0}
Inside total (Some b) = (b.tables.at + b.tables.len ≤ total) × (b.strings.at + b.strings.len ≤ total) × (b.blob.at + b.blob.len ≤ total)

laid-inside : (total tables strings blob at : ℕ) → Inside total (laid total tables strings blob at)
unfolding laid
laid-inside total tables strings blob at =
    pick-eq (Inside total) (at + tables + strings + blob) total (λ e. (omega arith, omega arith, omega arith)) (λ _. tt)

line-inside : (total : ℕ) (l : Line) (next : ℕ → ℕ → Option Bundle) → ((n at : ℕ) → Inside total (next n at)) → Inside total (on_line l next)
unfolding on_line
line-inside total None next f = tt
line-inside total (Some line) next f = f line.0 line.1

bundle-inside : (s : List ℕ) → Inside (length s) (bundle_of s)
unfolding bundle_of
bundle-inside s =
    pick-le (Inside (length s)) (length s) 65536
    (λ _. line-inside _ _ _ λ tables second. line-inside _ _ _ λ strings third. line-inside _ _ _ λ blob start. laid-inside _ _ _ _ _)
    (λ _. tt)

pub streams-within : (s : List ℕ) {b : Bundle} → Some b ≡ bundle_of s
    → (b.tables.at + b.tables.len ≤ length s) × (b.strings.at + b.strings.len ≤ length s) × (b.blob.at + b.blob.len ≤ length s)
streams-within s e = subst⁻¹ (Inside (length s)) e (bundle-inside s)
