-- Numbers that stand one after another: passed, found behind their count, and taken one by one; and the shape of an array made of them.
-- Assumes nothing.
use mathlib.Core.Path.{◌≡◌, refl, sym, ◌∙◌, ap, ap₂}
use mathlib.Core.List.{List, [], ◌++◌, append_assoc}
use mathlib.Core.Option.{Option, none, some, none-ne-some, some-ne-none}
use Prim.Native.Nat.{ℕ, zero, suc, ◌+◌, ◌-◌, ◌^◌, ◌<◌, ◌≤◌}
use native.Mathlib.Nat.{sub-zero}
use native.Mathlib.Omega.{arith}
use lib.IntN.{ℤ}
use Rattle.numbers.specs.Reading.{Res, Reader, some_at, none_at, give, chain}
use Rattle.numbers.specs.Compressed.{Uint, Bits, packed, uint, unrotated, sint, uint_says}
use Rattle.buffers.specs.Texts.{Text, q}
use Rattle.record.specs.Readings.{times}
use Rattle.record.specs.Dims.{dims}
use Rattle.record.specs.Types.{shape}
use Rattle.shapes.specs.Series.{Pass, onto, numbers, items, onward, first, rest, Pops, pass_says, Passes, Finds, all, no-count, too_few}
use Rattle.shapes.specs.declared.Items.{Items}
use Rattle.std.specs.Prelude.{Ok, Err}

-- An answer that was matched.
module _ {d : Res ℕ} {r : Uint} (h : uint_says r ≡ d) where
  pub is_number : {n next : ℕ} → r ≡ Ok (n, next) → d ≡ some_at n next
  is_number e = sym h ∙ ap uint_says e

  pub no_number : {next : ℕ} → r ≡ Err next → d ≡ none_at next
  no_number e = sym h ∙ ap uint_says e

-- Values of one kind, passed.
module _ {A : Type 0} (p : Reader A) (s : List ℕ) (at : ℕ) where
  none_passed : times 0 p s at ≡ pass_says (numbers 0 p s at) (Ok at)
  unfolding times numbers
  none_passed = refl

  first-cut : (n : ℕ) {next : ℕ} → p s at ≡ none_at next → times (suc n) p s at ≡ pass_says (numbers (suc n) p s at) (Err next)
  unfolding times
  first-cut n e = rw e refl

  one-passed : (n : ℕ) (a : A) (next : ℕ) → p s at ≡ some_at a next → (r : Pass)
      → times n p s next ≡ pass_says (numbers n p s next) r → times (suc n) p s at ≡ pass_says (numbers (suc n) p s at) r
  unfolding times numbers
  one-passed n a next e (Ok end) h = rw (e, h) refl
  one-passed n a next e (Err end) h = rw (e, h) refl

-- A signed number stands where an unsigned one does, since both are the same bits.
record Integer (s : List ℕ) (at next : ℕ) : Type 0 where
  value : ℤ
  is : sint s at ≡ some_at value next

module _ (s : List ℕ) (at : ℕ) where
  present-like : (o : Option Bits) (i m : ℕ) (n next : ℕ) → chain o i m (λ b j. give b.value s j) ≡ some_at n next
      → (z : ℤ) × (chain o i m (λ b j. give (unrotated (2 ^ (b.width - 1)) b.value) s j) ≡ some_at z next)
  present-like none i m n next e = absurd (none-ne-some n (ap (λ (r : Res ℕ). r.got) e))
  present-like (some b) i m n next e = (
    _,
    ap₂ (λ (j k : ℕ). record { got = some (unrotated (2 ^ (b.width - 1)) b.value); next = j; steps = k })
        (ap (λ (r : Res ℕ). r.next) e) (ap (λ (r : Res ℕ). r.steps) e),
  )

  missing-like : (o : Option Bits) (i m next : ℕ) → chain o i m (λ b j. give b.value s j) ≡ none_at next
      → chain o i m (λ b j. give (unrotated (2 ^ (b.width - 1)) b.value) s j) ≡ none_at next
  missing-like none i m next e =
      ap₂ (λ (j k : ℕ). record { got = none; next = j; steps = k }) (ap (λ (r : Res ℕ). r.next) e) (ap (λ (r : Res ℕ). r.steps) e)
  missing-like (some b) i m next e = absurd (some-ne-none b.value (ap (λ (r : Res ℕ). r.got) e))

  there-too : {n next : ℕ} → uint s at ≡ some_at n next → Integer s at next
  unfolding uint sint
  there-too {n} {next} e =
      let z = present-like (packed s at).got (packed s at).next (packed s at).steps n next e in
      record { value = z.0; is = z.1 }

  missing-too : {next : ℕ} → uint s at ≡ none_at next → sint s at ≡ none_at next
  unfolding uint sint
  missing-too {next} e = missing-like (packed s at).got (packed s at).next (packed s at).steps next e

-- The loop of `pass_items`: i of n numbers are passed.
module _ {n : ℕ} {s : List ℕ} {at : ℕ} where
  pub pass-start : {r : Pass} → Passes (n - 0) s at r → Passes n s at r
  pass-start h = rw (sub-zero n) at h

  module _ {i : ℕ} where
    pub pass-done : n ≤ i → Passes (n - i) s at (Ok at)
    pass-done h =
        let z : n - i ≡ 0 = omega arith in
        rw z (record { unsigned = none_passed uint s at; signed = none_passed sint s at })

    pub pass-cut : i < n → {next : ℕ} → uint s at ≡ none_at next → Passes (n - i) s at (Err next)
    pass-cut h e =
        let z : n - i ≡ suc (n - (i + 1)) = omega arith in
        rw z (record { unsigned = first-cut uint s at _ e; signed = first-cut sint s at _ (missing-too s at e) })

    pub pass-turn : i < n → {v next : ℕ} → uint s at ≡ some_at v next → {r : Pass} → Passes (n - (i + 1)) s next r → Passes (n - i) s at r
    pass-turn h {v} {next} e {r} k =
        let z : n - i ≡ suc (n - (i + 1)) = omega arith in
        let w = there-too s at e in
        rw z (record {
          unsigned = one-passed uint s at _ v next e r k.unsigned;
          signed = one-passed sint s at _ w.value next w.is r k.signed;
        })

-- Numbers found behind their count, which is c in the code.
module _ {s : List ℕ} {at n first : ℕ} (e : uint s at ≡ some_at n first) (c : ℕ) (f : c ≡ n) {next : ℕ} where
  pub finds-all : Passes c s first (Ok next) → Finds s at (Ok (record { count = c; first = first }, next))
  finds-all h = all (e ∙ ap (λ (k : ℕ). some_at k first) (sym f)) h

  pub finds-cut : Passes c s first (Err next) → Finds s at (Err next)
  finds-cut h = too_few c first (e ∙ ap (λ (k : ℕ). some_at k first) (sym f)) h

-- The ways through a shape.
module _ (s : List ℕ) (pos : ℕ) where
  pub shape-rankless : {next : ℕ} → uint s pos ≡ none_at next → shape s pos ≡ none_at next
  unfolding shape
  shape-rankless e = rw e refl

  module _ (rank p : ℕ) (e : uint s pos ≡ some_at rank p) where
    pub shape-sizeless : {next : ℕ} → Finds s p (Err next) → shape s pos ≡ none_at next
    unfolding shape
    shape-sizeless (no-count f) = rw (e, f) refl
    shape-sizeless (too_few n i f h) = rw (e, f, h.unsigned) refl

    pub shape-boundless : {ks : Items} {t next : ℕ} → Finds s p (Ok (ks, t)) → Finds s t (Err next) → shape s pos ≡ none_at next
    unfolding shape
    shape-boundless (all f h) (no-count g) = rw (e, f, h.unsigned, g) refl
    shape-boundless (all f h) (too_few n i g k) = rw (e, f, h.unsigned, g, k.signed) refl

    shaped : {ks ls : Items} {t next : ℕ} → Finds s p (Ok (ks, t)) → Finds s t (Ok (ls, next))
        → shape s pos ≡ some_at (q "[" ++ dims rank 0 (items uint s ks) (items sint s ls) ++ q "]") next
    unfolding shape
    shaped (all f h) (all g k) = rw (e, f, h.unsigned, g, k.signed) refl

    pub shape_is : {ks ls : Items} {t next r : ℕ} → Finds s p (Ok (ks, t)) → Finds s t (Ok (ls, next)) → r ≡ rank
        → shape s pos ≡ some_at (q "[" ++ (dims r 0 (items uint s ks) (items sint s ls) ++ q "]")) next
    shape_is {ks} {ls} {next = next} h k i =
        rw i (shaped h k ∙ ap (λ (u : Text). some_at u next) (append_assoc (q "[") (dims rank 0 (items uint s ks) (items sint s ls)) (q "]")))

-- Values taken one by one.
module _ {A : Type 0} (p : Reader A) (s : List ℕ) (at : ℕ) where
  none_left : (p s at).got ≡ none → (n : ℕ) → numbers n p s at ≡ []
  unfolding numbers
  none_left e zero = refl
  none_left e (suc n) = rw e refl

  first-onto : (o : Option A) (xs : List A) → first (onto o xs) ≡ o
  first-onto none xs = refl
  first-onto (some a) xs = refl

  rest-onto : (n : ℕ) (o : Option A) → (p s at).got ≡ o → (i : ℕ) → rest (onto o (numbers n p s i)) ≡ numbers n p s (onward o at i)
  rest-onto n none e i = sym (none_left e n)
  rest-onto n (some a) e i = refl

  pops-one : (n : ℕ) → Pops p s at (suc n) n (p s at)
  unfolding numbers
  pops-one n = record { head = first-onto (p s at).got (numbers n p s (p s at).next); others = rest-onto n (p s at).got refl (p s at).next }

  pub pops-over : (count i : ℕ) → count ≤ i → Pops p s at (count - i) (count - (i + 1)) (none_at at)
  unfolding numbers
  pops-over count i h =
      let z : count - i ≡ 0 = omega arith in
      let y : count - (i + 1) ≡ 0 = omega arith in
      rw (z, y) (record { head = refl; others = refl })

  pub pops-next : (count i : ℕ) → i < count → {r : Res A} → r ≡ p s at → Pops p s at (count - i) (count - (i + 1)) r
  pops-next count i h e =
      let z : count - i ≡ suc (count - (i + 1)) = omega arith in
      rw (z, e) (pops-one (count - (i + 1)))
