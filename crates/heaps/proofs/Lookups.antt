-- Laws of the lookups. Assumes nothing.
use Rattle.std.proofs.Common.{◌≡◌, ℕ, zero, suc, ◌+◌, ◌-◌, ◌*◌, ◌%◌, ◌^◌, ◌<◌, ◌≤◌, Bool, true, false, ltb, List, [], ◌∷◌, length, get_or, take, drop, sym, ap, refl, cond, ◌==◌, ◌∙◌, subst, ap₂, zero-le, add-zero, add-one, arith, length-drop, length-take-le, drop_of_length-le, drop-cons, le-ltb, lt-ltb, eq-eqb, ne_eqb, le-leb}
use mathlib.Core.Path.{subst⁻¹}
use mathlib.Core.Option.{Option as Maybe, none, some}
use Rattle.std.specs.Prelude.{Ok, Err, Option, Some, None}
use Rattle.std.specs.List.{position, position_or_len}
use Rattle.std.proofs.lemmas.Nat.{xor_lt}
use Rattle.std.specs.Option.{unwrap_or}
use Rattle.std.proofs.lemmas.List.Sums.{position_or_len_is}
use Rattle.std.proofs.lemmas.List.Quantifiers.{position-Some}
use Rattle.std.proofs.lemmas.List.Recursion.{is_position_or_len}
use borrow.Author.Tests.{lt-leb}
use lib.Bits.{bit_and, bit_xor}
use lib.Seq.{drop-drop}
use Rattle.numbers.specs.Compressed.{uint}
use Rattle.numbers.specs.Parts.{part}
use Rattle.numbers.specs.Fixed.{le_at}
use Rattle.numbers.proofs.Words.{all, worth-le, none_is}
use Rattle.numbers.proofs.Pick.{pick-lt, pick-le, pick-eq, by-lt}
use Rattle.buffers.specs.Replies.{reason_code}
use Rattle.buffers.specs.declared.Reason.{Reason}
use Rattle.buffers.specs.declared.Reason.TheVariants.{NullIndex, PastEnd, NoZero}
use Rattle.heaps.specs.declared.Span.{Span}
use Rattle.heaps.specs.Lookups.{Part, before, Without, string_at, bytes_at, blob_at, found, missing, name, string, is_there, part_reason, Inside}

-- A search at a position, in the form of the loop's invariant: what is still before the byte, and where it will be found.
module _ (x : ℕ) (s : List ℕ) (i : ℕ) {e : ℕ} (inv : i + before x (drop i s) ≡ e) where
  pub find-end : length s ≤ i → i ≡ e
  unfolding before
  find-end h = let none_left : before x (drop i s) ≡ 0 = rw (drop_of_length-le s h) in omega arith

  module _ (h : i < length s) where
    pub find-hit : get_or s i 0 ≡ x → i ≡ e
    unfolding before
    find-hit k = let here : before x (drop i s) ≡ 0 = rw (drop-cons s i 0 h, eq-eqb _ _ k) in omega arith

    pub find-step : (get_or s i 0 ≡ x → ⊥) → (j : ℕ) → j ≡ i + 1 → j + before x (drop j s) ≡ e
    unfolding before
    find-step n j next =
        let further : before x (drop i s) ≡ 1 + before x (drop j s) = rw (drop-cons s i 0 h, ne_eqb _ _ n, next, add-one i) (omega arith) in
        omega arith

-- By std's search.
before-is : (x : ℕ) (s : List ℕ) → before x s ≡ position_or_len (λ b. b == x) s
unfolding before
before-is x s = is_position_or_len (before x) (λ b. b == x) refl (λ b s. ap (λ (n : ℕ). cond (b == x) 0 n) (omega arith)) s

before-some : (x : ℕ) (s : List ℕ) {n : ℕ} → position (λ b. b == x) s ≡ Some n → (before x s ≡ n) × (n < length s)
before-some x s e =
    let at = position-Some (λ b. b == x) s _ 0 e in
    (before-is x s ∙ position_or_len_is (λ b. b == x) s _ 0 (omega (arith, at.0)) at.2 (λ _. at.1), at.0)

before-none : (x : ℕ) (s : List ℕ) → position (λ b. b == x) s ≡ None → length s ≤ before x s
before-none x s e =
    let n : ℕ = position_or_len (λ b. b == x) s in
    rw (before-is x s) (by-lt n (length s) (λ h. let z : ◌≡◌ {A = Option ℕ} (Some n) None = rw (lt-ltb n (length s) h) at e in let y : ◌≡◌ {A = ℕ} 0 1 = cc in absurd (omega arith)) (λ h. h))

-- A search in the first bytes finds what a search in all of them does, or that it goes on behind them.
front-some : (x n : ℕ) (s : List ℕ) → before x (take n s) < n → n ≤ length s → before x (take n s) ≡ before x s
unfolding before
front-some x zero s h k = absurd (omega arith)
front-some x (suc n) [] h k = refl
front-some x (suc n) (b ∷ s) h k = go (b == x) h (λ m. front-some x n s m (omega arith))
  where
    go : (y : Bool) → cond y 0 (suc (before x (take n s))) < suc n → (before x (take n s) < n → before x (take n s) ≡ before x s)
        → cond y 0 (suc (before x (take n s))) ≡ cond y 0 (suc (before x s))
    go true h on = refl
    go false h on = ap suc (on (omega arith))

front-none : (x n : ℕ) (s : List ℕ) → n ≤ before x (take n s) → n ≤ length s → n + before x (drop n s) ≡ before x s
unfolding before
front-none x zero s h k = omega arith
front-none x (suc n) [] h k = absurd (omega arith)
front-none x (suc n) (b ∷ s) h k = go (b == x) h (λ m. front-none x n s m (omega arith))
  where
    go : (y : Bool) → suc n ≤ cond y 0 (suc (before x (take n s))) → (n ≤ before x (take n s) → n + before x (drop n s) ≡ before x s)
        → suc n + before x (drop n s) ≡ cond y 0 (suc (before x s))
    go true h on = absurd (omega arith)
    go false h on = omega (arith, on (omega arith))

-- The same at a position, in the form of the loop's invariant.
module _ (x : ℕ) (s : List ℕ) (i : ℕ) {e : ℕ} (inv : i + before x (drop i s) ≡ e) where
  module _ (k : ℕ) (room : i + k ≤ length s) where
    size : length (take k (drop i s)) ≡ k
    size = length-take-le k (drop i s) (omega (arith, length-drop i s))

    pub near-here : {n : ℕ} → position (λ b. b == x) (take k (drop i s)) ≡ Some n → i + n ≡ e
    near-here is =
        let at = before-some x (take k (drop i s)) is in
        omega (arith, at.0, front-some x k (drop i s) (omega (arith, at.0, at.1, size)) (omega (arith, length-drop i s)))

    pub near-past : position (λ b. b == x) (take k (drop i s)) ≡ None → (j : ℕ) → j ≡ i + k → j + before x (drop j s) ≡ e
    near-past is j next =
        let on = front-none x k (drop i s) (omega (arith, size, before-none x (take k (drop i s)) is)) (omega (arith, length-drop i s)) in
        rw (next, ← drop-drop k i s) (omega (arith, on))

  pub near-end : i ≤ length s → i + unwrap_or (position (λ b. b == x) (take (length s - i) (drop i s))) (length s - i) ≡ e
  near-end h = go (position (λ b. b == x) (take (length s - i) (drop i s))) refl
    where
      go : (o : Option ℕ) → position (λ b. b == x) (take (length s - i) (drop i s)) ≡ o → i + unwrap_or o (length s - i) ≡ e
      go None is = find-end x s (i + (length s - i)) (near-past (length s - i) (omega arith) is _ refl) (omega arith)
      go (Some n) is = near-here (length s - i) (omega arith) is

-- Eight bytes, held against a byte, less 1 each.
pub eight-without : (x : ℕ) (s : List ℕ) (at : ℕ) → at + 8 ≤ length s → x < 256 → ((i : ℕ) → get_or s i 0 < 256) → {v : ℕ} → v < 2 ^ 64 → v ≡ le_at 8 s at
    → bit_and ((bit_xor v (0x0101_0101_0101_0101 * x) + (2 ^ 64 - 0x0101_0101_0101_0101)) % 2 ^ 64) (all 128 8) ≡ 0 → Without x s at 8
eight-without x s at room h bytes {v} fits e clear =
    let n : 0x0101_0101_0101_0101 * x ≡ all x 8 = omega arith in
    let against = xor_lt 64 v (0x0101_0101_0101_0101 * x) fits (omega arith) in
    record {
      room = room;
      each = none_is (λ j. get_or s j 0) at x h (λ k _. bytes (at + k)) (omega arith) (omega (arith, against) ∙ ap₂ bit_xor (e ∙ worth-le s 8 at) n) clear;
    }

-- So many bytes further, none of which is the one that is sought.
pub find_past : (x : ℕ) (s : List ℕ) (n i : ℕ) {e : ℕ} → Without x s i n → i + before x (drop i s) ≡ e → i + n + before x (drop (i + n) s) ≡ e
find_past x s zero i {e} h inv = subst (λ (j : ℕ). j + before x (drop j s) ≡ e) (sym (add-zero i)) inv
find_past x s (suc n) i {e} h inv =
    let next : i + 1 + n ≡ i + suc n = omega arith in
    let one : get_or s i 0 ≡ x → ⊥ = subst (λ (j : ℕ). get_or s j 0 ≡ x → ⊥) (add-zero i) (h.each 0 (omega arith)) in
    let more : Without x s (i + 1) n = record {
      room = omega (arith, h.room);
      each = λ k l. let f : i + suc k ≡ i + 1 + k = omega arith in subst (λ (j : ℕ). get_or s j 0 ≡ x → ⊥) f (h.each (suc k) (omega arith));
    } in
    subst (λ (j : ℕ). j + before x (drop j s) ≡ e) next (find_past x s n (i + 1) more (find-step x s i inv (omega (arith, h.room)) one (i + 1) refl))

pub before-most : (x : ℕ) (s : List ℕ) → before x s ≤ length s
unfolding before
before-most x [] = zero-le
before-most x (b ∷ s) = pick-eq (λ (n : ℕ). n ≤ suc (length s)) b x (λ _. zero-le) (λ _. omega (arith, before-most x s))

-- A search that begins within the bytes ends within them.
pub find-within : (x : ℕ) (s : List ℕ) (from : ℕ) → from ≤ length s → from + before x (drop from s) ≤ length s
find-within x s from h = omega (arith, before-most x (drop from s), length-drop from s)

-- The ways through a string's lookup.
module _ (s : List ℕ) (i : ℕ) where
  pub string-null : i ≡ 0 → Err NullIndex ≡ string_at s i
  unfolding string_at
  string-null e = simp (eq-eqb _ _ e)

  module _ (n : i ≡ 0 → ⊥) where
    pub string-past : length s ≤ i → Err PastEnd ≡ string_at s i
    unfolding string_at
    string-past h = simp (ne_eqb _ _ n, le-leb _ _ h)

    module _ (h : i < length s) where
      pub string-open : length s ≤ i + before 0 (drop i s) → Err NoZero ≡ string_at s i
      unfolding string_at
      string-open k = simp (ne_eqb _ _ n, lt-leb _ _ h, le-ltb _ _ k)

      pub string-found : i + before 0 (drop i s) < length s → (l : ℕ) → l ≡ before 0 (drop i s) → Ok (record { start = i; len = l }) ≡ string_at s i
      unfolding string_at
      string-found k l e = simp (ne_eqb _ _ n, lt-leb _ _ h, lt-ltb _ _ k, e)

-- What is found lies in its heap.
pub string-inside : (s : List ℕ) (i : ℕ) → Inside s (string_at s i)
unfolding string_at
string-inside s i =
    pick-eq (Inside s) i 0 (λ _. zero-le)
    (λ _. pick-le (Inside s) (length s) i (λ _. zero-le)
    (λ _. pick-lt (Inside s) (i + before 0 (drop i s)) (length s) (λ k. omega arith) (λ _. zero-le)))

bytes_inside : (s : List ℕ) (o : Maybe ℕ) (at : ℕ) → Inside s (bytes_at s o at)
unfolding bytes_at
bytes_inside s none at = zero-le
bytes_inside s (some n) at = pick-le (Inside s) (at + n) (length s) (λ h. h) (λ _. zero-le)

pub blob-inside : (s : List ℕ) (i : ℕ) → Inside s (blob_at s i)
unfolding blob_at
blob-inside s i = bytes_inside s (uint s i).got (uint s i).next

-- The same, for a caller that has matched the answer.
pub string-within : (s : List ℕ) (i : ℕ) {p : Span} → Ok p ≡ string_at s i → p.start + p.len ≤ length s
string-within s i e = subst⁻¹ (Inside s) e (string-inside s i)

pub blob-within : (s : List ℕ) (i : ℕ) {p : Span} → Ok p ≡ blob_at s i → p.start + p.len ≤ length s
blob-within s i e = subst⁻¹ (Inside s) e (blob-inside s i)

-- The name of a string that was looked up, and its text.
pub name-found : (s : List ℕ) (i : ℕ) {p : Span} → Ok p ≡ string_at s i → name s i ≡ found (part s p.start p.len)
unfolding name
name-found s i e = rw (← e)

pub name-missing : (s : List ℕ) (i : ℕ) {why : Reason} → Err why ≡ string_at s i → name s i ≡ missing why
unfolding name
name-missing s i e = rw (← e)

pub string-some : (s : List ℕ) (i : ℕ) {p : Span} → Ok p ≡ string_at s i → string s i ≡ some (part s p.start p.len)
unfolding string
string-some s i e = rw (name-found s i e)

pub string-none : (s : List ℕ) (i : ℕ) {why : Reason} → Err why ≡ string_at s i → string s i ≡ none
unfolding string
string-none s i e = rw (name-missing s i e)

-- Whether a string is there, by the ways through its lookup. A byte that is sought stands nowhere before the first that is found.
pub found-by : (x : ℕ) (s : List ℕ) (n i : ℕ) → i + n < length s → get_or s (i + n) 0 ≡ x → i + before x (drop i s) ≤ i + n
found-by x s zero i h e =
    let here = find-hit x s i refl (omega (arith, h)) (subst (λ (j : ℕ). get_or s j 0 ≡ x) (add-zero i) e) in omega (arith, here)
found-by x s (suc n) i h e =
    let next : i + suc n ≡ i + 1 + n = omega arith in
    let on = found-by x s n (i + 1) (omega (arith, h)) (subst (λ (j : ℕ). get_or s j 0 ≡ x) next e) in
    pick-eq (λ (m : ℕ). i + before x (drop i s) ≤ i + suc n) (get_or s i 0) x {x = 0} {y = 1}
    (λ k. omega (arith, find-hit x s i refl (omega (arith, h)) k))
    (λ k. omega (arith, on, find-step x s i refl (omega (arith, h)) k (i + 1) refl))

module _ (s : List ℕ) (i : ℕ) where
  pub there-null : i ≡ 0 → false ≡ is_there (string s i)
  there-null e = rw (string-none s i (string-null s i e)) refl

  module _ (n : i ≡ 0 → ⊥) where
    pub there-past : length s ≤ i → false ≡ is_there (string s i)
    there-past h = rw (string-none s i (string-past s i n h)) refl

    module _ (h : i < length s) where
      pub there-ended : get_or s (length s - 1) 0 ≡ 0 → true ≡ is_there (string s i)
      there-ended e =
          let last : i + (length s - 1 - i) ≡ length s - 1 = omega (arith, h) in
          let k = found-by 0 s (length s - 1 - i) i (omega (arith, h)) (subst (λ (j : ℕ). get_or s j 0 ≡ 0) (sym last) e) in
          rw (string-some s i (string-found s i n h (omega (arith, h, k)) (before 0 (drop i s)) refl)) refl

      pub there-sought : {end : ℕ} → end ≡ i + before 0 (drop i s) → ltb end (length s) ≡ is_there (string s i)
      there-sought {end} e = by-lt end (length s)
          (λ k. rw (lt-ltb end (length s) k, string-some s i (string-found s i n h (omega (arith, e, k)) (before 0 (drop i s)) refl)) refl)
          (λ k. rw (le-ltb end (length s) k, string-none s i (string-open s i n h (omega (arith, e, k)))) refl)

-- Why a string is missing is one of the three reasons; a blob tells none.
abbrev pub Reasoned : Part → Type 0
Reasoned (Ok p) = Unit
Reasoned (Err why) = (1 ≤ reason_code why) × (reason_code why ≤ 3)

pub string-reasoned : (s : List ℕ) (i : ℕ) → Reasoned (string_at s i)
unfolding string_at
string-reasoned s i =
    pick-eq Reasoned i 0 (λ _. (omega arith, omega arith))
    (λ _. pick-le Reasoned (length s) i (λ _. (omega arith, omega arith))
    (λ _. pick-lt Reasoned (i + before 0 (drop i s)) (length s) (λ _. tt) (λ _. (omega arith, omega arith))))

bytes-unreasoned : (s : List ℕ) (o : Maybe ℕ) (at : ℕ) → part_reason (bytes_at s o at) ≡ 0
unfolding bytes_at
bytes-unreasoned s none at = refl
bytes-unreasoned s (some n) at = pick-le (λ (p : Part). part_reason p ≡ 0) (at + n) (length s) (λ _. refl) (λ _. refl)

pub blob-unreasoned : (s : List ℕ) (i : ℕ) → part_reason (blob_at s i) ≡ 0
unfolding blob_at
blob-unreasoned s i = bytes-unreasoned s (uint s i).got (uint s i).next
