-- What the code's tests and writings come to.
--     special-above, plain-above                                a byte by the tests
--     eight-written, byte-percent, byte-plain, two-percents     eight bytes, one and two, that are written at a place
--     digit-there                                               the digits in order
--     anew-start, anew-before, anew-eight, anew-byte, anew-done the loop that writes a text anew from its copy
--     copied-wrote, space-text, space-wrote                     a text that was written anew from a copy, and in a space of its own
--     stands-more, stands-done, stands-then                     a text whose first bytes stand
-- Assumes nothing.
use Rattle.std.proofs.Common.{◌≡◌, ℕ, zero, suc, ◌+◌, ◌-◌, ◌*◌, ◌/◌, ◌%◌, ◌<◌, ◌≤◌, Bool, true, false, List, [], ◌∷◌, ◌++◌, length, get_or, take, drop, set, sym, refl, ap, ◌∙◌, subst, ap₂, append_assoc, append-nil, add-zero, arith, rules, length-append, length-drop, length-set, length-take-le, get_or-drop, drop-cons, get_or-set_other, get_or-take, get_or-set_same, drop-drop, get_or-append-add, ext_get_or, take-add, le-ltb, lt-ltb, ne_eqb}
use native.Mathlib.Numerals.{unary_clauses}
use native.Mathlib.Decide.{dec_lt}
use lib.ListN.{get_or-append}
use Rattle.std.specs.Int.{w64, to_le_bytes, from_le_bytes}
use Rattle.std.proofs.lemmas.Nat.{le_bytes_8}
use Rattle.std.proofs.lemmas.List.{get_or_past, places}
use borrow.Rule.Slice.PartMut.{put_mid}
use Rattle.numbers.specs.Fixed.{le_at}
use Rattle.numbers.specs.Parts.{part}
use Rattle.numbers.specs.Lists.{tabulate}
use Rattle.numbers.proofs.Lists.{tabulate-at}
use Rattle.numbers.proofs.Pick.{by-lt}
use Rattle.buffers.specs.Texts.{Text}
use Rattle.buffers.specs.Writes.{Wrote, Kept}
use Rattle.buffers.proofs.Writing.{wrote-part, wrote_then}
use Rattle.backwards.specs.Backwards.{Behind}
use Rattle.backwards.proofs.Laws.{behind-none}
use Rattle.escapes.specs.Escapes.{special, hex_digit, escaped_byte, escaped, longest, Stands}
use Rattle.escapes.proofs.Apart.{three-at-most}

-- A byte by the tests.
module _ (b : ℕ) where
  pub special-high : 0x22 ≤ b → 0x7E < b → true ≡ special b
  unfolding special
  special-high l h = rw (le-ltb _ _ l, lt-ltb _ _ h)

  pub special-above : 0x7E < b → true ≡ special b
  special-above h = special-high (omega arith) h

  pub plain-above : 0x25 < b → b ≤ 0x7E → false ≡ special b
  unfolding special
  plain-above l h = let low : 0x22 ≤ b = omega arith in rw (le-ltb _ _ low, le-ltb _ _ h, ne_eqb b 0x25 (λ e. omega arith))

-- ---- A text byte by byte

escaped-then : (s t : Text) → escaped (s ++ t) ≡ escaped s ++ escaped t
unfolding escaped
escaped-then [] t = refl
escaped-then (b ∷ s) t = rw (escaped-then s t, append_assoc (escaped_byte b) (escaped s) (escaped t))

escaped-one : (b : ℕ) → escaped (b ∷ []) ≡ escaped_byte b
unfolding escaped
escaped-one b = append-nil (escaped_byte b)

-- ---- A part of a buffer

part_length : (s : List ℕ) (start n : ℕ) → start + n ≤ length s → length (part s start n) ≡ n
part_length s start n h = length-take-le n (drop start s) (omega (arith, length-drop start s))

part_at : (s : List ℕ) (start n i : ℕ) → i < n → get_or (part s start n) i 0 ≡ get_or s (start + i) 0
part_at s start n i l = get_or-take n (drop start s) i 0 l ∙ get_or-drop start s i 0

part-more : (s : List ℕ) (start n m : ℕ) → part s start (n + m) ≡ part s start n ++ part s (start + n) m
part-more s start n m = take-add n m (drop start s) ∙ ap (λ (u : List ℕ). part s start n ++ take m u) (drop-drop n start s)

-- Parts of two buffers that are byte by byte the same.
pub part_same : (b b' : List ℕ) (at at' n : ℕ) → at + n ≤ length b → at' + n ≤ length b'
    → ((i : ℕ) → i < n → get_or b' (at' + i) 0 ≡ get_or b (at + i) 0) → part b' at' n ≡ part b at n
part_same b b' at at' n h h' same =
    let long = part_length b at n h in
    let long' = part_length b' at' n h' in
    ext_get_or 0 (part b' at' n) (part b at n) (long' ∙ sym long)
    (λ i l. let m : i < n = omega (arith, long') in
    part_at b' at' n i m ∙ same i m ∙ sym (part_at b at n i m))

-- ---- A text whose bytes all stand

stands-text : (t : Text) → ((i : ℕ) → i < length t → special (get_or t i 0) ≡ false) → escaped t ≡ t
unfolding escaped escaped_byte
stands-text [] h = refl
stands-text (b ∷ t) h =
    let e : special b ≡ false = h 0 (omega arith) in
    rw e (ap (λ (u : Text). b ∷ u) (stands-text t (λ i l. h (suc i) (omega arith))))

stands-part : (s : List ℕ) (start n : ℕ) → start + n ≤ length s → Stands s start n → escaped (part s start n) ≡ part s start n
stands-part s start n h st =
    let long = part_length s start n h in
    stands-text (part s start n)
    (λ i l. let m : i < n = omega (arith, long) in
    subst (λ (x : ℕ). special x ≡ false) (sym (part_at s start n i m)) (st.each i m))

-- ---- What is written at a place

byte_at : (b : List ℕ) (floor at end x : ℕ) → end ≡ at + 1 → floor ≤ at → at < length b → Behind b floor end (x ∷ []) (set b at x) at
byte_at b floor at end x e low lt = record {
  long = length-set b at x;
  low = low;
  place = omega arith;
  below = λ i h. get_or-set_other b at i x 0 (omega arith);
  above = λ i h. get_or-set_other b at i x 0 (omega arith);
  text = one;
}
  where
    one : (i : ℕ) → i < length (x ∷ []) → get_or (set b at x) (at + i) 0 ≡ get_or (x ∷ []) i 0
    one zero h = ap (λ (k : ℕ). get_or (set b at x) k 0) (add-zero at) ∙ get_or-set_same b at x 0 lt
    one (suc i) h = absurd (omega arith)

-- One text, and another behind it.
behind-after : {b b₁ b₂ : List ℕ} {at to last : ℕ} {s u : Text} → Behind b at to s b₁ at → Behind b₁ to last u b₂ to → Behind b at last (s ++ u) b₂ at
behind-after {b} {b₁} {b₂} {at} {to} {last} {s} {u} w v = record {
  long = v.long ∙ w.long;
  low = omega arith;
  place = omega (arith, w.place, v.place, length-append s u);
  below = λ i lt. v.below i (omega (arith, w.place)) ∙ w.below i lt;
  above = λ i le. v.above i le ∙ w.above i (omega (arith, v.place));
  text = λ i lt. go i lt (dec_lt i (length s));
}
  where
    go : (i : ℕ) → i < length (s ++ u) → Dec (i < length s) → get_or b₂ (at + i) 0 ≡ get_or (s ++ u) i 0
    go i lt (yes h) = v.below (at + i) (omega (arith, w.place)) ∙ w.text i h ∙ sym (get_or-append s u 0 i h)
    go i lt (no n) =
        let j : ℕ = i - length s in
        let ij : i ≡ length s + j = omega arith in
        let e : at + i ≡ to + j = omega (arith, w.place) in
        ap (λ (k : ℕ). get_or b₂ k 0) e
        ∙ v.text j (omega (arith, length-append s u))
        ∙ sym (get_or-append-add s u j 0)
        ∙ ap (λ (k : ℕ). get_or (s ++ u) k 0) (sym ij)

-- A text that was written over a part of a buffer.
behind-mid : (b : List ℕ) (t : Text) (at end : ℕ) → at + length t ≡ end → end ≤ length b → Behind b at end t (put_mid at (end - at) b t) at
behind-mid b t at end place h =
    let k : end - at ≡ length t = omega (arith, place) in
    record {
      long = search (rules, places);
      low = omega arith;
      place = place;
      below = λ i lt. search (rules, places);
      above = λ i le. search (rules, places);
      text = λ i lt. search (rules, places);
    }

-- Eight bytes of a list are those of their number.
module _ (s : List ℕ) (at : ℕ) (bytes : (i : ℕ) → get_or s i 0 < 256) (in-s : at + 8 ≤ length s) {v : ℕ} (is : v ≡ le_at 8 s at) where
  abbrev eight : List ℕ
  eight = part s at 8

  eight-small : (i : ℕ) → get_or eight i 0 < 256
  eight-small i = by-lt i 8
      (λ l. subst (λ (x : ℕ). x < 256) (sym (part_at s at 8 i l)) (bytes (at + i)))
      (λ le. let none : get_or eight i 0 ≡ 0 = get_or_past eight i 0 (omega (arith, part_length s at 8 in-s)) in omega (arith, none))

  byte : (i : ℕ) → i < 8 → get_or eight i 0 ≡ get_or s (at + i) 0
  byte i l = part_at s at 8 i l

  first-byte : get_or eight 0 0 ≡ get_or s at 0
  first-byte = byte 0 (omega arith) ∙ ap (λ (k : ℕ). get_or s k 0) (add-zero at)

  abbrev y : ℕ → ℕ
  y k = get_or s (at + k) 0

  number : v ≡ from_le_bytes w64 eight
  unfolding le_at
  number =
      let worth : v ≡ get_or s at 0 + 256 * (y 1 + 256 * (y 2 + 256 * (y 3 + 256 * (y 4 + 256 * (y 5 + 256 * (y 6 + 256 * y 7)))))) = is ∙ simp unary_clauses refl in
      omega (arith, worth, first-byte, byte 1 (omega arith), byte 2 (omega arith), byte 3 (omega arith), byte 4 (omega arith), byte 5 (omega arith), byte 6 (omega arith), byte 7 (omega arith))

  pub eight-written : {t : Text} (b : List ℕ) (to : ℕ) → to + 8 ≤ length b → t ≡ to_le_bytes w64 v → Behind b to (to + 8) eight (put_mid to (to + 8 - to) b t) to
  eight-written {t} b to h e =
      let long : length eight ≡ 8 = part_length s at 8 in-s in
      let same : t ≡ eight = e ∙ le_bytes_8 eight v long eight-small number in
      rw same (behind-mid b eight to (to + 8) (omega (arith, long)) h)

-- ---- One byte

-- The digits in order.
pub digit-there : (n : ℕ) → n < 16 → get_or (48 ∷ 49 ∷ 50 ∷ 51 ∷ 52 ∷ 53 ∷ 54 ∷ 55 ∷ 56 ∷ 57 ∷ 65 ∷ 66 ∷ 67 ∷ 68 ∷ 69 ∷ 70 ∷ []) n 0 ≡ hex_digit n
unfolding hex_digit tabulate
digit-there n h = let e : 0 + n ≡ n = omega arith in tabulate-at hex_digit 0 0 16 n h ∙ ap hex_digit e

abbrev percented : ℕ → Text → Text
percented n t = 0x25 ∷ hex_digit (n / 16) ∷ hex_digit (n % 16) ∷ t

module _ {b : List ℕ} {to : ℕ} (n : ℕ) {t : Bool} (told : t ≡ special n) where
  pub byte-percent : {b' : List ℕ} → t ≡ true → Behind b to (to + 3) (0x25 ∷ hex_digit (n / 16) ∷ hex_digit (n % 16) ∷ []) b' to → Behind b to (to + 3) (escaped_byte n) b' to
  unfolding escaped_byte
  byte-percent is w = rw (← told, is) w

  pub byte-plain : t ≡ false → to + 3 ≤ length b → Behind b to (to + 1) (escaped_byte n) (set b to n) to
  unfolding escaped_byte
  byte-plain is room = rw (← told, is) (byte_at b to to (to + 1) n (omega arith) (omega arith) (omega arith))

-- Two bytes above 0x7E.
pub two-percents : {b b₁ b₂ : List ℕ} {to : ℕ} (n m : ℕ) → true ≡ special n → true ≡ special m → Behind b to (to + 3) (percented n []) b₁ to
    → Behind b₁ (to + 3) (to + 3 + 3) (percented m []) b₂ (to + 3) → Behind b to (to + 6) (escaped_byte n ++ escaped_byte m) b₂ to
unfolding escaped_byte
two-percents {to = to} n m told told' w v = let e : to + 6 ≡ to + 3 + 3 = omega arith in rw (← told, ← told', e) (behind-after w v)

-- ---- The loop that writes a text anew from its copy

-- What was written at a place, of the text as far as it was read, which may be behind its end: what lies there stands.
pub record Anew (b₀ : List ℕ) (start end at : ℕ) (b : List ℕ) (from to : ℕ) : Type 0 where
  pub first : start ≤ from
  pub near : from ≤ end + 7
  pub wrote : Behind b₀ at to (escaped (part b₀ start (from - start))) b at
  pub past : Stands b₀ end (from - end)

pub anew-start : (b : List ℕ) (start end at : ℕ) → start ≤ end → Anew b start end at b start at
unfolding escaped
anew-start b start end at h = record {
  first = omega arith;
  near = omega arith;
  wrote = let e : start - start ≡ 0 = omega arith in rw e (behind-none b at at (omega arith));
  past = record { each = λ k l. absurd (omega arith) };
}

module _ {b₀ : List ℕ} {start end at : ℕ} (order : start ≤ end) (room : end + 8 ≤ length b₀) (far : at + 2 * (end - start) + 8 ≤ start)
    {b : List ℕ} {from to : ℕ} (a : Anew b₀ start end at b from to) where
  most : to ≤ at + 3 * (from - start)
  most =
      omega (
        arith,
        a.wrote.place,
        three-at-most (part b₀ start (from - start)),
        part_length b₀ start (from - start) (omega (arith, a.near, a.first)),
        a.first,
      )

  -- One text more, of the bytes from the place on.
  more : (n : ℕ) {u : Text} {b' : List ℕ} {to' : ℕ} → u ≡ escaped (part b₀ from n) → Behind b to to' u b' to
      → Behind b₀ at to' (escaped (part b₀ start (from + n - start))) b' at
  more n {u} {b'} {to'} e w =
      let size : from + n - start ≡ from - start + n = omega (arith, a.first) in
      let place : start + (from - start) ≡ from = omega (arith, a.first) in
      let text : escaped (part b₀ start (from - start)) ++ u ≡ escaped (part b₀ start (from + n - start)) =
      ap (λ (v : Text). escaped (part b₀ start (from - start)) ++ v) e
      ∙ ap (λ (k : ℕ). escaped (part b₀ start (from - start)) ++ escaped (part b₀ k n)) (sym place)
      ∙ sym (escaped-then (part b₀ start (from - start)) (part b₀ (start + (from - start)) n))
      ∙ ap escaped (sym (part-more b₀ start (from - start) n))
      ∙ ap (λ (k : ℕ). escaped (part b₀ start k)) (sym size) in
      subst (λ (v : Text). Behind b₀ at to' v b' at) text (behind-after a.wrote w)

  module _ (lt : from < end) where
    pub anew-before : to + 8 ≤ from
    anew-before = omega (arith, most, a.first)

    pub anew-room : from + 8 ≤ length b
    anew-room = omega (arith, a.wrote.long)

    byte-is : get_or b from 0 ≡ get_or b₀ from 0
    byte-is = a.wrote.above from (omega (arith, anew-before))

    one-is : escaped_byte (get_or b from 0) ≡ escaped (part b₀ from 1)
    one-is =
        ap escaped_byte byte-is
        ∙ sym (escaped-one (get_or b₀ from 0))
        ∙ ap (λ (u : List ℕ). escaped (take 1 u)) (sym (drop-cons b₀ from 0 (omega arith)))

    pub anew-byte : {x : ℕ} {b' : List ℕ} {to' : ℕ} → x ≡ get_or b from 0 → Behind b to to' (escaped_byte x) b' to → Anew b₀ start end at b' (from + 1) to'
    anew-byte {x} e w = record {
      first = omega (arith, a.first);
      near = omega arith;
      wrote = more 1 (ap escaped_byte e ∙ one-is) w;
      past = record { each = λ k l. absurd (omega arith) };
    }

    -- Two bytes that are both written by percent signs: the second is not behind the text, where the first byte stands.
    module _ {x y : ℕ} (is_x : x ≡ get_or b from 0) (is_y : y ≡ get_or b (from + 1) 0) (behind : get_or b₀ end 0 ≤ 0x7E) (high : 0x7E < y) where
      next-is : get_or b (from + 1) 0 ≡ get_or b₀ (from + 1) 0
      next-is = a.wrote.above (from + 1) (omega (arith, anew-before))

      pub two-inside : from + 1 < end
      two-inside = by-lt (from + 1) end (λ l. l)
          (λ le. let e : from + 1 ≡ end = omega arith in
          let same : get_or b₀ (from + 1) 0 ≡ get_or b₀ end 0 = ap (λ (k : ℕ). get_or b₀ k 0) e in
          absurd (omega (arith, is_y, next-is, same, high, behind)))

      two-are : escaped_byte x ++ escaped_byte y ≡ escaped (part b₀ from 2)
      two-are =
          let next : escaped_byte y ≡ escaped (part b₀ (from + 1) 1) =
          ap escaped_byte (is_y ∙ next-is)
          ∙ sym (escaped-one (get_or b₀ (from + 1) 0))
          ∙ ap (λ (u : List ℕ). escaped (take 1 u)) (sym (drop-cons b₀ (from + 1) 0 (omega (arith, two-inside)))) in
          ap₂ (λ (u v : Text). u ++ v) (ap escaped_byte is_x ∙ one-is) next
          ∙ sym (escaped-then (part b₀ from 1) (part b₀ (from + 1) 1))
          ∙ ap escaped (sym (part-more b₀ from 1 1))

      pub anew-two : {b' : List ℕ} {to' : ℕ} → Behind b to to' (escaped_byte x ++ escaped_byte y) b' to → Anew b₀ start end at b' (from + 2) to'
      anew-two w = record {
        first = omega (arith, a.first);
        near = omega (arith, two-inside);
        wrote = more 2 two-are w;
        past = record { each = λ k l. absurd (omega (arith, two-inside)) };
      }

    stands-there : Stands b from 8 → Stands b₀ from 8
    stands-there st = record {
      each = λ k l.
          subst (λ (x : ℕ). special x ≡ false) (a.wrote.above (from + k) (omega (arith, anew-before))) (st.each k l);
    }

    eight-there : part b from 8 ≡ part b₀ from 8
    eight-there =
        part_same b₀ b from from 8 (omega arith) (omega (arith, a.wrote.long)) (λ k l. a.wrote.above (from + k) (omega (arith, anew-before)))

    pub anew-eight : Stands b from 8 → {b' : List ℕ} → Behind b to (to + 8) (part b from 8) b' to → Anew b₀ start end at b' (from + 8) (to + 8)
    anew-eight st w = record {
      first = omega (arith, a.first);
      near = omega arith;
      wrote = more 8 (eight-there ∙ sym (stands-part b₀ from 8 (omega arith) (stands-there st))) w;
      past = record {
        each = λ k l.
            let e : from + (end + k - from) ≡ end + k = omega arith in
            subst (λ (j : ℕ). special (get_or b₀ j 0) ≡ false) e ((stands-there st).each (end + k - from) (omega arith));
      };
    }

  module _ (le : end ≤ from) where
    whole : escaped (part b₀ start (from - start)) ≡ escaped (part b₀ start (end - start)) ++ part b₀ end (from - end)
    whole =
        let size : from - start ≡ end - start + (from - end) = omega arith in
        let place : start + (end - start) ≡ end = omega arith in
        ap (λ (k : ℕ). escaped (part b₀ start k)) size
        ∙ ap escaped (part-more b₀ start (end - start) (from - end))
        ∙ escaped-then (part b₀ start (end - start)) (part b₀ (start + (end - start)) (from - end))
        ∙ ap (λ (k : ℕ). escaped (part b₀ start (end - start)) ++ escaped (part b₀ k (from - end))) place
        ∙ ap (λ (u : Text). escaped (part b₀ start (end - start)) ++ u)
        (stands-part b₀ end (from - end) (omega (arith, a.near)) a.past)

    long : to ≡ at + length (escaped (part b₀ start (end - start))) + (from - end)
    long =
        omega (
          arith,
          a.wrote.place,
          ap length whole,
          length-append (escaped (part b₀ start (end - start))) (part b₀ end (from - end)),
          part_length b₀ end (from - end) (omega (arith, a.near)),
        )

    inside : at + length (escaped (part b₀ start (end - start))) ≤ length b₀
    inside =
        omega (arith, three-at-most (part b₀ start (end - start)), part_length b₀ start (end - start) (omega arith), far, order)

    pub anew-rest : from - end ≤ to
    anew-rest = omega (arith, long)

    pub anew-done : Wrote b₀ at (escaped (part b₀ start (end - start))) b (to - (from - end))
    anew-done = record {
      keeps = record { long = a.wrote.long; kept = λ i l _. a.wrote.below i l };
      place = omega (arith, long, inside);
      text = λ _ i l.
          a.wrote.text i (omega (arith, ap length whole, length-append (escaped (part b₀ start (end - start))) (part b₀ end (from - end))))
          ∙ ap (λ (v : Text). get_or v i 0) whole
          ∙ get_or-append (escaped (part b₀ start (end - start))) (part b₀ end (from - end)) 0 i l;
    }

-- ---- What the calls come to

-- The byte behind the copy is written before.
pub below-eight : {i n : ℕ} → i + 8 ≤ n → i < n
below-eight h = omega arith

pub marked-kept : {b₀ b : List ℕ} (start end gap x : ℕ) → start ≤ end → Kept b₀ (start + gap) b → Kept b₀ (start + gap) (set b (end + gap) x)
marked-kept {b₀} {b} start end gap x order k = record {
  long = length-set b (end + gap) x ∙ k.long;
  kept = λ i l in_b. get_or-set_other b (end + gap) i x 0 (omega arith) ∙ k.kept i l in_b;
}

pub marked-part : (b : List ℕ) (start end gap x : ℕ) {u : List ℕ} → start ≤ end → end + gap < length b → part b (start + gap) (end - start) ≡ u
    → part (set b (end + gap) x) (start + gap) (end - start) ≡ u
marked-part b start end gap x {u} order room e =
    part_same b (set b (end + gap) x) (start + gap) (start + gap) (end - start) (omega arith) (omega (arith, length-set b (end + gap) x))
    (λ i l. get_or-set_other b (end + gap) (start + gap + i) x 0 (omega arith))
    ∙ e

-- A text that was written anew from its copy.
pub copied-wrote : {b₀ b b' : List ℕ} (start end gap r : ℕ) → start ≤ end → end + 8 ≤ length b₀ → Kept b₀ (start + gap) b
    → part b (start + gap) (end - start) ≡ part b₀ start (end - start)
    → Wrote b start (escaped (part b (start + gap) (end + gap - (start + gap)))) b' r → Wrote b₀ start (escaped (part b₀ start (end - start))) b' r
copied-wrote {b₀} {b} {b'} start end gap r order in_b k e w =
    let size : end + gap - (start + gap) ≡ end - start = omega arith in
    let v : Wrote b start (escaped (part b₀ start (end - start))) b' r =
    subst (λ (u : Text). Wrote b start (escaped u) b' r) (ap (λ (j : ℕ). part b (start + gap) j) size ∙ e) w in
    record {
      keeps = record {
        long = v.keeps.long ∙ k.long;
        kept = λ i l in-b₀. v.keeps.kept i l (omega (arith, k.long)) ∙ k.kept i (omega arith) in-b₀;
      };
      place = omega (arith, v.place, k.long);
      text = λ fits. v.text (omega (arith, k.long));
    }

-- A text whose first bytes stand.
pub stands-more : {s : List ℕ} {start i : ℕ} → start ≤ i → Stands s start (i - start) → Stands s i 8 → Stands s start (i + 8 - start)
stands-more {s} {start} {i} h a b = record { each = λ k l. go k l (dec_lt k (i - start)) }
  where
    go : (k : ℕ) → k < i + 8 - start → Dec (k < i - start) → special (get_or s (start + k) 0) ≡ false
    go k l (yes m) = a.each k m
    go k l (no n) =
        let e : i + (start + k - i) ≡ start + k = omega arith in
        subst (λ (j : ℕ). special (get_or s j 0) ≡ false) e (b.each (start + k - i) (omega arith))

pub stands-none : (s : List ℕ) (start : ℕ) → Stands s start (start - start)
stands-none s start = record { each = λ k l. absurd (omega arith) }

module _ {b₀ b : List ℕ} {start end i : ℕ} (order : start ≤ end) (in_b : end + 8 ≤ length b₀) (k : Kept b₀ end b) (first : start ≤ i)
    (st : Stands b start (i - start)) where
  kept-text : part b start (end - start) ≡ part b₀ start (end - start)
  kept-text = part_same b₀ b start start (end - start) (omega arith) (omega (arith, k.long)) (λ j l. k.kept (start + j) (omega arith) (omega arith))

  pub stands-done : end ≤ i → Wrote b₀ start (escaped (part b₀ start (end - start))) b end
  stands-done le =
      let few : Stands b start (end - start) = record { each = λ j l. st.each j (omega arith) } in
      let long : length (part b start (end - start)) ≡ end - start = part_length b start (end - start) (omega (arith, k.long)) in
      let is : escaped (part b start (end - start)) ≡ part b start (end - start) = stands-part b start (end - start) (omega (arith, k.long)) few in
      subst (λ (x : Text). Wrote b₀ start x b end) (sym is ∙ ap escaped kept-text) (record {
        keeps = record { long = k.long; kept = λ j l in-b₀. k.kept j (omega arith) in-b₀ };
        place = omega (arith, long);
        text = λ _ j l. sym (part_at b start (end - start) j (omega (arith, long)));
      })

  pub stands-then : i ≤ end → {b' : List ℕ} {r : ℕ} → Wrote b i (escaped (part b i (end - i))) b' r
      → Wrote b₀ start (escaped (part b₀ start (end - start))) b' r
  stands-then le {b'} {r} w =
      let size : end - start ≡ i - start + (end - i) = omega arith in
      let place : start + (i - start) ≡ i = omega arith in
      let long : length (part b start (i - start)) ≡ i - start = part_length b start (i - start) (omega (arith, k.long)) in
      let text : part b start (i - start) ++ escaped (part b i (end - i)) ≡ escaped (part b₀ start (end - start)) =
      ap (λ (u : Text). u ++ escaped (part b i (end - i))) (sym (stands-part b start (i - start) (omega (arith, k.long)) st))
      ∙ ap (λ (j : ℕ). escaped (part b start (i - start)) ++ escaped (part b j (end - i))) (sym place)
      ∙ sym (escaped-then (part b start (i - start)) (part b (start + (i - start)) (end - i)))
      ∙ ap escaped (sym (part-more b start (i - start) (end - i)))
      ∙ ap (λ (j : ℕ). escaped (part b start j)) (sym size)
      ∙ ap escaped kept-text in
      let before : Wrote b₀ start (part b start (i - start)) b i = record {
        keeps = record { long = k.long; kept = λ j l in-b₀. k.kept j (omega arith) in-b₀ };
        place = omega (arith, long);
        text = λ _ j l. sym (part_at b start (i - start) j (omega (arith, long)));
      } in
      subst (λ (x : Text). Wrote b₀ start x b' r) text (wrote_then before w)

-- A text that was written anew in a space of its own, and then to its place.
module _ (b₀ : List ℕ) (start n : ℕ) {x s s₁ s₂ : List ℕ} {p made : ℕ} (in_b : start + n ≤ length b₀) (few : n ≤ longest) (space : length s ≡ 12352)
    (is : x ≡ part b₀ start n) (first : Wrote s 0 x s₁ p) (then : Wrote s₁ 0 (escaped (part s₁ 0 (n - 0))) s₂ made) where
  x-long : length x ≡ n
  x-long = ap length is ∙ part_length b₀ start n in_b

  text-is : part s₁ 0 (n - 0) ≡ part b₀ start n
  text-is =
      let e : n - 0 ≡ p - 0 = omega (arith, first.place, x-long, space) in
      ap (λ (k : ℕ). part s₁ 0 k) e ∙ wrote-part first (omega (arith, x-long, space)) ∙ is

  small : length (escaped (part s₁ 0 (n - 0))) ≤ 12288
  small = omega (arith, three-at-most (part s₁ 0 (n - 0)), ap length text-is, part_length b₀ start n in_b, few)

  pub made_inside : 0 + made ≤ length s₂
  made_inside = omega (arith, then.place, small, then.keeps.long, first.keeps.long, space)

  pub space-wrote : {y b' : List ℕ} {r : ℕ} → y ≡ part s₂ 0 made → Wrote b₀ start y b' r → Wrote b₀ start (escaped (part b₀ start n)) b' r
  space-wrote {y} {b'} {r} e w =
      let same : part s₂ 0 (made - 0) ≡ escaped (part s₁ 0 (n - 0)) = wrote-part then (omega (arith, small, first.keeps.long, space)) in
      let m : made ≡ made - 0 = omega arith in
      subst (λ (u : Text). Wrote b₀ start u b' r) (e ∙ ap (λ (k : ℕ). part s₂ 0 k) m ∙ same ∙ ap escaped text-is) w
