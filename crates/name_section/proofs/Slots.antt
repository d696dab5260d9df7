-- Slots one after the other: how long they are, where they begin, and whether they fit. Assumes nothing.
use mathlib.Core.Path.{◌≡◌, refl, sym, ◌∙◌, ap}
use mathlib.Core.Bool.{Bool, true, false, ◌&&◌}
use mathlib.Core.List.{List, [], ◌∷◌, ◌++◌, append_assoc, append-nil}
use mathlib.Core.Option.{Option, none}
use Prim.Native.Nat.{ℕ, zero, suc, ◌+◌, ◌-◌, ◌%◌, ◌≤◌, ◌<◌}
use native.Mathlib.Numerals.{add-one}
use native.Mathlib.Omega.{arith}
use borrow.Author.Tests.{le-leb, lt-leb}
use lib.Dec.{leb}
use lib.ListN.{length, get_or, take, replicate, length-append, length-replicate}
use lib.Seq.{take-suc}
use Rattle.buffers.specs.Texts.{Text}
use Rattle.record.specs.Missing.{or_default}
use Rattle.name_section.specs.Section.{slot, section, offsets_from, most_offset, narrow, fits}
use Rattle.name_section.specs.Claims.{Aligned}

-- A slot's length is a multiple of four.
pub aligned : Aligned
unfolding slot
aligned n =
    let t = or_default [] n in
    let e : length (t ++ replicate (4 - length t % 4) 0) ≡ length t + (4 - length t % 4) =
    length-append t _ ∙ ap (λ (k : ℕ). length t + k) (length-replicate (4 - length t % 4) 0) in
    rw e (omega arith)

-- The slots of some names and then of others.
pub section-then : (l m : List (Option Text)) → section (l ++ m) ≡ section l ++ section m
unfolding section
section-then [] m = refl
section-then (n ∷ l) m = ap (λ (t : Text). slot n ++ t) (section-then l m) ∙ sym (append_assoc (slot n) (section l) (section m))

section-one : (n : Option Text) → section (n ∷ []) ≡ slot n
unfolding section
section-one n = append-nil (slot n)

pub section-more : (l : List (Option Text)) (c : ℕ) → c < length l → section (take (c + 1) l) ≡ section (take c l) ++ slot (get_or l c none)
section-more l c h =
    ap (λ (k : ℕ). section (take k l)) (add-one c)
    ∙ ap section (take-suc l c none h)
    ∙ section-then (take c l) (get_or l c none ∷ [])
    ∙ ap (λ (t : Text). section (take c l) ++ t) (section-one (get_or l c none))

-- The slots of the first names are no longer than all.
pub section-grows : (l : List (Option Text)) (c : ℕ) → length (section (take c l)) ≤ length (section l)
unfolding section
section-grows l zero = omega arith
section-grows [] (suc c) = omega arith
section-grows (n ∷ l) (suc c) =
    omega (arith, section-grows l c, length-append (slot n) (section (take c l)), length-append (slot n) (section l))

-- A slot begins behind those before it.
pub offset_at : (at : ℕ) (l : List (Option Text)) (c : ℕ) → c < length l → get_or (offsets_from at l) c 0 ≡ at + length (section (take c l))
unfolding offsets_from section
offset_at at [] c h = absurd (omega arith)
offset_at at (n ∷ l) zero h = omega arith
offset_at at (n ∷ l) (suc c) h =
    let less : c < length l = omega arith in
    omega (arith, offset_at (at + length (slot n)) l c less, length-append (slot n) (section (take c l)))

pub offsets-length : (at : ℕ) (l : List (Option Text)) → length (offsets_from at l) ≡ length l
unfolding offsets_from
offsets-length at [] = refl
offsets-length at (n ∷ l) = ap suc (offsets-length (at + length (slot n)) l)

-- Offsets of 32 bits.
pub narrow-all : (l : List ℕ) → ((i : ℕ) → i < length l → get_or l i 0 ≤ most_offset) → narrow l ≡ true
unfolding narrow
narrow-all [] h = refl
narrow-all (o ∷ l) h = rw (le-leb o most_offset (h 0 (omega arith))) (narrow-all l (λ i lt. h (suc i) (omega arith)))

both : (a : Bool) {b : Bool} → b ≡ false → (a && b) ≡ false
both true e = e
both false e = refl

pub narrow-not : (l : List ℕ) (i : ℕ) → i < length l → most_offset < get_or l i 0 → narrow l ≡ false
unfolding narrow
narrow-not [] i h far = absurd (omega arith)
narrow-not (o ∷ l) zero h far = rw (lt-leb o most_offset far)
narrow-not (o ∷ l) (suc i) h far = both (leb o most_offset) (narrow-not l i (omega arith) far)

-- Whether names fit.
module _ (l : List (Option Text)) (room places : ℕ) where
  pub fit_all : length l ≤ places → length (section l) ≤ room → narrow (offsets_from 0 l) ≡ true → fits l room places ≡ true
  unfolding fits
  fit_all h k e = rw (le-leb (length l) places h, le-leb (length (section l)) room k) e

  pub fit-classes : places < length l → fits l room places ≡ false
  unfolding fits
  fit-classes h = rw (lt-leb (length l) places h)

  pub fit-bytes : room < length (section l) → fits l room places ≡ false
  unfolding fits
  fit-bytes h = both (leb (length l) places) (rw (lt-leb (length (section l)) room h))

  pub fit-offsets : narrow (offsets_from 0 l) ≡ false → fits l room places ≡ false
  unfolding fits
  fit-offsets e = both (leb (length l) places) (both (leb (length (section l)) room) e)
