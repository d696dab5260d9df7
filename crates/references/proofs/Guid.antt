-- The text in the value of a custom attribute, as the code finds it. Assumes nothing.
use mathlib.Core.Path.{◌≡◌, refl}
use mathlib.Core.Bool.{Bool, true, false, cond, ◌&&◌}
use mathlib.Core.List.{List}
use mathlib.Core.Option.{none, some}
use Prim.Native.Nat.{ℕ, ◌+◌, ◌≤◌, ◌<◌}
use borrow.Author.Tests.{eq-eqb, lt-ltb, le-leb}
use lib.Dec.{T, eqb, ltb, leb, eqb→eq, ltb→lt, leb→le}
use lib.ListN.{length, get_or}
use Rattle.numbers.specs.Parts.{part}
use Rattle.layouts.proofs.Reaches.{and_left, and_right}
use Rattle.record.specs.References.{null_string, guid_text}

-- The prolog 01 00, a length that is neither 0 nor that of a null string, and room for so many bytes.
pub record Holds (b : List ℕ) : Type 0 where
  pub first : get_or b 0 0 ≡ 1
  pub second : get_or b 1 0 ≡ 0
  pub some_bytes : 0 < get_or b 2 0
  pub not_null : get_or b 2 0 < null_string
  pub room : 3 + get_or b 2 0 ≤ length b

module _ (b : List ℕ) where
  pub guid-is : Holds b → some (part b 3 (get_or b 2 0)) ≡ guid_text b
  unfolding guid_text
  guid-is h =
      rw (eq-eqb _ _ h.first, eq-eqb _ _ h.second, lt-ltb _ _ h.some_bytes, lt-ltb _ _ h.not_null, le-leb _ _ h.room)

  abbrev tested : Bool
  tested = eqb (get_or b 0 0) 1 && eqb (get_or b 1 0) 0 && ltb 0 (get_or b 2 0) && ltb (get_or b 2 0) null_string && leb (3 + get_or b 2 0) (length b)

  holds : T tested → Holds b
  holds t =
      let one = eqb (get_or b 0 0) 1 in
      let two = one && eqb (get_or b 1 0) 0 in
      let three = two && ltb 0 (get_or b 2 0) in
      let four = three && ltb (get_or b 2 0) null_string in
      let u = and_left four _ t in
      let v = and_left three _ u in
      let w = and_left two _ v in
      record {
        first = eqb→eq _ _ (and_left one _ w);
        second = eqb→eq _ _ (and_right one _ w);
        some_bytes = ltb→lt _ _ (and_right two _ v);
        not_null = ltb→lt _ _ (and_right three _ u);
        room = leb→le _ _ (and_right four _ t);
      }

  pub guid-not : (Holds b → ⊥) → none ≡ guid_text b
  unfolding guid_text
  guid-not h = go tested (λ t. h (holds t))
    where
      go : (x : Bool) → (T x → ⊥) → none ≡ cond x (some (part b 3 (get_or b 2 0))) none
      go true n = absurd (n tt)
      go false n = refl
