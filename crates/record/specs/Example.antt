-- A tables stream, an allowed rearrangement of it that moves rows of all four side tables, and a forbidden exchange.
-- Classes A, B, C, D: B is nested in A and D in C; A has interface C and D has interface A; A has generics T and V, C has U;
-- A has two ClassLayout rows, the first of which decides, and B has one.
use Rattle.std.specs.Prelude.{◌≡◌, ◌≢◌, List, [], ◌∷◌, ◌++◌, ℕ}
use Rattle.std.proofs.Math.Option.{none, some}
use Rattle.buffers.specs.Texts.{q}
use Rattle.heaps.specs.Lookups.{found}
use Rattle.header.specs.Stream.{base}
use Rattle.record.specs.View.{view}
use Rattle.record.specs.Record.{class_record}
use Rattle.record.specs.Rearrangement.{Rearranged, Swapped}

-- Header, counts (5 TypeDef, 2 InterfaceImpl, 3 ClassLayout, 2 NestedClass, 3 GenericParam), and the TypeDef rows.
abbrev pub front : List ℕ
front =
    0 ∷ 0 ∷ 0 ∷ 0 ∷ 2 ∷ 0 ∷ 0 ∷ 1 ∷ 4 ∷ 0x82 ∷ 0 ∷ 0 ∷ 0 ∷ 6 ∷ 0 ∷ 0 ∷ 0 ∷ 0 ∷ 0 ∷ 0 ∷ 0 ∷ 0 ∷ 0 ∷ 0 ∷
    5 ∷ 0 ∷ 0 ∷ 0 ∷ 2 ∷ 0 ∷ 0 ∷ 0 ∷ 3 ∷ 0 ∷ 0 ∷ 0 ∷ 2 ∷ 0 ∷ 0 ∷ 0 ∷ 3 ∷ 0 ∷ 0 ∷ 0 ∷
    0 ∷ 0 ∷ 0 ∷ 0 ∷ 0 ∷ 0 ∷ 0 ∷ 0 ∷ 0 ∷ 0 ∷ 0 ∷ 0 ∷ 0 ∷ 0 ∷
    0 ∷ 0 ∷ 0 ∷ 0 ∷ 1 ∷ 0 ∷ 0 ∷ 0 ∷ 0 ∷ 0 ∷ 0 ∷ 0 ∷ 0 ∷ 0 ∷
    0 ∷ 0 ∷ 0 ∷ 0 ∷ 3 ∷ 0 ∷ 0 ∷ 0 ∷ 0 ∷ 0 ∷ 0 ∷ 0 ∷ 0 ∷ 0 ∷
    0 ∷ 0 ∷ 0 ∷ 0 ∷ 5 ∷ 0 ∷ 0 ∷ 0 ∷ 0 ∷ 0 ∷ 0 ∷ 0 ∷ 0 ∷ 0 ∷
    0 ∷ 0 ∷ 0 ∷ 0 ∷ 7 ∷ 0 ∷ 0 ∷ 0 ∷ 0 ∷ 0 ∷ 0 ∷ 0 ∷ 0 ∷ 0 ∷
    []

abbrev pub strings : List ℕ
strings = 0 ∷ 0x41 ∷ 0 ∷ 0x42 ∷ 0 ∷ 0x43 ∷ 0 ∷ 0x44 ∷ 0 ∷ 0x54 ∷ 0 ∷ 0x55 ∷ 0 ∷ 0x56 ∷ 0 ∷ []

-- InterfaceImpl: class 2 (A), interface TypeDef row 4 (C); class 5 (D), interface TypeDef row 2 (A).
abbrev pub a_has_c : List ℕ
a_has_c = 2 ∷ 0 ∷ 16 ∷ 0 ∷ []

abbrev pub d_has_a : List ℕ
d_has_a = 5 ∷ 0 ∷ 8 ∷ 0 ∷ []

-- ClassLayout: of A packing 4 and size 16, then 8 and 32; of B packing 1 and size 5.
abbrev pub layout_of_a : List ℕ
layout_of_a = 4 ∷ 0 ∷ 16 ∷ 0 ∷ 0 ∷ 0 ∷ 2 ∷ 0 ∷ []

abbrev pub layout_of_b : List ℕ
layout_of_b = 1 ∷ 0 ∷ 5 ∷ 0 ∷ 0 ∷ 0 ∷ 3 ∷ 0 ∷ []

abbrev pub later_of_a : List ℕ
later_of_a = 8 ∷ 0 ∷ 32 ∷ 0 ∷ 0 ∷ 0 ∷ 2 ∷ 0 ∷ []

-- NestedClass: B in A, D in C.
abbrev pub b_in_a : List ℕ
b_in_a = 3 ∷ 0 ∷ 2 ∷ 0 ∷ []

abbrev pub d_in_c : List ℕ
d_in_c = 5 ∷ 0 ∷ 4 ∷ 0 ∷ []

-- GenericParam: T and V of A, U of C.
abbrev pub t_of_a : List ℕ
t_of_a = 0 ∷ 0 ∷ 0 ∷ 0 ∷ 4 ∷ 0 ∷ 9 ∷ 0 ∷ []

abbrev pub u_of_c : List ℕ
u_of_c = 0 ∷ 0 ∷ 0 ∷ 0 ∷ 8 ∷ 0 ∷ 11 ∷ 0 ∷ []

abbrev pub v_of_a : List ℕ
v_of_a = 0 ∷ 0 ∷ 0 ∷ 0 ∷ 4 ∷ 0 ∷ 13 ∷ 0 ∷ []

abbrev pub old : List ℕ
old = front ++ (a_has_c ++ d_has_a ++ layout_of_a ++ layout_of_b ++ later_of_a ++ b_in_a ++ d_in_c ++ t_of_a ++ u_of_c ++ v_of_a)

-- Each table's first two rows change places.
abbrev pub moved : List ℕ
moved = front ++ (d_has_a ++ a_has_c ++ layout_of_b ++ layout_of_a ++ later_of_a ++ d_in_c ++ b_in_a ++ u_of_c ++ t_of_a ++ v_of_a)

-- The two generics of A change places.
abbrev pub swapped : List ℕ
swapped = front ++ (a_has_c ++ d_has_a ++ layout_of_a ++ layout_of_b ++ later_of_a ++ b_in_a ++ d_in_c ++ v_of_a ++ u_of_c ++ t_of_a)

-- The rearrangement is allowed, though bytes differ; the record is the one described; the exchange is a swap.
pub record Example : Type 0 where
  pub allowed : Rearranged base old moved
  pub differs : moved ≢ old
  pub exchanged : Swapped base old swapped 0 2
  pub classes :
      class_record (view base old strings [])
      ≡ record { name = found (q "A"); flags = 0; layout = some (record { packing = 4; size = 16 }); generics = found (q "T") ∷ found (q "V") ∷ []; bases = q "C" ∷ []; methods = [] }
      ∷ record { name = found (q "A.B"); flags = 0; layout = some (record { packing = 1; size = 5 }); generics = []; bases = []; methods = [] }
      ∷ record { name = found (q "C"); flags = 0; layout = none; generics = found (q "U") ∷ []; bases = []; methods = [] }
      ∷ record { name = found (q "C.D"); flags = 0; layout = none; generics = []; bases = q "A" ∷ []; methods = [] }
      ∷ []
