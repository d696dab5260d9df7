-- The worked rearrangement, so that nobody can say that the premises are never met. Assumes nothing.
use mathlib.Core.Path.{◌≡◌, refl, sym, ap, ◌∙◌}
use mathlib.Core.Logic.{◌⊎◌, inl, inr, ◌≢◌}
use mathlib.Core.List.{◌++◌}
use Prim.Native.Nat.{ℕ, zero, suc, ◌+◌, ◌-◌, ◌≤◌, ◌<◌}
use native.Mathlib.Decide.{dec_lt}
use native.Mathlib.Omega.{arith}
use lib.ListN.{get_or, get_or-append, get_or-eq_default}
use lib.Seq.{get_or-drop}
use Rattle.numbers.specs.Fixed.{le_at}
use Rattle.numbers.specs.Bits.{bit_at, ones_below}
use Rattle.header.specs.Stream.{row_count, over_limit, opened, base}
use Rattle.layouts.specs.Columns.{tables, reaches, index_size, heap_size, has_custom_attribute, index_sizes, sum_of, row_size}
use Rattle.numbers.specs.Lists.{tabulate}
use Rattle.tables.specs.Extents.{start_of, is_table, passes, stop_from, stop_kind, whole_rows, if_reached, walked, Extent, sizes_in, walk_by, extent_by, only_entire, kept_by}
use Rattle.heaps.specs.Lookups.{before, string_at, bytes_at, blob_at, name, string}
use Rattle.record.specs.Columns.{column}
use Rattle.layouts.specs.Kinds.{interface_impl, class_layout, nested_class, generic_param}
use Rattle.record.specs.Rows.{row_bytes}
use Rattle.record.specs.Namespaces.{cut, full_name, name_of, own_namespace}
use Rattle.record.specs.View.{place, other_row, view_of}
use Rattle.record.specs.Types.{look, type_full_name}
use Rattle.record.specs.Names.{classes, class_full_name, class_named, type_in, type_name_in, base_indices, base_types}
use Rattle.record.specs.Methods.{takes, left_over, left_after}
use Rattle.record.specs.Record.{method, class, class_record}
use Rattle.record.specs.Rearrangement.{Pairing, Moved, InRow, SameOwner, SameClass, SameParent, Tied, Whole, ThreeMoved, Rearranged, Swapped}
use Rattle.tables.specs.Apart.{Inside}
use Rattle.record.specs.Example.{front, a_has_c, d_has_a, layout_of_a, layout_of_b, later_of_a, b_in_a, d_in_c, t_of_a, u_of_c, v_of_a, old, moved, swapped, Example}

-- Where the side tables lie.
abbrev interfaces_at : Extent
interfaces_at = record { start = 114; size = 4; rows = 2 }

abbrev layouts_at : Extent
layouts_at = record { start = 122; size = 8; rows = 3 }

abbrev nested_at : Extent
nested_at = record { start = 146; size = 4; rows = 2 }

abbrev generics_at : Extent
generics_at = record { start = 154; size = 8; rows = 3 }

at-interfaces : place base (opened base old) old interface_impl ≡ interfaces_at
unfolding le_at bit_at ones_below row_count over_limit opened tables reaches index_sizes index_size heap_size has_custom_attribute sum_of row_size start_of is_table passes stop_from stop_kind whole_rows if_reached walked tabulate walk_by extent_by
at-interfaces = refl

at-layouts : place base (opened base old) old class_layout ≡ layouts_at
unfolding le_at bit_at ones_below row_count over_limit opened tables reaches index_sizes index_size heap_size has_custom_attribute sum_of row_size start_of is_table passes stop_from stop_kind whole_rows if_reached walked tabulate walk_by extent_by
at-layouts = refl

at_nested : place base (opened base old) old nested_class ≡ nested_at
unfolding le_at bit_at ones_below row_count over_limit opened tables reaches index_sizes index_size heap_size has_custom_attribute sum_of row_size start_of is_table passes stop_from stop_kind whole_rows if_reached walked tabulate walk_by extent_by
at_nested = refl

at-generics : place base (opened base old) old generic_param ≡ generics_at
unfolding le_at bit_at ones_below row_count over_limit opened tables reaches index_sizes index_size heap_size has_custom_attribute sum_of row_size start_of is_table passes stop_from stop_kind whole_rows if_reached walked tabulate walk_by extent_by
at-generics = refl

whole-interfaces : Whole base (opened base old) old interface_impl
unfolding le_at bit_at ones_below row_count over_limit opened tables reaches index_sizes index_size heap_size has_custom_attribute sum_of row_size start_of is_table passes stop_from stop_kind whole_rows if_reached walked tabulate walk_by extent_by
whole-interfaces = refl

whole-layouts : Whole base (opened base old) old class_layout
unfolding le_at bit_at ones_below row_count over_limit opened tables reaches index_sizes index_size heap_size has_custom_attribute sum_of row_size start_of is_table passes stop_from stop_kind whole_rows if_reached walked tabulate walk_by extent_by
whole-layouts = refl

whole-nested : Whole base (opened base old) old nested_class
unfolding le_at bit_at ones_below row_count over_limit opened tables reaches index_sizes index_size heap_size has_custom_attribute sum_of row_size start_of is_table passes stop_from stop_kind whole_rows if_reached walked tabulate walk_by extent_by
whole-nested = refl

whole-generics : Whole base (opened base old) old generic_param
unfolding le_at bit_at ones_below row_count over_limit opened tables reaches index_sizes index_size heap_size has_custom_attribute sum_of row_size start_of is_table passes stop_from stop_kind whole_rows if_reached walked tabulate walk_by extent_by
whole-generics = refl

-- Rows 0 and 1 change places; the others stay.
abbrev flip : ℕ → ℕ
flip zero = 1
flip (suc zero) = 0
flip (suc (suc i)) = suc (suc i)

flip-below : (n : ℕ) → 2 ≤ n → (i : ℕ) → i < n → flip i < n
flip-below n two zero h = omega arith
flip-below n two (suc zero) h = omega arith
flip-below n two (suc (suc i)) h = h

flip-flip : (i : ℕ) → flip (flip i) ≡ i
flip-flip zero = refl
flip-flip (suc zero) = refl
flip-flip (suc (suc i)) = refl

flips : (n : ℕ) → 2 ≤ n → Pairing n
flips n two =
    record {
      to = flip;
      from = flip;
      to_below = flip-below n two;
      from-below = flip-below n two;
      from-to = λ i h. flip-flip i;
      to-from = λ i h. flip-flip i;
    }

-- Only the first two rows change their order.
flip-order : (i j : ℕ) → i < j → ((i ≡ 0) × (j ≡ 1)) ⊎ (flip i < flip j)
flip-order zero zero h = absurd (omega arith)
flip-order zero (suc zero) h = inl (refl, refl)
flip-order zero (suc (suc j)) h = inr (omega arith)
flip-order (suc zero) zero h = absurd (omega arith)
flip-order (suc zero) (suc zero) h = absurd (omega arith)
flip-order (suc zero) (suc (suc j)) h = inr (omega arith)
flip-order (suc (suc i)) zero h = absurd (omega arith)
flip-order (suc (suc i)) (suc zero) h = absurd (omega arith)
flip-order (suc (suc i)) (suc (suc j)) h = inr h

flipped : {A : Type 0} (B : A → A → Type 0) (n : ℕ) (two : 2 ≤ n) (f g : ℕ → A) → ((i : ℕ) → i < n → g (flip i) ≡ f i) → ¬ B (f 0) (f 1) → Moved B n f g
unfolding flips
flipped B n two f g same free =
    record {
      places = flips n two;
      same = same;
      order = λ i j h k b. go i j (flip-order i j h) b;
    }
  where
    go : (i j : ℕ) → ((i ≡ 0) × (j ≡ 1)) ⊎ (flip i < flip j) → B (f i) (f j) → flip i < flip j
    go i j (inl e) b = let a = e.0 in let c = e.1 in absurd (free (rw (a, c) at b))
    go i j (inr l) b = l

same-interfaces : (i : ℕ) → i < 2 → row_bytes interfaces_at moved (flip i) ≡ row_bytes interfaces_at old i
same-interfaces zero h = refl
same-interfaces (suc zero) h = refl
same-interfaces (suc (suc i)) h = absurd (omega arith)

same-layouts : (i : ℕ) → i < 3 → row_bytes layouts_at moved (flip i) ≡ row_bytes layouts_at old i
same-layouts zero h = refl
same-layouts (suc zero) h = refl
same-layouts (suc (suc zero)) h = refl
same-layouts (suc (suc (suc i))) h = absurd (omega arith)

same-nested : (i : ℕ) → i < 2 → row_bytes nested_at moved (flip i) ≡ row_bytes nested_at old i
same-nested zero h = refl
same-nested (suc zero) h = refl
same-nested (suc (suc i)) h = absurd (omega arith)

same-generics : (i : ℕ) → i < 3 → row_bytes generics_at moved (flip i) ≡ row_bytes generics_at old i
same-generics zero h = refl
same-generics (suc zero) h = refl
same-generics (suc (suc zero)) h = refl
same-generics (suc (suc (suc i))) h = absurd (omega arith)

free-interfaces : ¬ SameClass (sizes_in base (opened base old)) a_has_c d_has_a
unfolding column le_at bit_at ones_below row_count over_limit opened tables reaches index_sizes index_size heap_size has_custom_attribute sum_of tabulate
free-interfaces e = let z : ◌≡◌ {A = ℕ} 2 5 = e in omega arith

free-layouts : ¬ SameParent (sizes_in base (opened base old)) layout_of_a layout_of_b
unfolding column le_at bit_at ones_below row_count over_limit opened tables reaches index_sizes index_size heap_size has_custom_attribute sum_of tabulate
free-layouts e = let z : ◌≡◌ {A = ℕ} 2 3 = e in omega arith

free-generics : ¬ SameOwner (sizes_in base (opened base old)) t_of_a u_of_c
unfolding column le_at bit_at ones_below row_count over_limit opened tables reaches index_sizes index_size heap_size has_custom_attribute sum_of tabulate
free-generics e = let z : ◌≡◌ {A = ℕ} 4 8 = e in omega arith

free-nested : ¬ Tied (sizes_in base (opened base old)) b_in_a d_in_c
unfolding column le_at bit_at ones_below row_count over_limit opened tables reaches index_sizes index_size heap_size has_custom_attribute sum_of tabulate
free-nested (inl (inl e)) = let z : ◌≡◌ {A = ℕ} 5 3 = e in omega arith
free-nested (inl (inr e)) = let z : ◌≡◌ {A = ℕ} 4 3 = e in omega arith
free-nested (inr (inl e)) = let z : ◌≡◌ {A = ℕ} 3 5 = e in omega arith
free-nested (inr (inr e)) = let z : ◌≡◌ {A = ℕ} 2 5 = e in omega arith

-- Bytes before the side tables and past the end are alike.
others : (p : ℕ) → ¬ Inside interfaces_at p → ¬ Inside layouts_at p → ¬ Inside nested_at p → ¬ Inside generics_at p → get_or moved p 0 ≡ get_or old p 0
others p a d b c = go (dec_lt p 114) (dec_lt p 122) (dec_lt p 146) (dec_lt p 154) (dec_lt p 178)
  where
    go : Dec (p < 114) → Dec (p < 122) → Dec (p < 146) → Dec (p < 154) → Dec (p < 178) → get_or moved p 0 ≡ get_or old p 0
    go (yes l) _ _ _ _ =
        get_or-append front (d_has_a ++ a_has_c ++ layout_of_b ++ layout_of_a ++ later_of_a ++ d_in_c ++ b_in_a ++ u_of_c ++ t_of_a ++ v_of_a) 0 p l
        ∙ sym (get_or-append front (a_has_c ++ d_has_a ++ layout_of_a ++ layout_of_b ++ later_of_a ++ b_in_a ++ d_in_c ++ t_of_a ++ u_of_c ++ v_of_a) 0 p l)
    go (no x) (yes l) _ _ _ = absurd (a (omega arith, omega arith))
    go (no x) (no y) (yes l) _ _ = absurd (d (omega arith, omega arith))
    go (no x) (no y) (no z) (yes l) _ = absurd (b (omega arith, omega arith))
    go (no x) (no y) (no z) (no k) (yes l) = absurd (c (omega arith, omega arith))
    go (no x) (no y) (no z) (no k) (no l) = get_or-eq_default moved 0 {n = p} (omega arith) ∙ sym (get_or-eq_default old 0 {n = p} (omega arith))

three-moved : ThreeMoved base old moved
three-moved =
    record {
      generic-whole = whole-generics;
      interface-whole = whole-interfaces;
      nested-whole = whole-nested;
      generics = rw at-generics (flipped _ 3 (omega arith) (row_bytes generics_at old) (row_bytes generics_at moved) same-generics free-generics);
      interfaces = rw at-interfaces (flipped _ 2 (omega arith) (row_bytes interfaces_at old) (row_bytes interfaces_at moved) same-interfaces free-interfaces);
      nestings = rw at_nested (flipped _ 2 (omega arith) (row_bytes nested_at old) (row_bytes nested_at moved) same-nested free-nested);
    }

allowed : Rearranged base old moved
allowed =
    record {
      three = three-moved;
      layouts = λ _. rw at-layouts (flipped _ 3 (omega arith) (row_bytes layouts_at old) (row_bytes layouts_at moved) same-layouts free-layouts);
      layouts-stay = λ n. absurd (n whole-layouts);
      same_length = refl;
      elsewhere = λ p g. others p (rw at-interfaces at (g interface_impl refl)) (rw at-layouts at (g class_layout refl)) (rw at_nested at (g nested_class refl)) (rw at-generics at (g generic_param refl));
    }

-- Row 1 of the generics is as it was.
middle : (i : ℕ) → i < 8 → get_or swapped (162 + i) 0 ≡ get_or old (162 + i) 0
middle i h =
    sym (get_or-drop 162 swapped i 0)
    ∙ get_or-append u_of_c t_of_a 0 i h
    ∙ sym (get_or-append u_of_c v_of_a 0 i h)
    ∙ get_or-drop 162 old i 0

-- The exchange of rows 0 and 2 changes no byte outside them.
unswapped : (p : ℕ) → ¬ InRow generics_at 0 p → ¬ InRow generics_at 2 p → get_or swapped p 0 ≡ get_or old p 0
unswapped p a b = go (dec_lt p 154) (dec_lt p 162) (dec_lt p 170) (dec_lt p 178)
  where
    go : Dec (p < 154) → Dec (p < 162) → Dec (p < 170) → Dec (p < 178) → get_or swapped p 0 ≡ get_or old p 0
    go (yes l) _ _ _ =
        get_or-append (front ++ (a_has_c ++ d_has_a ++ layout_of_a ++ layout_of_b ++ later_of_a ++ b_in_a ++ d_in_c)) (v_of_a ++ u_of_c ++ t_of_a) 0 p l
        ∙ sym (get_or-append (front ++ (a_has_c ++ d_has_a ++ layout_of_a ++ layout_of_b ++ later_of_a ++ b_in_a ++ d_in_c)) (t_of_a ++ u_of_c ++ v_of_a) 0 p l)
    go (no x) (yes l) _ _ = absurd (a (omega arith, omega arith))
    go (no x) (no y) (yes l) _ = let e : 162 + (p - 162) ≡ p = omega arith in rw e at (middle (p - 162) (omega arith))
    go (no x) (no y) (no z) (yes l) = absurd (b (omega arith, omega arith))
    go (no x) (no y) (no z) (no l) = get_or-eq_default swapped 0 {n = p} (omega arith) ∙ sym (get_or-eq_default old 0 {n = p} (omega arith))

exchanged : Swapped base old swapped 0 2
exchanged =
    record {
      row-i = rw at-generics (omega arith);
      row-j = rw at-generics (omega arith);
      at_i = rw at-generics refl;
      at_j = rw at-generics refl;
      same_length = refl;
      elsewhere = λ p a b. unswapped p (rw at-generics at a) (rw at-generics at b);
    }

differs : moved ≢ old
differs e = let z : ◌≡◌ {A = ℕ} 5 2 = ap (λ l. get_or l 114 0) e in omega arith

pub example : Example
unfolding le_at bit_at ones_below row_count over_limit opened tables reaches index_sizes index_size heap_size has_custom_attribute sum_of row_size start_of is_table passes stop_from stop_kind whole_rows if_reached walked tabulate walk_by extent_by before string_at bytes_at blob_at name string column only_entire kept_by cut full_name name_of own_namespace other_row view_of look type_full_name classes class_full_name class_named type_in type_name_in base_indices base_types takes left_over left_after method class class_record
example = record { allowed = allowed; differs = differs; exchanged = exchanged; classes = refl }
