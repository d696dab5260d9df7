-- The memories of a layout: one of no words is true of every table, and a layout stays a stream's where its numbers stay and what else it
-- says is true. Assumes nothing.
use mathlib.Core.Path.{◌≡◌, sym, ap, subst, ◌∙◌}
use mathlib.Core.List.{List, []}
use Prim.Native.Nat.{ℕ, ◌+◌, ◌-◌, ◌*◌, ◌≤◌, ◌<◌}
use native.Mathlib.Nat.{add-sub_cancel_left}
use native.Mathlib.Omega.{arith}
use lib.ListN.{length, get_or, take, drop, length-drop}
use lib.Seq.{ext_get_or, get_or-take, get_or-drop, length-take-le}
use Rattle.numbers.specs.Parts.{part}
use Rattle.header.specs.Stream.{opened}
use Rattle.header.specs.declared.Options.{Options}
use Rattle.layouts.specs.Read.{read_column}
use Rattle.tables.specs.Extents.{sizes_in}
use Rattle.record.specs.Columns.{column}
use Rattle.record.specs.Rows.{row_bytes}
use Rattle.record.specs.View.{place}
use Rattle.rows.specs.Columns as columns
use Rattle.rows.specs.Held.{Sorted, Nested}
use Rattle.rows.specs.Layout.{options_in, rows_at, cell, Ascends, held_start, held_length, held_at, Laid}

pub sorted_none : (f : ℕ → ℕ) (n : ℕ) → Sorted f n []
sorted_none f n = record { heads = λ k h. absurd (omega arith); rows = λ i l h. absurd (omega arith) }

pub nested-none : (f g : ℕ → ℕ) (n : ℕ) → Nested f g n []
nested-none f g n = record { heads = λ r h. absurd (omega arith); links = λ i l h. absurd (omega arith) }

pub held_none : (l : List ℕ) (j : ℕ) → held_length l j ≡ 0 → held_at l j ≡ []
held_none l j e = ap (λ (n : ℕ). take n (drop (held_start l j) l)) e

-- As the code has it.
pub memory-is : (l : List ℕ) (j : ℕ) {a n : ℕ} → a ≡ held_start l j → n ≡ held_length l j → take (a + n - a) (drop a l) ≡ held_at l j
memory-is l j e f = rw (e, f, add-sub_cancel_left)

-- Parts that have the same words.
pub part_length : (l : List ℕ) (a n : ℕ) → a + n ≤ length l → length (part l a n) ≡ n
part_length l a n h = length-take-le n (drop a l) (omega (arith, length-drop a l))

pub part_at : (l : List ℕ) (a n i : ℕ) → i < n → get_or (part l a n) i 0 ≡ get_or l (a + i) 0
part_at l a n i h = get_or-take n (drop a l) i 0 h ∙ get_or-drop a l i 0

pub part_same : (l l' : List ℕ) (a n : ℕ) → a + n ≤ length l → a + n ≤ length l' → ((i : ℕ) → a ≤ i → i < a + n → get_or l' i 0 ≡ get_or l i 0)
    → part l' a n ≡ part l a n
part_same l l' a n h h' s =
    ext_get_or 0 (part l' a n) (part l a n) (part_length l' a n h' ∙ sym (part_length l a n h))
    (λ i b.
    let k : i < n = omega (arith, part_length l' a n h') in
    part_at l' a n i k ∙ s (a + i) (omega arith) (omega arith) ∙ sym (part_at l a n i k))

-- A layout with the same numbers.
module _ {t l : List ℕ} (l' : List ℕ) (laid : Laid t l) (same : (i : ℕ) → i < columns.mark → get_or l' i 0 ≡ get_or l i 0) where
  pub same-options : options_in l' ≡ options_in l
  unfolding options_in
  same-options = rw (same columns.limit (omega arith), same columns.security (omega arith), same columns.taker (omega arith))

  same-cell : (c : ℕ) → cell t l' c ≡ cell t l c
  same-cell c =
      ap {B = ℕ → ℕ} (λ (o : Options) (i : ℕ). column (read_column c).kind (read_column c).place (sizes_in o (opened o t)) (row_bytes (place o (opened o t) t (read_column c).kind) t i))
      same-options

  same_kept : (c : ℕ) → c < columns.count → rows_at l' c ≡ rows_at l c
  same_kept c h = same (columns.numbers * c + columns.rows) (omega arith)

  sorted-as : (c : ℕ) → c < columns.count → (m : List ℕ) → Sorted (cell t l c) (rows_at l c) m → Sorted (cell t l' c) (rows_at l' c) m
  sorted-as c h m s =
      subst (λ (f : ℕ → ℕ). Sorted f (rows_at l' c) m) (sym (same-cell c)) (subst (λ (n : ℕ). Sorted (cell t l c) n m) (sym (same_kept c h)) s)

  nested-as : (m : List ℕ) → Nested (cell t l columns.nested) (cell t l columns.enclosing) (rows_at l columns.nested) m
      → Nested (cell t l' columns.nested) (cell t l' columns.enclosing) (rows_at l' columns.nested) m
  nested-as m s =
      subst (λ (f : ℕ → ℕ). Nested f (cell t l' columns.enclosing) (rows_at l' columns.nested) m) (sym (same-cell columns.nested))
      (subst (λ (f : ℕ → ℕ). Nested (cell t l columns.nested) f (rows_at l' columns.nested) m) (sym (same-cell columns.enclosing))
      (subst (λ (n : ℕ). Nested (cell t l columns.nested) (cell t l columns.enclosing) n m) (sym (same_kept columns.nested (omega arith))) s))

  pub relaid : columns.size ≤ length l'
      → (get_or l' columns.mark 0 ≡ 1 → Ascends (cell t l columns.method_list) (rows_at l columns.method_list))
      → ((j : ℕ) → j < columns.held_count → held_start l' j + held_length l' j ≤ length l')
      → ((j : ℕ) → j < columns.held_count → 0 < held_length l' j → columns.size ≤ held_start l' j)
      → Sorted (cell t l columns.owner) (rows_at l columns.owner) (held_at l' columns.by_owner)
      → Sorted (cell t l columns.impl_class) (rows_at l columns.impl_class) (held_at l' columns.by_class)
      → Sorted (cell t l columns.layout_parent) (rows_at l columns.layout_parent) (held_at l' columns.by_parent)
      → Nested (cell t l columns.nested) (cell t l columns.enclosing) (rows_at l columns.nested) (held_at l' columns.by_nested)
      → Laid t l'
  relaid size up inside behind generics interfaces layouts nests =
      record {
        size = size;
        ready = rw same-options laid.ready;
        narrow = rw same-options laid.narrow;
        is = λ i k. rw same-options (same i k ∙ laid.is i k);
        marked = λ m. rw (same-options, same_kept columns.method_list (omega arith)) (up m);
        inside = inside;
        behind = behind;
        generics = sorted-as columns.owner (omega arith) _ generics;
        interfaces = sorted-as columns.impl_class (omega arith) _ interfaces;
        layouts = sorted-as columns.layout_parent (omega arith) _ layouts;
        nests = nested-as _ nests;
      }
