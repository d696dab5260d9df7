-- What filling the memories of a layout does, and what it must not change.
use Rattle.std.specs.Prelude.{◌≡◌, List, ℕ, zero, suc, ◌+◌, ◌≤◌, ◌<◌, length, get_or, Some, None}
use Rattle.rows.specs.Columns as columns
use Rattle.rows.specs.Layout.{Laid, options_in, rows_at, cell, held_start, held_length, held_at}
use Rattle.rows.specs.Held.{Sorted, Nested}
use Rattle.std.specs.declared.option.Option as std

-- The words m are true of the stream t with the layout l as its memory of number j.
abbrev pub Told : List ℕ → List ℕ → ℕ → List ℕ → Type 0
Told t l zero m = Sorted (cell t l columns.owner) (rows_at l columns.owner) m
Told t l (suc zero) m = Sorted (cell t l columns.impl_class) (rows_at l columns.impl_class) m
Told t l (suc (suc zero)) m = Nested (cell t l columns.nested) (cell t l columns.enclosing) (rows_at l columns.nested) m
Told t l (suc (suc (suc j))) m = Sorted (cell t l columns.layout_parent) (rows_at l columns.layout_parent) m

-- w begins with the words of the layout l, but says that there are no memories.
pub record Bare (l w : List ℕ) : Type 0 where
  pub same : (i : ℕ) → i < columns.held → get_or w i 0 ≡ get_or l i 0
  pub none : (i : ℕ) → columns.held ≤ i → i < columns.size → get_or w i 0 ≡ 0

-- Where a memory ends that begins at a place of n words; or that there is none.
abbrev pub EndIs : ℕ → ℕ → std.Option ℕ → Type 0
EndIs n at (Some end) = (at ≤ end) × (end ≤ n) × (end < columns.word)
EndIs n at None = Unit {0}

-- w begins with the words of the layout l of the stream t, and has true memories, which end before a place.
pub record Holding (t l w : List ℕ) (at : ℕ) : Type 0 where
  pub order : columns.size ≤ at
  pub long : at ≤ length w
  pub same : (i : ℕ) → i < columns.held → get_or w i 0 ≡ get_or l i 0
  pub inside : (j : ℕ) → j < columns.held_count → held_start w j + held_length w j ≤ at
  pub behind : (j : ℕ) → j < columns.held_count → 0 < held_length w j → columns.size ≤ held_start w j
  pub told : (j : ℕ) → j < columns.held_count → Told t l j (held_at w j)

-- w is the layout of the stream t too, opened as the layout l was.
pub record Held (t l w : List ℕ) : Type 0 where
  pub laid : Laid t w
  pub options : options_in w ≡ options_in l
