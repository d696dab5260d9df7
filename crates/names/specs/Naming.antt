-- Names as the code finds them: a place in the strings heap, and what one backward pass over the NestedClass rows meets.
use Rattle.std.specs.Prelude.{◌≡◌, cond, ◌&&◌, List, [], ◌∷◌, ◌++◌, ℕ, ◌+◌, ◌≤◌, ◌<◌, eqb, ltb, length, Some, None}
use Rattle.std.proofs.Math.Option.{Option, none, some}
use Rattle.numbers.specs.Parts.{part}
use Rattle.buffers.specs.Texts.{Text}
use Rattle.heaps.specs.Lookups.{string}
use Rattle.layouts.specs.Kinds.{type_def, nested_class}
use Rattle.layouts.specs.declared.IndexSizes.{IndexSizes}
use Rattle.tables.specs.Extents.{sizes_in}
use Rattle.record.specs.Missing.{and_then}
use Rattle.record.specs.Columns.{column, nested, enclosing}
use Rattle.record.specs.Rows.{runs}
use Rattle.record.specs.Namespaces.{class_at, name_of, own_namespace, nest}
use Rattle.record.specs.View.{other_row, side_row}
use Rattle.layouts.specs.Read.{read_column}
use Rattle.rows.specs.Columns as columns
use Rattle.rows.specs.Layout.{options_in, header_in, rows_at}
use Rattle.heaps.specs.declared.Span.{Span}
use Rattle.classes.specs.declared.TypeDefRow.{TypeDefRow}
use Rattle.std.specs.declared.option.Option as std

-- Where in the strings heap a name stands, as the code has it.
abbrev pub Name : Type 0
Name = std.Option Span

-- The class around another, as the code has it.
abbrev pub Around : Type 0
Around = std.Option TypeDefRow

-- The last of some NestedClass rows that puts a class around another, as the code has it: the class and the row.
abbrev pub Outer : Type 0
Outer = std.Option (TypeDefRow × ℕ)

-- The text that a name in the strings heap s is.
abbrev pub name_text : List ℕ → Name → Option Text
name_text s (Some span) = some (part s span.start span.len)
name_text s None = none

-- It lies in the heap.
abbrev pub NameInside : List ℕ → Name → Type 0
NameInside s (Some span) = span.start + span.len ≤ length s
NameInside s None = Unit {0}

-- r is the text d, or that it is missing.
pub record Shows (s : List ℕ) (d : Option Text) (r : Name) : Type 0 where
  pub is : name_text s r ≡ d
  pub inside : NameInside s r

-- By the tables stream, its layout and the strings heap:
module _ (t l strings : List ℕ) where
  abbrev sizes : IndexSizes
  sizes = sizes_in (options_in l) (header_in t l)

  abbrev row : ℕ → ℕ → Option (List ℕ)
  row = other_row (options_in l) (header_in t l) t

  -- The string that column c, of TypeDef, finds in the row of a class.
  unfoldable pub class_string : ℕ → ℕ → Option Text
  class_string c r = and_then (class_at sizes strings row r) (λ bytes. string strings (column type_def (read_column c).place sizes bytes))

  -- Its name.
  unfoldable pub name_in : ℕ → Option Text
  name_in r = name_of sizes strings row r

  -- The namespace of the class at TypeDef row r once the first i NestedClass rows have acted.
  unfoldable pub space_in : ℕ → ℕ → Option Text
  space_in i r = runs (nest sizes strings row) (side_row (options_in l) (header_in t l) t nested_class) i (own_namespace sizes strings row) r

-- The class that NestedClass row i puts around the class at TypeDef row r, if it does: as a row number.
unfoldable pub around_in : List ℕ → List ℕ → ℕ → ℕ → Option ℕ
around_in t l i r =
    let w = sizes_in (options_in l) (header_in t l) in
    let bytes = side_row (options_in l) (header_in t l) t nested_class i in
    cond (ltb 1 (nested w bytes) && (ltb 1 (enclosing w bytes) && eqb r (nested w bytes))) (some (enclosing w bytes)) none

abbrev pub around_says : Around → Option ℕ
around_says (Some r) = some r.0
around_says None = none

-- Of the first n NestedClass rows the last that puts a class around the class at TypeDef row r, and that class; or that none does.
abbrev pub LastAround : List ℕ → List ℕ → ℕ → ℕ → Outer → Type 0
LastAround t l n r (Some outer) =
    (outer.1 < n) × (some outer.0.0 ≡ around_in t l outer.1 r) × ((j : ℕ) → outer.1 < j → j < n → none ≡ around_in t l j r)
LastAround t l n r None = (j : ℕ) → j < n → none ≡ around_in t l j r

-- What stands in front of a name: its namespace and a dot, where it has one.
unfoldable pub dotted : Option Text → Text
dotted none = []
dotted (some space) = space ++ 0x2E ∷ []

-- What stands in front of the name of the class at TypeDef row r once the first i NestedClass rows have acted.
abbrev pub front_in : List ℕ → List ℕ → List ℕ → ℕ → ℕ → Text
front_in t l strings i r = dotted (space_in t l strings i r)

-- A name behind what stands in front of it once all NestedClass rows have acted.
unfoldable pub behind_front : List ℕ → List ℕ → List ℕ → ℕ → Text → Text
behind_front t l strings r name = front_in t l strings (rows_at l columns.nested) r ++ name
