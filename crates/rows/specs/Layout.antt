-- The layout: the numbers by which code reads the columns of the record's tables (ECMA-335 II.22) on demand. Opening makes it once, by
-- what the walk found; the code has it as words of 32 bits. Behind these numbers stand a mark, which says what is known of a column's order,
-- and where the memories are (Held.antt) by which rows are found: these stand behind the layout's own words.
use Rattle.std.specs.Prelude.{◌≡◌, Bool, cond, ◌&&◌, List, [], ◌∷◌, ◌++◌, ℕ, ◌+◌, ◌*◌, ◌/◌, ◌%◌, ◌<◌, ◌≤◌, eqb, length, get_or, Ok}
use Rattle.numbers.specs.Parts.{part}
use Rattle.header.specs.Stream.{opened}
use Rattle.header.specs.declared.Options.{Options}
use Rattle.header.specs.Stream.{Opening}
use Rattle.layouts.specs.Read.{Of, read_columns, read_column, offset_in, bytes_in}
use Rattle.tables.specs.Extents.{extent, kept_rows, sizes_in}
use Rattle.record.specs.Columns.{column}
use Rattle.record.specs.Rows.{row_bytes}
use Rattle.record.specs.View.{View, view, place}
use Rattle.rows.specs.Columns as columns
use Rattle.rows.specs.Held.{Sorted, Nested}

-- By the options, what opening found, and the length of the tables stream:
module _ (o : Options) (h : Opening) (n : ℕ) where
  -- The numbers of a column: where it stands in the table's first row, as a low and a high word, how far it is to the next row, its
  -- bytes, and how many rows are kept.
  abbrev pub column_numbers : Of → List ℕ
  column_numbers c =
      let e = extent o h n c.kind in
      let first = e.start + offset_in (sizes_in o h) c in
      (first % columns.word) ∷ (first / columns.word) ∷ e.size ∷ bytes_in (sizes_in o h) c ∷ kept_rows o h n c.kind ∷ []

  -- Those of columns, one after the other.
  abbrev pub all_numbers : List Of → List ℕ
  all_numbers [] = []
  all_numbers (c ∷ cs) = column_numbers c ++ all_numbers cs

  -- The options, which say how the stream was opened.
  abbrev pub option_numbers : List ℕ
  option_numbers = o.limit ∷ cond o.security 1 0 ∷ cond o.taker 1 0 ∷ []

  -- The layout: the numbers of all columns that are read, and the options.
  unfoldable pub layout_of : List ℕ
  layout_of = all_numbers read_columns ++ option_numbers

-- What the layout l of a tables stream t says. The options:
unfoldable pub options_in : List ℕ → Options
options_in l = record { limit = get_or l columns.limit 0; security = eqb (get_or l columns.security 0) 1; taker = eqb (get_or l columns.taker 0) 1 }

-- the kept rows of the table that column c is of,
abbrev pub rows_at : List ℕ → ℕ → ℕ
rows_at l c = get_or l (columns.numbers * c + columns.rows) 0

abbrev pub header_in : List ℕ → List ℕ → Opening
header_in t l = opened (options_in l) t

-- and the number that stands in column c of row i, from 0, of its table.
abbrev pub cell : List ℕ → List ℕ → ℕ → ℕ → ℕ
cell t l c i =
    column (read_column c).kind (read_column c).place (sizes_in (options_in l) (header_in t l))
    (row_bytes (place (options_in l) (header_in t l) t (read_column c).kind) t i)

-- No number of n rows is less than the one in the row before it.
abbrev pub Ascends : (ℕ → ℕ) → ℕ → Type 0
Ascends f n = (i : ℕ) → i + 1 < n → f i ≤ f (i + 1)

-- Whether column c is marked: known to ascend. Only MethodList may be.
abbrev pub is_marked : List ℕ → ℕ → Bool
is_marked l c = eqb c columns.method_list && eqb (get_or l columns.mark 0) 1

-- Where the memory of number j begins, how many words it has, and these words.
abbrev pub held_start : List ℕ → ℕ → ℕ
held_start l j = get_or l (columns.held + columns.held_numbers * j) 0

abbrev pub held_length : List ℕ → ℕ → ℕ
held_length l j = get_or l (columns.held + columns.held_numbers * j + columns.held_words) 0

abbrev pub held_at : List ℕ → ℕ → List ℕ
held_at l j = part l (held_start l j) (held_length l j)

-- l begins with the layout of the tables stream t, which was opened and not refused. The limit of rows, an option, has 32 bits. The mark is
-- true, and the memories, which stand behind the layout's own words, are: GenericParam by Owner, InterfaceImpl by Class,
-- ClassLayout by Parent, and NestedClass.
pub record Laid (t l : List ℕ) : Type 0 where
  pub size : columns.size ≤ length l
  pub ready : (header_in t l).answer ≡ (Ok tt)
  pub narrow : (options_in l).limit < columns.word
  pub is : (i : ℕ) → i < columns.mark → get_or l i 0 ≡ get_or (layout_of (options_in l) (header_in t l) (length t)) i 0
  pub marked : get_or l columns.mark 0 ≡ 1 → Ascends (cell t l columns.method_list) (rows_at l columns.method_list)
  pub inside : (j : ℕ) → j < columns.held_count → held_start l j + held_length l j ≤ length l
  pub behind : (j : ℕ) → j < columns.held_count → 0 < held_length l j → columns.size ≤ held_start l j
  pub generics : Sorted (cell t l columns.owner) (rows_at l columns.owner) (held_at l columns.by_owner)
  pub interfaces : Sorted (cell t l columns.impl_class) (rows_at l columns.impl_class) (held_at l columns.by_class)
  pub layouts : Sorted (cell t l columns.layout_parent) (rows_at l columns.layout_parent) (held_at l columns.by_parent)
  pub nests : Nested (cell t l columns.nested) (cell t l columns.enclosing) (rows_at l columns.nested) (held_at l columns.by_nested)

-- The view of a stream by its layout.
abbrev pub view_in : List ℕ → List ℕ → List ℕ → List ℕ → View
view_in t l strings blob = view (options_in l) t strings blob
