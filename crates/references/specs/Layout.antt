-- The layout of the references: the numbers by which code reads the columns that the references come from (ECMA-335 II.22) on demand. It is
-- one of its own, beside that of `rows`, since few calls read these columns, and each reads few of them.
use Rattle.std.specs.Prelude.{◌≡◌, cond, List, [], ◌∷◌, ◌++◌, map, ℕ, ◌+◌, ◌*◌, eqb, length, get_or, replicate, Ok, Err}
use Rattle.buffers.specs.declared.Refusal.{Refusal}
use Rattle.header.specs.Stream.{Opened, opened}
use Rattle.header.specs.declared.Options.{Options}
use Rattle.header.specs.Stream.{Opening}
use Rattle.layouts.specs.Kinds.{constant, custom_attribute, module_ref, assembly_ref}
use Rattle.layouts.specs.declared.IndexSizes.{IndexSizes}
use Rattle.layouts.specs.Read.{reference_columns, reference_column}
use Rattle.tables.specs.Extents.{kept_by, sizes_in}
use Rattle.record.specs.Columns.{column}
use Rattle.record.specs.Rows.{row_bytes, count}
use Rattle.record.specs.View.{View, view, place}
use Rattle.rows.specs.Columns as form
use Rattle.rows.specs.Layout.{all_numbers, option_numbers}
use Rattle.references.specs.Columns as columns

-- How many rows a table has that is read whole (`entire_rows` of a view), by the index sizes, what opening found and the stream's length.
unfoldable pub entire_by : IndexSizes → Opening → ℕ → ℕ → ℕ
entire_by w h n k = let rows = kept_by w h n k in cond (eqb rows (count h k)) rows 0

-- By the options, what opening found, and the length of the tables stream:
module _ (o : Options) (h : Opening) (n : ℕ) where
  -- How many rows the tables have that are given only if they are read whole.
  abbrev pub entire_numbers : List ℕ
  entire_numbers = map (entire_by (sizes_in o h) h n) (constant ∷ custom_attribute ∷ module_ref ∷ assembly_ref ∷ [])

  -- The layout: the numbers of all columns, the options, and these.
  unfoldable pub layout_of : List ℕ
  layout_of = all_numbers o h n reference_columns ++ (option_numbers o h n ++ entire_numbers)

-- What the layout l of a tables stream t says. The options:
unfoldable pub options_in : List ℕ → Options
options_in l = record { limit = get_or l columns.limit 0; security = eqb (get_or l columns.security 0) 1; taker = eqb (get_or l columns.taker 0) 1 }

abbrev pub header_in : List ℕ → List ℕ → Opening
header_in t l = opened (options_in l) t

-- the kept rows of the table that column c is of,
abbrev pub rows_at : List ℕ → ℕ → ℕ
rows_at l c = get_or l (columns.numbers * c + form.rows) 0

-- row i, from 0, of that table, and the number that stands in column c of it.
abbrev pub row_at : List ℕ → List ℕ → ℕ → ℕ → List ℕ
row_at t l c i = row_bytes (place (options_in l) (header_in t l) t (reference_column c).kind) t i

abbrev pub cell : List ℕ → List ℕ → ℕ → ℕ → ℕ
cell t l c i = column (reference_column c).kind (reference_column c).place (sizes_in (options_in l) (header_in t l)) (row_at t l c i)

-- l is the layout of the tables stream t, which was opened and not refused.
pub record Laid (t l : List ℕ) : Type 0 where
  pub size : length l ≡ columns.size
  pub ready : (header_in t l).answer ≡ (Ok tt)
  pub is : l ≡ layout_of (options_in l) (header_in t l) (length t)

-- The view of a stream by its layout.
abbrev pub view_in : List ℕ → List ℕ → List ℕ → List ℕ → View
view_in t l strings blob = view (options_in l) t strings blob

-- Opening the tables stream t by the options o gives the answer a, and the layout l, which says the options; zeros where it is refused.
pub record OpenedAs (o : Options) (t : List ℕ) (a : Opened) (l : List ℕ) : Type 0 where
  pub answer : a ≡ (opened o t).answer
  pub laid : a ≡ (Ok tt) → Laid t l
  pub options : a ≡ (Ok tt) → options_in l ≡ o
  pub blank : {why : Refusal} → a ≡ Err why → l ≡ replicate columns.size 0
