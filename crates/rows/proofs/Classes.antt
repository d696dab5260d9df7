-- What the view says of classes and methods, by the layout: how many there are, and where a class's MethodList column stands. Assumes
-- nothing.
use mathlib.Core.Path.{◌≡◌, sym, ap, ◌∙◌}
use mathlib.Core.List.{List}
use Prim.Native.Nat.{ℕ, ◌+◌, ◌-◌, ◌<◌}
use lib.ListN.{length}
use Rattle.layouts.specs.Kinds.{type_def, method_def}
use Rattle.layouts.specs.Read.{read_column}
use Rattle.tables.specs.Extents.{kept_rows}
use Rattle.record.specs.Columns.{method_list}
use Rattle.record.specs.View.{View, view_of}
use Rattle.record.specs.Names.{rows_in, number_in, classes, class_row}
use Rattle.record.proofs.Read.{class-row}
use Rattle.rows.specs.Columns as columns
use Rattle.rows.specs.Layout.{Laid, rows_at, cell, options_in, header_in, view_in}
use Rattle.rows.proofs.Laws.{rows-at}

module _ {t l : List ℕ} (laid : Laid t l) (strings blob : List ℕ) where
  abbrev v : View
  v = view_in t l strings blob

  -- The rows of a table, by one of its columns.
  rows-by : (c kind : ℕ) → c < columns.count → (read_column c).kind ≡ kind → kept_rows (options_in l) (header_in t l) (length t) kind ≡ rows_at l c
  rows-by c kind h e = ap (kept_rows (options_in l) (header_in t l) (length t)) (sym e) ∙ sym (rows-at laid c h)

  -- TypeDef row 1 is no class.
  pub classes-are : (c : ℕ) → c < columns.count → (read_column c).kind ≡ type_def → classes v ≡ rows_at l c - 1
  unfolding classes view_of
  classes-are c h e = ap (λ (n : ℕ). n - 1) (rows-by c type_def h e)

  pub methods-are : (c : ℕ) → c < columns.count → (read_column c).kind ≡ method_def → rows_in v method_def ≡ rows_at l c
  unfolding view_of
  methods-are c h e = rows-by c method_def h e

  -- The column of class c stands in the row after the class's number.
  pub list_at : (c : ℕ) → c < classes v → number_in v method_list (class_row v c) ≡ cell t l columns.method_list (c + 1)
  unfolding view_of
  list_at c h = ap (number_in v method_list) (class-row (options_in l) t strings blob c h)
