-- What a layout of the references says: the numbers of each column, and the rows of tables that are read whole. Assumes nothing.
use mathlib.Core.Path.{◌≡◌, ap, ◌∙◌}
use mathlib.Core.List.{List}
use Prim.Native.Nat.{ℕ, ◌+◌, ◌*◌, ◌<◌}
use native.Mathlib.Omega.{arith}
use lib.ListN.{length, get_or}
use Rattle.header.specs.declared.Options.{Options}
use Rattle.header.specs.Stream.{Opening}
use Rattle.layouts.specs.Columns.{tables}
use Rattle.layouts.specs.Kinds.{constant, custom_attribute, module_ref, assembly_ref}
use Rattle.layouts.specs.Read.{reference_columns, reference_column}
use Rattle.tables.specs.Extents.{kept_rows, sizes_in}
use Rattle.rows.specs.Columns as form
use Rattle.rows.specs.Layout.{column_numbers}
use Rattle.rows.proofs.Numbers.{Reads, numbers-read}
use Rattle.references.specs.Columns as columns
use Rattle.references.specs.Layout.{entire_by, layout_of, options_in, header_in, rows_at, cell, Laid}
use Rattle.references.proofs.Laying.{layout-at}

module _ {t l : List ℕ} (laid : Laid t l) where
  abbrev o : Options
  o = options_in l

  abbrev h : Opening
  h = header_in t l

  number_at : (c d : ℕ) → c < columns.count → d < columns.numbers → get_or l (columns.numbers * c + d) 0 ≡ get_or (column_numbers o h (length t) (reference_column c)) d 0
  number_at c d k m = ap (λ (x : List ℕ). get_or x (columns.numbers * c + d) 0) laid.is ∙ layout-at o h (length t) c d k m

  -- The kept rows of the table of column c.
  pub rows-at : (c : ℕ) → c < columns.count → rows_at l c ≡ kept_rows o h (length t) (reference_column c).kind
  rows-at c k = number_at c form.rows k (omega arith)

  -- What reading row i of column c relies on, as the code has the column's numbers.
  pub reads : (c i : ℕ) → c < columns.count → i < rows_at l c → {low high step width : ℕ}
      → low ≡ get_or l (columns.numbers * c) 0
      → high ≡ get_or l (columns.numbers * c + form.start_high) 0
      → step ≡ get_or l (columns.numbers * c + form.step) 0
      → width ≡ get_or l (columns.numbers * c + form.width) 0
      → Reads t (cell t l c i) i (low + high * form.word) step width
  unfolding tables
  reads c i k lt e0 e1 e2 e3 =
      numbers-read reference_columns (reference_column columns.count) tt o h t l number_at c i k (omega (arith, rows-at c k)) e0 e1 e2 e3

  -- The tables that are given only if they are read whole.
  module _ where
    entire-at : (i : ℕ) → get_or l i 0 ≡ get_or (layout_of o h (length t)) i 0
    entire-at i = ap (λ (x : List ℕ). get_or x i 0) laid.is

    pub constants-at : get_or l columns.constants 0 ≡ entire_by (sizes_in o h) h (length t) constant
    unfolding layout_of
    constants-at = entire-at columns.constants

    pub attributes-at : get_or l columns.attributes 0 ≡ entire_by (sizes_in o h) h (length t) custom_attribute
    unfolding layout_of
    attributes-at = entire-at columns.attributes

    pub module-refs-at : get_or l columns.module_refs 0 ≡ entire_by (sizes_in o h) h (length t) module_ref
    unfolding layout_of
    module-refs-at = entire-at columns.module_refs

    pub assembly-refs-at : get_or l columns.assembly_refs 0 ≡ entire_by (sizes_in o h) h (length t) assembly_ref
    unfolding layout_of
    assembly-refs-at = entire-at columns.assembly_refs
