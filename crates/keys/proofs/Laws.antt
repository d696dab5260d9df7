-- What rows of a key come to: the steps of the scans, and that the list of a key has as many items as rows of the key, each in its place.
-- Assumes nothing.
use mathlib.Core.Path.{◌≡◌, refl, sym, ap, ◌∙◌, subst}
use mathlib.Core.Bool.{Bool, true, false, cond}
use mathlib.Core.List.{List, [], ◌∷◌, ◌++◌}
use mathlib.Core.Option.{none, some}
use Prim.Native.Nat.{ℕ, zero, suc, ◌+◌, ◌≤◌, ◌<◌}
use native.Mathlib.Numerals.{add-one}
use native.Mathlib.Omega.{arith}
use borrow.Author.Tests.{eq-eqb, ne_eqb}
use lib.Dec.{eqb}
use lib.ListN.{length, get_elem?, length-append}
use Rattle.numbers.proofs.Lists.{item-seam, item-past}
use Rattle.heaps.specs.Lookups.{Name, name}
use Rattle.tables.specs.Extents.{sizes_in}
use Rattle.record.specs.Rows.{of_key}
use Rattle.record.specs.Columns.{column, generic_name, impl_interface}
use Rattle.record.specs.View.{ClassLayout, layout_in, view_of, side_row, side_rows}
use Rattle.record.proofs.Keyed.{cut}
use Rattle.layouts.specs.Read.{read_column}
use Rattle.rows.specs.Columns as columns
use Rattle.rows.specs.Layout.{options_in, header_in, rows_at, cell, Laid, view_in}
use Rattle.rows.specs.Held.{keyed}
use Rattle.rows.proofs.Laws.{rows-at}
use Rattle.keys.specs.Keyed.{Row, FoundIs}
use Rattle.std.specs.Prelude.{Some, None}

-- The turns of a scan: x is what was read of row i.
module _ (f : ℕ → ℕ) (k i : ℕ) {x seen : ℕ} (read : x ≡ f i) where
  pub key-met : x ≡ k → seen ≡ keyed f k i → seen + 1 ≡ keyed f k (i + 1)
  unfolding keyed
  key-met e s = rw (add-one i, eq-eqb (f i) k (sym read ∙ e)) (ap (λ (n : ℕ). n + 1) s)

  pub key-passed : (x ≡ k → ⊥) → seen ≡ keyed f k i → seen ≡ keyed f k (i + 1)
  unfolding keyed
  key-passed e s = rw (add-one i, ne_eqb (f i) k (λ q. e (read ∙ q))) s

-- Of no row none has the key, and of i rows at most i.
module _ (f : ℕ → ℕ) (k : ℕ) where
  pub keyed-none : 0 ≡ keyed f k 0
  unfolding keyed
  keyed-none = refl

  cond-at-most : (x : Bool) {m n : ℕ} → m ≤ n → cond x (m + 1) m ≤ suc n
  cond-at-most true h = omega arith
  cond-at-most false h = omega arith

  pub keyed-at-most : (i : ℕ) → keyed f k i ≤ i
  unfolding keyed
  keyed-at-most zero = omega arith
  keyed-at-most (suc i) = cond-at-most (eqb (f i) k) (keyed-at-most i)

  -- A scan over n rows that is at its end has seen all of the key.
  pub scan-over : {i n seen : ℕ} (rows : ℕ) → i ≤ n → n ≡ rows → n ≤ i → seen ≡ keyed f k i → seen ≡ keyed f k rows
  scan-over {i} rows a e b s = let end : i ≡ rows = omega arith in s ∙ ap (keyed f k) end

-- ---- The list of a key, of any table

module _ {B : Type 0} (key : List ℕ → ℕ) (value : List ℕ → B) (row : ℕ → List ℕ) (k : ℕ) where
  length_more : (x : Bool) (l : List B) (w : B) (n : ℕ) → length l ≡ n → length (cond x (l ++ w ∷ []) l) ≡ cond x (n + 1) n
  length_more true l w n e = rw e at (length-append l (w ∷ []))
  length_more false l w n e = e

  pub of_key-length : (n : ℕ) → length (of_key key value row n k) ≡ keyed (λ i. key (row i)) k n
  unfolding keyed
  of_key-length zero = refl
  of_key-length (suc n) = length_more (eqb (key (row n)) k) (of_key key value row n k) (value (row n)) _ (of_key-length n)

  pub of_key-item : (n nth i : ℕ) → i < n → key (row i) ≡ k → keyed (λ j. key (row j)) k i ≡ nth
      → get_elem? (of_key key value row n k) nth ≡ some (value (row i))
  of_key-item n nth i h e s =
      let c = cut key value row k n i h e in
      let at : nth ≡ length (of_key key value row i k) = sym (of_key-length i ∙ s) in
      rw (c.1, at) (item-seam (of_key key value row i k) (value (row i)) c.0)

  pub of_key-past : (n nth : ℕ) → keyed (λ j. key (row j)) k n ≤ nth → get_elem? (of_key key value row n k) nth ≡ none
  of_key-past n nth h = item-past (of_key key value row n k) nth (omega (arith, of_key-length n))

-- ---- The list of a key, of a table that is read by a layout

module _ {t l : List ℕ} (laid : Laid t l) where
  -- The key in column c of the table's rows, and the rows.
  abbrev key_of : ℕ → List ℕ → ℕ
  key_of c = column (read_column c).kind (read_column c).place (sizes_in (options_in l) (header_in t l))

  abbrev row_of : ℕ → ℕ → List ℕ
  row_of c = side_row (options_in l) (header_in t l) t (read_column c).kind

  -- By the key column c and the value of a row:
  module _ {B : Type 0} (c : ℕ) (known : c < columns.count) (value : List ℕ → B) (k : ℕ) where
    abbrev listed : List B
    listed = of_key (key_of c) value (row_of c) (side_rows (options_in l) (header_in t l) t (read_column c).kind) k

    listed-count : length listed ≡ keyed (cell t l c) k (rows_at l c)
    listed-count = rw (rows-at laid c known) (of_key-length (key_of c) value (row_of c) k _)

    listed-item : (nth i : ℕ) → FoundIs (cell t l c) k (rows_at l c) nth (Some i) → get_elem? listed nth ≡ some (value (row_of c i))
    listed-item nth i h =
        of_key-item (key_of c) value (row_of c) k (side_rows (options_in l) (header_in t l) t (read_column c).kind) nth i
        (rw (rows-at laid c known) at h.0) h.1 h.2

    listed-past : (nth : ℕ) → FoundIs (cell t l c) k (rows_at l c) nth None → get_elem? listed nth ≡ none
    listed-past nth h =
        of_key-past (key_of c) value (row_of c) k (side_rows (options_in l) (header_in t l) t (read_column c).kind) nth (rw (rows-at laid c known) at h)

-- ---- The names of an owner's generic parameters, by the view

module _ {t l : List ℕ} (laid : Laid t l) (strings blob : List ℕ) (k : ℕ) where
  abbrev names : List Name
  names = (view_in t l strings blob).generics k

  -- The name that a row of GenericParam gives.
  abbrev name_at : List ℕ → Name
  name_at r = name strings (generic_name (sizes_in (options_in l) (header_in t l)) r)

  -- What a search among the owners finds.
  abbrev Finds : ℕ → Row → Type 0
  Finds = FoundIs (cell t l columns.owner) k (rows_at l columns.owner)

  pub generics-count : length names ≡ keyed (cell t l columns.owner) k (rows_at l columns.owner)
  unfolding view_of
  generics-count = listed-count laid columns.owner (omega arith) name_at k

  pub generics-item : (nth i : ℕ) → Finds nth (Some i) → (i < rows_at l columns.generic_name) × (get_elem? names nth ≡ some (name strings (cell t l columns.generic_name i)))
  unfolding view_of
  generics-item nth i h =
      let a = rows-at laid columns.owner (omega arith) in
      let b = rows-at laid columns.generic_name (omega arith) in
      (omega arith, listed-item laid columns.owner (omega arith) name_at k nth i h)

  pub generics-past : (nth : ℕ) → Finds nth None → get_elem? names nth ≡ none
  unfolding view_of
  generics-past nth h = listed-past laid columns.owner (omega arith) name_at k nth h

  -- The same of an answer that was matched.
  pub generics-found : (nth i : ℕ) {r : Row} → Finds nth r → r ≡ Some i
      → (i < rows_at l columns.generic_name) × (get_elem? names nth ≡ some (name strings (cell t l columns.generic_name i)))
  generics-found nth i h e = generics-item nth i (subst (Finds nth) e h)

  pub generics-missed : (nth : ℕ) {r : Row} → Finds nth r → r ≡ None → get_elem? names nth ≡ none
  generics-missed nth h e = generics-past nth (subst (Finds nth) e h)

-- ---- The interfaces of a class, by the view

module _ {t l : List ℕ} (laid : Laid t l) (strings blob : List ℕ) (k : ℕ) where
  -- What a search among the classes finds.
  abbrev FindsClass : ℕ → Row → Type 0
  FindsClass = FoundIs (cell t l columns.impl_class) k (rows_at l columns.impl_class)

  abbrev interface_at : List ℕ → ℕ
  interface_at = impl_interface (sizes_in (options_in l) (header_in t l))

  pub interfaces-count : length ((view_in t l strings blob).interfaces k) ≡ keyed (cell t l columns.impl_class) k (rows_at l columns.impl_class)
  unfolding view_of
  interfaces-count = listed-count laid columns.impl_class (omega arith) interface_at k

  pub interfaces-found : (nth i : ℕ) {r : Row} → FindsClass nth r → r ≡ Some i
      → (i < rows_at l columns.impl_class) × (i < rows_at l columns.impl_interface)
      × (get_elem? ((view_in t l strings blob).interfaces k) nth ≡ some (cell t l columns.impl_interface i))
  unfolding view_of
  interfaces-found nth i h e =
      let found = subst (FindsClass nth) e h in
      let a = rows-at laid columns.impl_class (omega arith) in
      let b = rows-at laid columns.impl_interface (omega arith) in
      (found.0, omega (arith, found.0), listed-item laid columns.impl_class (omega arith) interface_at k nth i found)

  pub interfaces-missed : (nth : ℕ) {r : Row} → FindsClass nth r → r ≡ None → get_elem? ((view_in t l strings blob).interfaces k) nth ≡ none
  unfolding view_of
  interfaces-missed nth h e = listed-past laid columns.impl_class (omega arith) interface_at k nth (subst (FindsClass nth) e h)

  -- Behind the row that was found there is one more of the class.
  pub interfaces-passed : (nth i : ℕ) {r : Row} → FindsClass nth r → r ≡ Some i → nth + 1 ≡ keyed (cell t l columns.impl_class) k (i + 1)
  interfaces-passed nth i h e = let found = subst (FindsClass nth) e h in key-met _ k i refl found.1 (sym found.2)

-- ---- The first ClassLayout row of a class, by the view

module _ {t l : List ℕ} (laid : Laid t l) (strings blob : List ℕ) (k : ℕ) where
  -- What a search among the parents for the first row finds.
  abbrev FindsParent : Row → Type 0
  FindsParent = FoundIs (cell t l columns.layout_parent) k (rows_at l columns.layout_parent) 0

  abbrev layout_at : List ℕ → ClassLayout
  layout_at = layout_in (sizes_in (options_in l) (header_in t l))

  pub layout-found : (i : ℕ) → FindsParent (Some i)
      → (view_in t l strings blob).layout k ≡ some (record { packing = cell t l columns.packing_size i; size = cell t l columns.class_size i })
  unfolding view_of
  layout-found i h = listed-item laid columns.layout_parent (omega arith) layout_at k 0 i h

  pub layout-missed : FindsParent None → (view_in t l strings blob).layout k ≡ none
  unfolding view_of
  layout-missed h = listed-past laid columns.layout_parent (omega arith) layout_at k 0 h
