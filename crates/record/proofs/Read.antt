-- What code that reads the tables on demand cites: a column of a row is a number of the stream, and a listed class or method has a row.
-- Assumes nothing.
use mathlib.Core.Path.{◌≡◌, refl, ap, ap₂, ◌∙◌}
use mathlib.Core.Bool.{Bool, true, false, cond, ◌&&◌}
use mathlib.Core.List.{List, [], ◌∷◌}
use mathlib.Core.Option.{Option, some}
use Prim.Native.Nat.{ℕ, zero, suc, ◌+◌, ◌-◌, ◌*◌, ◌≤◌, ◌<◌}
use native.Mathlib.Nat.{le_refl, le_of_suc-le-suc, not-suc-le-zero}
use native.Mathlib.Omega.{arith}
use borrow.Author.Tests.{lt-ltb, leb-true}
use lib.Dec.{eqb, leb, ltb}
use lib.ListN.{length, take, drop, get_or}
use lib.Seq.{get_or-take, get_or-drop, get_or-append_seam}
use Rattle.numbers.specs.Fixed.{le_at}
use Rattle.layouts.specs.Columns.{Column, Two, width_in, sum_of, row_size, columns_of}
use Rattle.layouts.specs.declared.IndexSizes.{IndexSizes}
use Rattle.record.specs.Columns.{column, nested, enclosing}
use Rattle.layouts.specs.Kinds.{type_def, method_def}
use Rattle.tables.specs.Extents.{Extent, kept_rows}
use Rattle.record.specs.Rows.{row_bytes, runs, of_key}
use Rattle.buffers.specs.Texts.{Text}
use Rattle.record.specs.Namespaces.{full_name, name_of, nest}
use Rattle.header.specs.declared.Options.{Options}
use Rattle.record.specs.View.{View, view, view_of, place, other_row}
use Rattle.header.specs.Stream.{opened}
use Rattle.record.specs.Names.{rows_in, classes, class_row, method_row}
use Rattle.record.specs.Methods.{takes, left_over}
use Rattle.record.proofs.Keyed.{cut}

-- A number of a row is a number of the stream.
pub number-in-row : (t : List ℕ) (p s n o : ℕ) → o + n ≤ s → le_at n (take s (drop p t)) o ≡ le_at n t (p + o)
unfolding le_at
number-in-row t p s zero o h = refl
number-in-row t p s (suc n) o h =
    let e : p + (o + 1) ≡ p + o + 1 = omega arith in
    ap₂ (λ a b. a + 256 * b) (get_or-take s (drop p t) o 0 (omega arith) ∙ get_or-drop p t o 0)
    (number-in-row t p s n (o + 1) (omega arith) ∙ ap (le_at n t) e)

-- A column ends within its row.
pub column-inside : (f : Column → ℕ) (cs : List Column) (j : ℕ) → j < length cs → sum_of f (take j cs) + f (get_or cs j Two) ≤ sum_of f cs
unfolding sum_of
column-inside f [] j h = absurd (not-suc-le-zero h)
column-inside f (x ∷ xs) zero h = omega arith
column-inside f (x ∷ xs) (suc j) h = let r = column-inside f xs j (le_of_suc-le-suc h) in omega arith

-- Column j of row i of a table of kind k.
pub column-at : (k j : ℕ) (w : IndexSizes) (e : Extent) (t : List ℕ) (i : ℕ) → e.size ≡ row_size (width_in w) k → j < length (columns_of k)
    → column k j w (row_bytes e t i)
    ≡ le_at (width_in w (get_or (columns_of k) j Two)) t (e.start + i * e.size + sum_of (width_in w) (take j (columns_of k)))
unfolding column row_size
column-at k j w e t i s h =
    let c = column-inside (width_in w) (columns_of k) j h in
    number-in-row t (e.start + i * e.size) e.size _ _ (omega arith)

-- The kept rows of a table that is no side table are there.
module _ (o : Options) (t strings blob : List ℕ) where
  abbrev v : View
  v = view o t strings blob

  pub class-row : (c : ℕ) → c < classes v → class_row v c ≡ some (row_bytes (place o (opened o t) t type_def) t (c + 1))
  unfolding classes view_of other_row
  class-row c h = rw (lt-ltb (c + 1) (kept_rows o (opened o t) (length t) type_def) (omega arith))

  pub method-row : (m : ℕ) → m < rows_in v method_def → method_row v m ≡ some (row_bytes (place o (opened o t) t method_def) t m)
  unfolding view_of other_row
  method-row m h = rw (lt-ltb m (kept_rows o (opened o t) (length t) method_def) h)

-- Classes take only methods that are there.
takes-le : (col left : ℕ) → takes col left ≤ left
unfolding takes
takes-le col left = go (eqb col 0) (leb (col - 1) left) refl
  where
    go : (a b : Bool) → leb (col - 1) left ≡ b → cond a left (cond b (col - 1) left) ≤ left
    go true b e = le_refl left
    go false true e = leb-true (col - 1) left e
    go false false e = le_refl left

pub left_le : (all : ℕ) (cols : List ℕ) → left_over all cols ≤ all
unfolding left_over
left_le all [] = le_refl all
left_le all (col ∷ later) = let a = takes-le col (left_over all later) in let b = left_le all later in omega arith

-- The namespaces are found by one pass back over the rows: the last row that nests c decides, and the pass goes on with the class around it.
pub nest_back : (w : IndexSizes) (strings : List ℕ) (row : ℕ → ℕ → Option (List ℕ)) (rows : ℕ → List ℕ) (n : ℕ) (s : ℕ → Option Text) (c : ℕ)
    → runs (nest w strings row) rows (suc n) s c
    ≡ cond (ltb 1 (nested w (rows n)) && (ltb 1 (enclosing w (rows n)) && eqb c (nested w (rows n))))
    (full_name (runs (nest w strings row) rows n s (enclosing w (rows n))) (name_of w strings row (enclosing w (rows n)))) (runs (nest w strings row) rows n s c)
nest_back w strings row rows n s c = refl

-- The value of row i, of key k, stands after those of the rows of that key before it.
pub of_key-at : {B : Type 0} (key : List ℕ → ℕ) (value : List ℕ → B) (row : ℕ → List ℕ) (k n i : ℕ) (d : B) → i < n → key (row i) ≡ k
    → get_or (of_key key value row n k) (length (of_key key value row i k)) d ≡ value (row i)
of_key-at key value row k n i d h e =
    let c = cut key value row k n i h e in
    ap (λ l. get_or l (length (of_key key value row i k)) d) c.1 ∙ get_or-append_seam (of_key key value row i k) (value (row i)) c.0 d
