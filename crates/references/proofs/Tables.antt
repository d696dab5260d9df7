-- Tables as the view has them, by the layout: a row that is kept, and the rows of a table that is read whole. Assumes nothing.
use mathlib.Core.Path.{◌≡◌, refl, sym, ap, ◌∙◌}
use mathlib.Core.Logic.{◌≢◌}
use mathlib.Core.Bool.{Bool, true, false, cond}
use mathlib.Core.List.{List, ◌∷◌, map}
use mathlib.Core.Option.{Option, none, some}
use Prim.Native.Nat.{ℕ, zero, suc, ◌+◌, ◌≤◌, ◌<◌}
use native.Mathlib.Nat.{le_refl}
use native.Mathlib.Omega.{arith}
use borrow.Author.Tests.{lt-ltb, le-ltb, eq-eqb, ne_eqb}
use lib.Dec.{eqb}
use lib.ListN.{length}
use Rattle.numbers.specs.Lists.{tabulate}
use Rattle.numbers.proofs.Lists.{tabulate-item, tabulate-past, tabulate-length}
use Rattle.buffers.specs.Replies.{Answer, refused_by, value}
use Rattle.buffers.specs.declared.Refusal.TheVariants.{NoSuchRow}
use Rattle.tables.specs.Extents.{kept_rows, sizes_in}
use Rattle.record.specs.Missing.{over, present}
use Rattle.record.specs.Rows.{row_bytes, count}
use Rattle.record.specs.View.{View, view_of, is_side, place, other_row}
use Rattle.record.specs.References.{entire_rows, entire_table}
use Rattle.record.specs.Answers.{◌⟫◌, or_no_row, item}
use Rattle.references.specs.Layout.{entire_by, options_in, header_in, view_in}

-- ---- Lists

pub map-tabulate : {A B : Type 0} (f : A → B) (g : ℕ → A) (i n : ℕ) → map f (tabulate g i n) ≡ tabulate (λ j. f (g j)) i n
unfolding tabulate
map-tabulate f g i zero = refl
map-tabulate f g i (suc n) = ap (λ l. f (g i) ∷ l) (map-tabulate f g (i + 1) n)

present-all : {A : Type 0} (f : ℕ → Option A) (g : ℕ → A) (i n : ℕ) → ((j : ℕ) → i ≤ j → j < i + n → f j ≡ some (g j))
    → present (tabulate f i n) ≡ tabulate g i n
unfolding tabulate
present-all f g i zero h = refl
present-all f g i (suc n) h =
    rw (h i (omega arith) (omega arith)) (ap (λ l. g i ∷ l) (present-all f g (i + 1) n (λ j a b. h j (omega arith) (omega arith))))

-- What stands at a place of a list that is given by a rule, and how long it is.
module _ {A : Type 0} (g : ℕ → A) {n : ℕ} (i : ℕ) where
  pub item-at : i < n → item (tabulate g 0 n) i ≡ value (g i)
  item-at h =
      let z : 0 + i ≡ i = omega arith in
      ap or_no_row (tabulate-item g 0 n i h) ∙ ap (λ j. value (g j)) z

  pub item-past : n ≤ i → item (tabulate g 0 n) i ≡ refused_by NoSuchRow
  item-past h = ap or_no_row (tabulate-past g 0 n i h)

-- ---- Tables

-- Of a stream with this layout, and of a table that is no side table:
module _ (t l strings blob : List ℕ) (k : ℕ) (open-table : is_side k ≡ false) where
  abbrev v : View
  v = view_in t l strings blob

  abbrev kept : ℕ
  kept = kept_rows (options_in l) (header_in t l) (length t) k

  abbrev row : ℕ → List ℕ
  row i = row_bytes (place (options_in l) (header_in t l) t k) t i

  pub row-there : (i : ℕ) → i < kept → v.row k i ≡ some (row i)
  unfolding view_of other_row
  row-there i h = rw (open-table, lt-ltb i kept h)

  pub row-gone : (i : ℕ) → kept ≤ i → v.row k i ≡ none
  unfolding view_of other_row
  row-gone i h = rw (open-table, le-ltb i kept h)

  pub entire-le : entire_by (sizes_in (options_in l) (header_in t l)) (header_in t l) (length t) k ≤ kept
  unfolding entire_by
  entire-le = go (eqb kept (count (header_in t l) k))
    where
      go : (b : Bool) → cond b kept 0 ≤ kept
      go true = le_refl kept
      go false = omega arith

  -- So many rows, as the layout has it.
  module _ {n : ℕ} (e : n ≡ entire_by (sizes_in (options_in l) (header_in t l)) (header_in t l) (length t) k) where
    pub table-there : n ≢ 0 → entire_table v k ≡ some (tabulate row 0 n)
    unfolding entire_table entire_rows entire_by view_of
    table-there h =
        rw (← e, ne_eqb n 0 h)
        (ap some (present-all (v.row k) row 0 n (λ j a b. row-there j (omega (arith, entire-le)))))

    pub table-gone : n ≡ 0 → entire_table v k ≡ none
    unfolding entire_table entire_rows entire_by view_of
    table-gone h = rw (← e, eq-eqb n 0 h)

    -- What each of its rows says.
    module _ {A : Type 0} (f : List ℕ → A) where
      pub each-there : n ≢ 0 → over (map f) (entire_table v k) ≡ some (tabulate (λ j. f (row j)) 0 n)
      each-there h = ap (over (map f)) (table-there h) ∙ ap some (map-tabulate f row 0 n)

      pub each-count : n ≢ 0 → (or_no_row (over (map f) (entire_table v k)) ⟫ (λ x. value (length x))) ≡ value n
      each-count h = rw (each-there h) (ap value (tabulate-length (λ j. f (row j)) 0 n))

      pub each_item : (i : ℕ) → i < n → (or_no_row (over (map f) (entire_table v k)) ⟫ (λ x. item x i)) ≡ value (f (row i))
      each_item i h = rw (each-there (λ z. omega arith)) (item-at (λ j. f (row j)) i h)

      pub each-gone : {B : Type 0} (g : List A → Answer B) → n ≡ 0 → (or_no_row (over (map f) (entire_table v k)) ⟫ g) ≡ refused_by NoSuchRow
      each-gone g h = rw (table-gone h) refl

      pub each-past : (i : ℕ) → n ≤ i → (or_no_row (over (map f) (entire_table v k)) ⟫ (λ x. item x i)) ≡ refused_by NoSuchRow
      each-past i h = go n refl
        where
          go : (m : ℕ) → m ≡ n → (or_no_row (over (map f) (entire_table v k)) ⟫ (λ x. item x i)) ≡ refused_by NoSuchRow
          go zero z = each-gone (λ x. item x i) (sym z)
          go (suc m) z = rw (each-there (λ q. omega arith)) (item-past (λ j. f (row j)) i h)
