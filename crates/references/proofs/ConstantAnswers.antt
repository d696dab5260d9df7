-- What the answers for string constants are, by the layout: those of the rows whose type is that of a string. Assumes nothing.
use mathlib.Core.Path.{◌≡◌, refl, sym, ap, ◌∙◌}
use mathlib.Core.Logic.{◌≢◌}
use mathlib.Core.Bool.{Bool, true, false, cond}
use mathlib.Core.List.{List, [], ◌∷◌, ◌++◌, map, append-nil, map-append}
use mathlib.Core.Option.{Option, none, some}
use Prim.Native.Nat.{ℕ, zero, suc, ◌+◌, ◌<◌}
use native.Mathlib.Omega.{arith}
use borrow.Author.Tests.{eq-eqb, ne_eqb}
use lib.Dec.{eqb}
use lib.ListN.{length, get_or}
use Rattle.numbers.specs.Lists.{tabulate}
use Rattle.buffers.specs.Texts.{Text}
use Rattle.buffers.specs.Replies.{refused_by, value, name_or_5}
use Rattle.buffers.specs.declared.Refusal.TheVariants.{NoSuchRow}
use Rattle.heaps.specs.Lookups.{blob as blob_at_index}
use Rattle.keys.specs.Keyed.{Row, FoundIs}
use Rattle.keys.proofs.Laws.{of_key-length, of_key-item, of_key-past}
use Rattle.layouts.specs.Kinds.{constant}
use Rattle.layouts.specs.Read.{reference_column}
use Rattle.tables.specs.Extents.{sizes_in}
use Rattle.record.specs.Columns as by
use Rattle.record.specs.Missing.{over, present}
use Rattle.record.specs.Rows.{of_key}
use Rattle.record.specs.View.{View, view_of}
use Rattle.record.specs.References.{string_type, constant_text, constant_in, constants_of, references}
use Rattle.record.specs.Answers.{◌⟫◌, or_no_row, item, the_constants, constant_count, constant_value}
use Rattle.rows.specs.Held.{keyed}
use Rattle.references.specs.Columns as columns
use Rattle.references.specs.Layout.{options_in, header_in, rows_at, row_at, cell, Laid, view_in}
use Rattle.references.proofs.Laws.{rows-at, constants-at}
use Rattle.references.proofs.Tables.{entire-le, table-there, table-gone}
use Rattle.references.proofs.NameAnswers.{set_is}
use Rattle.std.specs.Prelude.{Some, None}

-- ---- Rows of a kind, among all rows

tabulate-more : {A : Type 0} (f : ℕ → A) (i n : ℕ) → tabulate f i (suc n) ≡ tabulate f i n ++ f (i + n) ∷ []
unfolding tabulate
tabulate-more f i zero = let z : i + 0 ≡ i = omega arith in rw z refl
tabulate-more f i (suc n) =
    let z : i + 1 + n ≡ i + suc n = omega arith in
    ap (λ l. f i ∷ l) (tabulate-more f (i + 1) n ∙ ap (λ j. tabulate f (i + 1) n ++ f j ∷ []) z)

present-append : {A : Type 0} (x y : List (Option A)) → present (x ++ y) ≡ present x ++ present y
present-append [] y = refl
present-append (none ∷ x) y = present-append x y
present-append (some a ∷ x) y = ap (λ l. a ∷ l) (present-append x y)

-- The values that rows of a key give, as `of_key` has them.
module _ {B : Type 0} (key : List ℕ → ℕ) (given : List ℕ → B) (row : ℕ → List ℕ) (k : ℕ) where
  abbrev says : List ℕ → Option B
  says r = cond (eqb (key r) k) (some (given r)) none

  pub present-keyed : (n : ℕ) → present (map says (tabulate row 0 n)) ≡ of_key key given row n k
  unfolding tabulate
  present-keyed zero = refl
  present-keyed (suc n) =
      let z : 0 + n ≡ n = omega arith in
      ap (λ l. present (map says l)) (tabulate-more row 0 n)
      ∙ ap present (map-append says (tabulate row 0 n) (row (0 + n) ∷ []))
      ∙ present-append (map says (tabulate row 0 n)) (says (row (0 + n)) ∷ [])
      ∙ rw (present-keyed n, z) (go (eqb (key (row n)) k))
    where
      go : (b : Bool) → of_key key given row n k ++ present (cond b (some (given (row n))) none ∷ []) ≡ cond b (of_key key given row n k ++ given (row n) ∷ []) (of_key key given row n k)
      go true = refl
      go false = append-nil (of_key key given row n k)

-- ---- The string constants

module _ {t l : List ℕ} (laid : Laid t l) where
  pub constant-row : (c : ℕ) → c < columns.count → (reference_column c).kind ≡ constant → (i : ℕ) → i < get_or l columns.constants 0 → i < rows_at l c
  constant-row c k e i h = omega (arith, constants-at laid, entire-le t l [] [] constant refl, rw e at (rows-at laid c k))

  module _ (strings blob : List ℕ) where
    abbrev v : View
    v = view_in t l strings blob

    abbrev n : ℕ
    n = get_or l columns.constants 0

    abbrev row : ℕ → List ℕ
    row = row_at t l columns.constant_type

    abbrev found : List (Option Text)
    found = of_key (by.constant_type (sizes_in (options_in l) (header_in t l))) (constant_text v) row n string_type

    constants-there : n ≢ 0 → the_constants v ≡ value found
    unfolding references constants_of constant_in view_of
    constants-there h =
        set_is laid strings blob (λ r. or_no_row r.constants)
        ∙ ap (λ o. or_no_row (over (λ rows. present (map (constant_in v) rows)) o)) (table-there t l strings blob constant refl (constants-at laid) h)
        ∙ ap value (present-keyed (by.constant_type (sizes_in (options_in l) (header_in t l))) (constant_text v) row string_type n)

    no-constants : n ≡ 0 → the_constants v ≡ refused_by NoSuchRow
    unfolding references constants_of view_of
    no-constants h =
        set_is laid strings blob (λ r. or_no_row r.constants)
        ∙ ap (λ o. or_no_row (over (λ rows. present (map (constant_in v) rows)) o)) (table-gone t l strings blob constant refl (constants-at laid) h)

    pub constants-are : n ≢ 0 → constant_count v ≡ value (keyed (cell t l columns.constant_type) string_type n)
    unfolding constant_count
    constants-are h =
        ap (λ a. a ⟫ (λ x. value (length x))) (constants-there h)
        ∙ ap value (of_key-length (by.constant_type (sizes_in (options_in l) (header_in t l))) (constant_text v) row string_type n)

    pub constants-gone : n ≡ 0 → constant_count v ≡ refused_by NoSuchRow
    unfolding constant_count
    constants-gone h = ap (λ a. a ⟫ (λ x. value (length x))) (no-constants h)

    -- What a search for one of them finds.
    abbrev Finds : ℕ → Row → Type 0
    Finds = FoundIs (cell t l columns.constant_type) string_type n

    module _ (nth i : ℕ) {r : Row} (finds : Finds nth r) (e : r ≡ Some i) where
      at_row : Finds nth (Some i)
      at_row = rw e at finds

      pub found-row : i < n
      found-row = at_row.0

      the-constant : constant_value v nth ≡ name_or_5 (constant_text v (row i))
      unfolding constant_value
      the-constant =
          ap (λ a. a ⟫ (λ x. item x nth ⟫ name_or_5)) (constants-there (λ z. omega (arith, found-row)))
          ∙ ap (λ o. or_no_row o ⟫ name_or_5)
          (of_key-item (by.constant_type (sizes_in (options_in l) (header_in t l))) (constant_text v) row string_type n nth i at_row.0 at_row.1 at_row.2)

      pub constant-empty : cell t l columns.constant_value i ≡ 0 → constant_value v nth ≡ value []
      unfolding constant_text view_of
      constant-empty z = the-constant ∙ rw (eq-eqb (cell t l columns.constant_value i) 0 z) refl

      pub constant-blob : cell t l columns.constant_value i ≢ 0 → constant_value v nth ≡ name_or_5 (blob_at_index blob (cell t l columns.constant_value i))
      unfolding constant_text view_of
      constant-blob z = the-constant ∙ rw (ne_eqb (cell t l columns.constant_value i) 0 z) refl

    pub constant-past : (nth : ℕ) {r : Row} → Finds nth r → r ≡ None → constant_value v nth ≡ refused_by NoSuchRow
    unfolding constant_value
    constant-past nth finds e = go n refl
      where
        go : (m : ℕ) → m ≡ n → constant_value v nth ≡ refused_by NoSuchRow
        go zero z = ap (λ a. a ⟫ (λ x. item x nth ⟫ name_or_5)) (no-constants (sym z))
        go (suc m) z =
            ap (λ a. a ⟫ (λ x. item x nth ⟫ name_or_5)) (constants-there (λ q. omega arith))
            ∙ ap (λ o. or_no_row o ⟫ name_or_5)
            (of_key-past (by.constant_type (sizes_in (options_in l) (header_in t l))) (constant_text v) row string_type n nth (rw e at finds))
