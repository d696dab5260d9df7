-- What the answer for the typelib is, by the layout: the rows behind coded indices, and the first row that qualifies. Assumes nothing.
use mathlib.Core.Path.{◌≡◌, refl, sym, ap, subst, ◌∙◌}
use mathlib.Core.Logic.{◌≢◌}
use mathlib.Core.Bool.{Bool, true, false, cond}
use mathlib.Core.List.{List, []}
use mathlib.Core.Option.{Option, none, some}
use Prim.Native.Nat.{ℕ, zero, suc, ◌+◌, ◌-◌, ◌/◌, ◌%◌, ◌<◌}
use native.Mathlib.Omega.{arith}
use borrow.Author.Tests.{eq-eqb, ne_eqb, ltb-true}
use denote.Ref.{Bor}
use lib.Dec.{eqb, ltb}
use lib.ListN.{length, get_or}
use Rattle.numbers.specs.Lists.{tabulate}
use Rattle.numbers.specs.Parts.{CutOf}
use Rattle.numbers.proofs.Parts.{cut-is}
use Rattle.buffers.specs.Texts.{q, same}
use Rattle.buffers.specs.Replies.{refused_by, name_or_5}
use Rattle.buffers.specs.declared.Refusal.TheVariants.{NoSuchRow, NoName}
use Rattle.buffers.specs.declared.Reason.{Reason}
use Rattle.buffers.specs.declared.Reason.TheVariants.{Untold}
use Rattle.heaps.specs.Lookups.{Part, string_at, string, blob as blob_at_index}
use Rattle.heaps.proofs.Lookups.{string-within, string-some, string-none}
use Rattle.layouts.specs.Kinds.{type_ref, member_ref, custom_attribute}
use Rattle.layouts.specs.Read.{reference_column}
use Rattle.tables.specs.Extents.{kept_rows}
use Rattle.record.specs.Missing.{over, and_then, or_default, first_there}
use Rattle.record.specs.View.{View, view_of, is_side, other_row}
use Rattle.record.specs.References.{assembly_tag, member_ref_tag, type_ref_tag, tagged, attribute_name, is_text, is_typelib, guid_text, typelib_in, typelib_of, references}
use Rattle.record.specs.Answers.{◌⟫◌, or_no_row, typelib}
use Rattle.references.specs.Columns as columns
use Rattle.references.specs.Layout.{options_in, header_in, rows_at, row_at, cell, Laid, view_in}
use Rattle.references.specs.Search.{tagged_row, row_says, FirstIs}
use Rattle.references.proofs.Laws.{rows-at, attributes-at}
use Rattle.references.proofs.Tables.{map-tabulate, entire-le, table-there, table-gone}
use Rattle.references.proofs.NameAnswers.{set_is}
use Rattle.std.specs.Prelude.{Some, None, Ok, Err}
use Rattle.keys.specs.Keyed.{Row}

-- ---- The name of the attribute

module _ (s : Bor (List ℕ)) (i : ℕ) {p : Part} (e : p ≡ string_at s.now i) where
  pub named-is : {start n : ℕ} {text : Bor (List ℕ)} {r : Bool} → p ≡ Ok (record { start = start; len = n }) → CutOf text s start n → r ≡ same (q "GuidAttribute") text.now
      → r ≡ is_text (q "GuidAttribute") (string s.now i)
  named-is {text = text} f c g =
      let there = sym f ∙ e in
      g ∙ rw (string-some s.now i there, ← (cut-is text s _ _ (string-within s.now i there) c).bytes) refl

  pub named-not : {why : Reason} → p ≡ Err why → false ≡ is_text (q "GuidAttribute") (string s.now i)
  named-not f = rw (string-none s.now i (sym f ∙ e)) refl

-- ---- The row that a coded index means

abbrev IsSome : {A : Type 0} → Option A → Type 0
IsSome none = ⊥
IsSome (some a) = Unit

some-none : {A : Type 0} {a : A} → some a ≡ none → ⊥
some-none e = subst IsSome e tt

tagged-below : (n tag i m : ℕ) → some m ≡ tagged_row n tag i → m < n
unfolding tagged_row
tagged-below n tag i m e = go (eqb (i % 8) tag) (eqb (i / 8) 0) (ltb (i / 8 - 1) n) refl e
  where
    go : (a b d : Bool) → ltb (i / 8 - 1) n ≡ d → some m ≡ cond a (cond b none (cond d (some (i / 8 - 1)) none)) none → m < n
    go true false true x y = let same : m ≡ i / 8 - 1 = ap (or_default 0) y in omega (arith, ltb-true (i / 8 - 1) n x)
    go true false false x y = absurd (some-none y)
    go true true d x y = absurd (some-none y)
    go false b d x y = absurd (some-none y)

module _ {t l : List ℕ} (laid : Laid t l) where
  pub attribute-row : (c : ℕ) → c < columns.count → (reference_column c).kind ≡ custom_attribute → (i : ℕ) → i < get_or l columns.attributes 0 → i < rows_at l c
  attribute-row c k e i h = omega (arith, attributes-at laid, entire-le t l [] [] custom_attribute refl, rw e at (rows-at laid c k))

  module _ (strings blob : List ℕ) where
    abbrev v : View
    v = view_in t l strings blob

    -- Of the table of column c, which is no side table.
    module _ (c : ℕ) (known : c < columns.count) (open-table : is_side (reference_column c).kind ≡ false) (tag i : ℕ) where
      tagged_is : tagged v tag (reference_column c).kind i ≡ over (row_at t l c) (tagged_row (rows_at l c) tag i)
      unfolding tagged tagged_row view_of other_row
      tagged_is =
          rw (open-table, rows-at laid c known)
          (go (eqb (i % 8) tag) (eqb (i / 8) 0) (ltb (i / 8 - 1) (kept_rows (options_in l) (header_in t l) (length t) (reference_column c).kind)))
        where
          go : (a b d : Bool) → cond a (cond b none (cond d (some (row_at t l c (i / 8 - 1))) none)) none
              ≡ over (row_at t l c) (cond a (cond b none (cond d (some (i / 8 - 1)) none)) none)
          go true false true = refl
          go true false false = refl
          go true true d = refl
          go false b d = refl

      module _ {r : Row} (says : row_says r ≡ tagged_row (rows_at l c) tag i) where
        pub tagged-row : {m : ℕ} → r ≡ Some m → m < rows_at l c
        tagged-row {m} e = tagged-below (rows_at l c) tag i m (rw e at says)

        pub tagged-there : {m : ℕ} → r ≡ Some m → tagged v tag (reference_column c).kind i ≡ some (row_at t l c m)
        tagged-there e = tagged_is ∙ rw (← says, e) refl

        pub tagged-gone : r ≡ None → tagged v tag (reference_column c).kind i ≡ none
        tagged-gone e = tagged_is ∙ rw (← says, e) refl

    -- The name of the type behind a CustomAttributeType index.
    module _ (i : ℕ) where
      pub name-there : (m r : ℕ) → tagged v member_ref_tag member_ref i ≡ some (row_at t l columns.member_class m)
          → tagged v type_ref_tag type_ref (cell t l columns.member_class m) ≡ some (row_at t l columns.ref_name r)
          → attribute_name v i ≡ string strings (cell t l columns.ref_name r)
      unfolding attribute_name view_of
      name-there m r e f = rw (e, f) refl

      pub name-no-type : (m : ℕ) → tagged v member_ref_tag member_ref i ≡ some (row_at t l columns.member_class m)
          → tagged v type_ref_tag type_ref (cell t l columns.member_class m) ≡ none → attribute_name v i ≡ none
      unfolding attribute_name view_of
      name-no-type m e f = rw (e, f) refl

      pub name-no-member : tagged v member_ref_tag member_ref i ≡ none → attribute_name v i ≡ none
      unfolding attribute_name
      name-no-member e = rw e refl

    -- Whether a row qualifies.
    module _ (i : ℕ) where
      pub not-assembly : cell t l columns.attribute_parent i % 32 ≢ assembly_tag → false ≡ is_typelib v (row_at t l columns.attribute_parent i)
      unfolding is_typelib view_of
      not-assembly h = rw (ne_eqb (cell t l columns.attribute_parent i % 32) assembly_tag h) refl

      pub by-type : cell t l columns.attribute_parent i % 32 ≡ assembly_tag
          → is_text (q "GuidAttribute") (attribute_name v (cell t l columns.attribute_type i)) ≡ is_typelib v (row_at t l columns.attribute_parent i)
      unfolding is_typelib view_of
      by-type h = rw (eq-eqb (cell t l columns.attribute_parent i % 32) assembly_tag h) refl

-- ---- The first row that qualifies

first_some : {A : Type 0} (g : ℕ → Option A) (from n i : ℕ) {a : A} → i < n → g (from + i) ≡ some a → ((j : ℕ) → j < i → g (from + j) ≡ none)
    → first_there (tabulate g from n) ≡ some a
unfolding tabulate
first_some g from zero i h e before = absurd (omega arith)
first_some g from (suc n) zero h e before =
    let z : from + 0 ≡ from = omega arith in
    rw (ap g (sym z) ∙ e) refl
first_some g from (suc n) (suc i) h e before =
    let z : from + 0 ≡ from = omega arith in
    let s : from + 1 + i ≡ from + suc i = omega arith in
    rw (ap g (sym z) ∙ before 0 (omega arith))
    (first_some g (from + 1) n i (omega arith) (ap g s ∙ e) (λ j k. let y : from + 1 + j ≡ from + suc j = omega arith in ap g y ∙ before (suc j) (omega arith)))

first-none : {A : Type 0} (g : ℕ → Option A) (from n : ℕ) → ((j : ℕ) → j < n → g (from + j) ≡ none) → first_there (tabulate g from n) ≡ none
unfolding tabulate
first-none g from zero before = refl
first-none g from (suc n) before =
    let z : from + 0 ≡ from = omega arith in
    rw (ap g (sym z) ∙ before 0 (omega arith))
    (first-none g (from + 1) n (λ j k. let y : from + 1 + j ≡ from + suc j = omega arith in ap g y ∙ before (suc j) (omega arith)))

module _ {t l : List ℕ} (laid : Laid t l) (strings blob : List ℕ) where
  abbrev w : View
  w = view_in t l strings blob

  abbrev n : ℕ
  n = get_or l columns.attributes 0

  abbrev row : ℕ → List ℕ
  row = row_at t l columns.attribute_parent

  abbrev qualifies : ℕ → Bool
  qualifies j = is_typelib (view_in t l strings []) (row j)

  pub typelib-gone : n ≡ 0 → typelib w ≡ refused_by NoSuchRow
  unfolding typelib references typelib_of view_of
  typelib-gone h =
      set_is laid strings blob (λ r. or_no_row r.typelib ⟫ name_or_5)
      ∙ rw (table-gone t l strings blob custom_attribute refl (attributes-at laid) h) refl

  first-is : n ≢ 0 → typelib w ≡ name_or_5 (or_default none (first_there (tabulate (λ j. typelib_in w (row j)) 0 n)))
  unfolding typelib references typelib_of view_of
  first-is h =
      set_is laid strings blob (λ r. or_no_row r.typelib ⟫ name_or_5)
      ∙ rw (table-there t l strings blob custom_attribute refl (attributes-at laid) h)
      (ap (λ x. name_or_5 (or_default none (first_there x))) (map-tabulate (typelib_in w) row 0 n))

  passed : (j : ℕ) → qualifies j ≡ false → typelib_in w (row j) ≡ none
  unfolding typelib_in is_typelib attribute_name tagged view_of
  passed j e = rw e refl

  met : (j : ℕ) → qualifies j ≡ true → typelib_in w (row j) ≡ some (and_then (blob_at_index blob (cell t l columns.attribute_value j)) guid_text)
  unfolding typelib_in is_typelib attribute_name tagged view_of
  met j e = rw e refl

  module _ {r : Row} (finds : FirstIs qualifies n r) where
    pub typelib-row : {i : ℕ} → r ≡ Some i → i < n
    typelib-row {i} e = (rw e at finds).0

    pub typelib-found : {i : ℕ} → r ≡ Some i → typelib w ≡ name_or_5 (and_then (blob_at_index blob (cell t l columns.attribute_value i)) guid_text)
    typelib-found {i} e =
        let f : FirstIs qualifies n (Some i) = rw e at finds in
        first-is (λ z. omega (arith, f.0))
        ∙ ap (λ x. name_or_5 (or_default none x))
        (first_some (λ j. typelib_in w (row j)) 0 n i {a = and_then (blob_at_index blob (cell t l columns.attribute_value i)) guid_text} f.0
        (let z : 0 + i ≡ i = omega arith in rw z (met i f.1))
        (λ j h. let z : 0 + j ≡ j = omega arith in rw z (passed j (f.2 j h))))

    pub typelib-none : n ≢ 0 → r ≡ None → typelib w ≡ refused_by (NoName Untold)
    typelib-none h e =
        let f : FirstIs qualifies n None = rw e at finds in
        first-is h
        ∙ ap (λ x. name_or_5 (or_default none x))
        (first-none (λ j. typelib_in w (row j)) 0 n (λ j k. let z : 0 + j ≡ j = omega arith in rw z (passed j (f j k))))
