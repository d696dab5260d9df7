-- What the answers for the module, the assembly and the references to others are, by the layout: rows that are there, and none. Assumes
-- nothing.
use mathlib.Core.Path.{◌≡◌, refl, sym, ap, ◌∙◌}
use mathlib.Core.Logic.{◌≢◌}
use mathlib.Core.List.{List, []}
use Prim.Native.Nat.{ℕ, zero, suc, ◌+◌, ◌≤◌, ◌<◌}
use native.Mathlib.Omega.{arith}
use lib.ListN.{length, get_or}
use Rattle.buffers.specs.Replies.{Answer, refused_by, value, name_or_5}
use Rattle.buffers.specs.declared.Refusal.TheVariants.{NoSuchRow}
use Rattle.heaps.specs.Lookups.{string, blob as blob_at_index}
use Rattle.layouts.specs.Kinds.{the_module, module_ref, assembly, assembly_ref}
use Rattle.layouts.specs.Read.{reference_column}
use Rattle.tables.specs.Extents.{kept_rows, sizes_in}
use Rattle.record.specs.Columns as by
use Rattle.record.specs.Missing.{and_then}
use Rattle.record.specs.Names.{string_of}
use Rattle.record.specs.View.{View, view_of}
use Rattle.record.specs.References.{References, version_parts, module_of, assembly_in, assembly_of, module_refs_of, not_empty, assembly_ref_in, assembly_refs_of, references}
use Rattle.record.specs.Answers.{◌⟫◌, or_no_row, item, the_references, the_assembly, the_assembly_ref, module_name, module_ref_count, module_ref_name, assembly_name, assembly_version, assembly_culture, assembly_ref_count, assembly_ref_name, assembly_ref_version, assembly_ref_key}
use Rattle.record.proofs.Reasons.{in-turn}
use Rattle.references.specs.Columns as columns
use Rattle.references.specs.Layout.{options_in, header_in, rows_at, row_at, cell, Laid, view_in}
use Rattle.references.proofs.Laws.{rows-at, module-refs-at, assembly-refs-at}
use Rattle.references.proofs.Tables.{item-at, item-past, row-there, row-gone, entire-le, each-there, each-count, each_item, each-gone, each-past}

module _ {t l : List ℕ} (laid : Laid t l) where
  -- The columns of a version stand one after the other.
  version-cell : (i p : ℕ) → p < version_parts → cell t l (columns.assembly_version + p) i ≡ by.assembly_version p (sizes_in (options_in l) (header_in t l)) (row_at t l columns.assembly_version i)
  version-cell i zero h = refl
  version-cell i (suc zero) h = refl
  version-cell i (suc (suc zero)) h = refl
  version-cell i (suc (suc (suc zero))) h = refl
  version-cell i (suc (suc (suc (suc p)))) h = absurd (omega arith)

  ref-version-cell : (i p : ℕ) → p < version_parts → cell t l (columns.assembly_ref_version + p) i ≡ by.assembly_ref_version p (sizes_in (options_in l) (header_in t l)) (row_at t l columns.assembly_ref_version i)
  ref-version-cell i zero h = refl
  ref-version-cell i (suc zero) h = refl
  ref-version-cell i (suc (suc zero)) h = refl
  ref-version-cell i (suc (suc (suc zero))) h = refl
  ref-version-cell i (suc (suc (suc (suc p)))) h = absurd (omega arith)

  version-kind : (p : ℕ) → p < version_parts → (reference_column (columns.assembly_version + p)).kind ≡ assembly
  version-kind zero h = refl
  version-kind (suc zero) h = refl
  version-kind (suc (suc zero)) h = refl
  version-kind (suc (suc (suc zero))) h = refl
  version-kind (suc (suc (suc (suc p)))) h = absurd (omega arith)

  ref-version-kind : (p : ℕ) → p < version_parts → (reference_column (columns.assembly_ref_version + p)).kind ≡ assembly_ref
  ref-version-kind zero h = refl
  ref-version-kind (suc zero) h = refl
  ref-version-kind (suc (suc zero)) h = refl
  ref-version-kind (suc (suc (suc zero))) h = refl
  ref-version-kind (suc (suc (suc (suc p)))) h = absurd (omega arith)

  rows_of : (c k : ℕ) → c < columns.count → (reference_column c).kind ≡ k → rows_at l c ≡ kept_rows (options_in l) (header_in t l) (length t) k
  rows_of c k h e = rows-at laid c h ∙ ap (kept_rows (options_in l) (header_in t l) (length t)) e

  -- The rows that the code reads are kept.
  pub version-row : (p : ℕ) → p < version_parts → rows_at l columns.assembly_version ≢ 0 → 0 < rows_at l (columns.assembly_version + p)
  version-row p h r =
      omega (
        arith,
        rows_of columns.assembly_version assembly (omega arith) refl,
        rows_of (columns.assembly_version + p) assembly (omega arith) (version-kind p h),
      )

  pub module-ref-row : (i : ℕ) → i < get_or l columns.module_refs 0 → i < rows_at l columns.module_ref_name
  module-ref-row i h = omega (arith, module-refs-at laid, entire-le t l [] [] module_ref refl, rows-at laid columns.module_ref_name (omega arith))

  pub assembly-ref-row : (c : ℕ) → c < columns.count → (reference_column c).kind ≡ assembly_ref → (i : ℕ) → i < get_or l columns.assembly_refs 0 → i < rows_at l c
  assembly-ref-row c k e i h = omega (arith, assembly-refs-at laid, entire-le t l [] [] assembly_ref refl, rows_of c assembly_ref k e)

  pub ref-version-row : (p : ℕ) → p < version_parts → (i : ℕ) → i < get_or l columns.assembly_refs 0 → i < rows_at l (columns.assembly_ref_version + p)
  ref-version-row p h = assembly-ref-row (columns.assembly_ref_version + p) (omega arith) (ref-version-kind p h)

  module _ (strings blob : List ℕ) where
    abbrev v : View
    v = view_in t l strings blob

    -- Opening did not refuse the stream.
    pub set_is : {A : Type 0} (f : References → Answer A) → (the_references v ⟫ f) ≡ f (references v)
    unfolding view_of
    set_is f = rw laid.ready refl

    -- ---- The module

    pub module-name-is : rows_at l columns.module_name ≢ 0 → module_name v ≡ name_or_5 (string strings (cell t l columns.module_name 0))
    unfolding module_name references module_of view_of
    module-name-is h =
        set_is (λ r. or_no_row r.module_name ⟫ name_or_5)
        ∙ rw (row-there t l strings blob the_module refl 0 (omega (arith, rows-at laid columns.module_name (omega arith)))) refl

    pub module-name-gone : rows_at l columns.module_name ≡ 0 → module_name v ≡ refused_by NoSuchRow
    unfolding module_name references module_of view_of
    module-name-gone h =
        set_is (λ r. or_no_row r.module_name ⟫ name_or_5)
        ∙ rw (row-gone t l strings blob the_module refl 0 (omega (arith, rows-at laid columns.module_name (omega arith)))) refl

    -- ---- Module references

    pub module-refs-are : {n : ℕ} → n ≡ get_or l columns.module_refs 0 → n ≢ 0 → module_ref_count v ≡ value n
    unfolding module_ref_count references module_refs_of view_of
    module-refs-are e h =
        ap (λ a. a ⟫ (λ x. value (length x))) (set_is (λ r. or_no_row r.module_refs))
        ∙ each-count t l strings blob module_ref refl (e ∙ module-refs-at laid) (string_of v by.module_ref_name) h

    pub module-refs-gone : {n : ℕ} → n ≡ get_or l columns.module_refs 0 → n ≡ 0 → module_ref_count v ≡ refused_by NoSuchRow
    unfolding module_ref_count references module_refs_of view_of
    module-refs-gone e h =
        ap (λ a. a ⟫ (λ x. value (length x))) (set_is (λ r. or_no_row r.module_refs))
        ∙ each-gone t l strings blob module_ref refl (e ∙ module-refs-at laid) (string_of v by.module_ref_name) (λ x. value (length x)) h

    pub module-ref-is : (i : ℕ) → i < get_or l columns.module_refs 0 → module_ref_name v i ≡ name_or_5 (string strings (cell t l columns.module_ref_name i))
    unfolding module_ref_name references module_refs_of view_of
    module-ref-is i h =
        ap (λ a. a ⟫ (λ x. item x i ⟫ name_or_5)) (set_is (λ r. or_no_row r.module_refs))
        ∙ rw (each-there t l strings blob module_ref refl (module-refs-at laid) (string_of v by.module_ref_name) (λ z. omega arith))
        (ap (λ a. a ⟫ name_or_5) (item-at (λ j. string_of v by.module_ref_name (row_at t l columns.module_ref_name j)) i h))

    pub module-ref-past : (i : ℕ) → get_or l columns.module_refs 0 ≤ i → module_ref_name v i ≡ refused_by NoSuchRow
    unfolding module_ref_name references module_refs_of view_of
    module-ref-past i h =
        ap (λ a. a ⟫ (λ x. item x i ⟫ name_or_5)) (set_is (λ r. or_no_row r.module_refs))
        ∙ sym (in-turn (or_no_row (module_refs_of v)) (λ x. item x i) name_or_5)
        ∙ ap (λ a. a ⟫ name_or_5) (each-past t l strings blob module_ref refl (module-refs-at laid) (string_of v by.module_ref_name) i h)

    -- ---- The assembly

    -- By the rows that a column of it has.
    module _ (c : ℕ) (known : c < columns.count) (of-it : (reference_column c).kind ≡ assembly) where
      the-assembly : rows_at l c ≢ 0 → the_assembly v ≡ value (assembly_in v (row_at t l columns.assembly_version 0))
      unfolding references assembly_of view_of
      the-assembly h =
          set_is (λ r. or_no_row r.assembly)
          ∙ rw (row-there t l strings blob assembly refl 0 (omega (arith, rows_of c assembly known of-it))) refl

      no-assembly : rows_at l c ≡ 0 → the_assembly v ≡ refused_by NoSuchRow
      unfolding references assembly_of view_of
      no-assembly h =
          set_is (λ r. or_no_row r.assembly)
          ∙ rw (row-gone t l strings blob assembly refl 0 (omega (arith, rows_of c assembly known of-it))) refl

    pub assembly-name-is : rows_at l columns.assembly_name ≢ 0 → assembly_name v ≡ name_or_5 (string strings (cell t l columns.assembly_name 0))
    unfolding assembly_name assembly_in view_of
    assembly-name-is h = ap (λ a. a ⟫ (λ x. name_or_5 x.name)) (the-assembly columns.assembly_name (omega arith) refl h)

    pub assembly-name-gone : rows_at l columns.assembly_name ≡ 0 → assembly_name v ≡ refused_by NoSuchRow
    unfolding assembly_name
    assembly-name-gone h = ap (λ a. a ⟫ (λ x. name_or_5 x.name)) (no-assembly columns.assembly_name (omega arith) refl h)

    pub assembly-culture-is : rows_at l columns.assembly_culture ≢ 0 → assembly_culture v ≡ name_or_5 (string strings (cell t l columns.assembly_culture 0))
    unfolding assembly_culture assembly_in view_of
    assembly-culture-is h = ap (λ a. a ⟫ (λ x. name_or_5 x.culture)) (the-assembly columns.assembly_culture (omega arith) refl h)

    pub assembly-culture-gone : rows_at l columns.assembly_culture ≡ 0 → assembly_culture v ≡ refused_by NoSuchRow
    unfolding assembly_culture
    assembly-culture-gone h = ap (λ a. a ⟫ (λ x. name_or_5 x.culture)) (no-assembly columns.assembly_culture (omega arith) refl h)

    pub assembly-version-is : (p : ℕ) → p < version_parts → rows_at l columns.assembly_version ≢ 0 → assembly_version v p ≡ value (cell t l (columns.assembly_version + p) 0)
    unfolding assembly_version assembly_in view_of
    assembly-version-is p h r =
        ap (λ a. a ⟫ (λ x. item x.version p)) (the-assembly columns.assembly_version (omega arith) refl r)
        ∙ item-at (λ q. by.assembly_version q (sizes_in (options_in l) (header_in t l)) (row_at t l columns.assembly_version 0)) p h
        ∙ ap value (sym (version-cell 0 p h))

    pub assembly-version-past : (p : ℕ) → version_parts ≤ p → rows_at l columns.assembly_version ≢ 0 → assembly_version v p ≡ refused_by NoSuchRow
    unfolding assembly_version assembly_in view_of
    assembly-version-past p h r =
        ap (λ a. a ⟫ (λ x. item x.version p)) (the-assembly columns.assembly_version (omega arith) refl r)
        ∙ item-past (λ q. by.assembly_version q (sizes_in (options_in l) (header_in t l)) (row_at t l columns.assembly_version 0)) p h

    pub assembly-version-gone : (p : ℕ) → rows_at l columns.assembly_version ≡ 0 → assembly_version v p ≡ refused_by NoSuchRow
    unfolding assembly_version
    assembly-version-gone p r = ap (λ a. a ⟫ (λ x. item x.version p)) (no-assembly columns.assembly_version (omega arith) refl r)

    -- ---- Assembly references

    pub assembly-refs-are : {n : ℕ} → n ≡ get_or l columns.assembly_refs 0 → n ≢ 0 → assembly_ref_count v ≡ value n
    unfolding assembly_ref_count references assembly_refs_of view_of
    assembly-refs-are e h =
        ap (λ a. a ⟫ (λ x. value (length x))) (set_is (λ r. or_no_row r.assembly_refs))
        ∙ each-count t l strings blob assembly_ref refl (e ∙ assembly-refs-at laid) (assembly_ref_in v) h

    pub assembly-refs-gone : {n : ℕ} → n ≡ get_or l columns.assembly_refs 0 → n ≡ 0 → assembly_ref_count v ≡ refused_by NoSuchRow
    unfolding assembly_ref_count references assembly_refs_of view_of
    assembly-refs-gone e h =
        ap (λ a. a ⟫ (λ x. value (length x))) (set_is (λ r. or_no_row r.assembly_refs))
        ∙ each-gone t l strings blob assembly_ref refl (e ∙ assembly-refs-at laid) (assembly_ref_in v) (λ x. value (length x)) h

    module _ (i : ℕ) where
      the-ref : i < get_or l columns.assembly_refs 0 → the_assembly_ref v i ≡ value (assembly_ref_in v (row_at t l columns.assembly_ref_version i))
      unfolding references assembly_refs_of view_of
      the-ref h = ap (λ a. a ⟫ (λ x. item x i)) (set_is (λ r. or_no_row r.assembly_refs)) ∙ each_item t l strings blob assembly_ref refl (assembly-refs-at laid) (assembly_ref_in v) i h

      no_ref : get_or l columns.assembly_refs 0 ≤ i → the_assembly_ref v i ≡ refused_by NoSuchRow
      unfolding references assembly_refs_of view_of
      no_ref h = ap (λ a. a ⟫ (λ x. item x i)) (set_is (λ r. or_no_row r.assembly_refs)) ∙ each-past t l strings blob assembly_ref refl (assembly-refs-at laid) (assembly_ref_in v) i h

      pub ref-name-is : i < get_or l columns.assembly_refs 0 → assembly_ref_name v i ≡ name_or_5 (string strings (cell t l columns.assembly_ref_name i))
      unfolding assembly_ref_name assembly_ref_in view_of
      ref-name-is h = ap (λ a. a ⟫ (λ x. name_or_5 x.name)) (the-ref h)

      pub ref-name-past : get_or l columns.assembly_refs 0 ≤ i → assembly_ref_name v i ≡ refused_by NoSuchRow
      unfolding assembly_ref_name
      ref-name-past h = ap (λ a. a ⟫ (λ x. name_or_5 x.name)) (no_ref h)

      pub ref-key-is : i < get_or l columns.assembly_refs 0 → assembly_ref_key v i ≡ name_or_5 (and_then (blob_at_index blob (cell t l columns.assembly_ref_key i)) not_empty)
      unfolding assembly_ref_key assembly_ref_in view_of
      ref-key-is h = ap (λ a. a ⟫ (λ x. name_or_5 x.key)) (the-ref h)

      pub ref-key-past : get_or l columns.assembly_refs 0 ≤ i → assembly_ref_key v i ≡ refused_by NoSuchRow
      unfolding assembly_ref_key
      ref-key-past h = ap (λ a. a ⟫ (λ x. name_or_5 x.key)) (no_ref h)

      pub ref-version-is : (p : ℕ) → p < version_parts → i < get_or l columns.assembly_refs 0 → assembly_ref_version v i p ≡ value (cell t l (columns.assembly_ref_version + p) i)
      unfolding assembly_ref_version assembly_ref_in view_of
      ref-version-is p h r =
          ap (λ a. a ⟫ (λ x. item x.version p)) (the-ref r)
          ∙ item-at (λ q. by.assembly_ref_version q (sizes_in (options_in l) (header_in t l)) (row_at t l columns.assembly_ref_version i)) p h
          ∙ ap value (sym (ref-version-cell i p h))

      pub ref-version-past : (p : ℕ) → version_parts ≤ p → i < get_or l columns.assembly_refs 0 → assembly_ref_version v i p ≡ refused_by NoSuchRow
      unfolding assembly_ref_version assembly_ref_in view_of
      ref-version-past p h r =
          ap (λ a. a ⟫ (λ x. item x.version p)) (the-ref r)
          ∙ item-past (λ q. by.assembly_ref_version q (sizes_in (options_in l) (header_in t l)) (row_at t l columns.assembly_ref_version i)) p h

      pub ref-version-gone : (p : ℕ) → get_or l columns.assembly_refs 0 ≤ i → assembly_ref_version v i p ≡ refused_by NoSuchRow
      unfolding assembly_ref_version
      ref-version-gone p r = ap (λ a. a ⟫ (λ x. item x.version p)) (no_ref r)
