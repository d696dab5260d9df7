-- The signature of a TypeSpec row, from 1: the ways through its lookup, and what is known of an answer that was matched. Assumes nothing.
use mathlib.Core.Path.{◌≡◌, sym, ap, subst, ◌∙◌}
use mathlib.Core.List.{List}
use mathlib.Core.Option.{Option, none, some}
use Prim.Native.Nat.{ℕ, ◌+◌, ◌-◌, ◌≤◌, ◌<◌}
use native.Mathlib.Omega.{arith}
use borrow.Author.Tests.{eq-eqb, ne_eqb, lt-ltb, le-ltb}
use lib.ListN.{length}
use Rattle.numbers.specs.Parts.{part}
use Rattle.heaps.specs.Lookups.{Part, blob_at, blob}
use Rattle.buffers.specs.declared.Reason.{Reason}
use Rattle.heaps.proofs.Lookups.{blob-within}
use Rattle.layouts.specs.Kinds.{type_spec}
use Rattle.tables.specs.Extents.{kept_rows}
use Rattle.record.specs.View.{view_of, other_row}
use Rattle.record.specs.Names.{spec_blob}
use Rattle.rows.specs.Columns as columns
use Rattle.rows.specs.Layout.{options_in, header_in, rows_at, cell, Laid, view_in}
use Rattle.rows.proofs.Laws.{rows-at}
use Rattle.sig_leaves.specs.Leaves.{Blob, blob_bytes, BlobInside, BlobIs}
use Rattle.std.specs.Result.{result_ok}
use Rattle.std.specs.Prelude.{Some, None, Ok, Err}

-- The bytes of a blob that was looked up.
pub blob-some : (s : List ℕ) (i : ℕ) {start n : ℕ} → Ok (record { start = start; len = n }) ≡ blob_at s i → blob s i ≡ some (part s start n)
unfolding blob
blob-some s i e = rw (← e)

pub blob-absent : (s : List ℕ) (i : ℕ) {why : Reason} → Err why ≡ blob_at s i → blob s i ≡ none
unfolding blob
blob-absent s i e = rw (← e)

module _ {t l : List ℕ} (laid : Laid t l) (strings heap : List ℕ) (r : ℕ) where
  pub spec-null : r ≡ 0 → BlobIs heap (spec_blob (view_in t l strings heap) r) None
  unfolding spec_blob
  spec-null e = record { is = rw (eq-eqb r 0 e); inside = tt }

  kept : rows_at l columns.spec_signature ≡ kept_rows (options_in l) (header_in t l) (length t) type_spec
  kept = rows-at laid columns.spec_signature (omega arith)

  module _ (n : r ≡ 0 → ⊥) where
    pub spec-past : rows_at l columns.spec_signature < r → BlobIs heap (spec_blob (view_in t l strings heap) r) None
    unfolding spec_blob view_of other_row
    spec-past h = record {
      is = rw (ne_eqb r 0 n, le-ltb (r - 1) (kept_rows (options_in l) (header_in t l) (length t) type_spec) (omega (arith, kept)));
      inside = tt;
    }

    module _ (h : r ≤ rows_at l columns.spec_signature) where
      spec_is : spec_blob (view_in t l strings heap) r ≡ blob heap (cell t l columns.spec_signature (r - 1))
      unfolding spec_blob view_of other_row
      spec_is = rw (ne_eqb r 0 n, lt-ltb (r - 1) (kept_rows (options_in l) (header_in t l) (length t) type_spec) (omega (arith, kept)))

      module _ {p : Part} {i : ℕ} (told : i ≡ cell t l columns.spec_signature (r - 1)) (looked : p ≡ blob_at heap i) where
        looked-at : p ≡ blob_at heap (cell t l columns.spec_signature (r - 1))
        looked-at = looked ∙ ap (blob_at heap) told

      pub spec-read : (p : Part) {i : ℕ} → i ≡ cell t l columns.spec_signature (r - 1) → p ≡ blob_at heap i
          → BlobIs heap (spec_blob (view_in t l strings heap) r) (result_ok p)
      spec-read (Ok place) told looked =
          let at = looked-at told looked in
          record { is = sym (spec_is ∙ blob-some heap _ at); inside = blob-within heap _ at }
      spec-read (Err why) told looked = record { is = sym (spec_is ∙ blob-absent heap _ (looked-at told looked)); inside = tt }

-- An answer that was matched.
module _ {s : List ℕ} {d : Option (List ℕ)} {r : Blob} (h : BlobIs s d r) where
  pub blob-there : {start n : ℕ} → r ≡ Some (record { start = start; len = n }) → (d ≡ some (part s start n)) × (start + n ≤ length s)
  blob-there e = (sym h.is ∙ ap (blob_bytes s) e, subst (BlobInside s) e h.inside)

  pub blob-missing : r ≡ None → d ≡ none
  blob-missing e = sym h.is ∙ ap (blob_bytes s) e
