-- How many steps the readings of a method's signature take at most, where one class reads it. Assumes nothing.
use mathlib.Core.Path.{◌≡◌, refl, sym, ap, ◌∙◌}
use mathlib.Core.Bool.{Bool, true, ◌||◌}
use mathlib.Core.List.{List}
use mathlib.Core.Option.{Option, none, some, some-injective, none-ne-some}
use Prim.Native.Nat.{ℕ, ◌+◌, ◌-◌, ◌*◌, ◌≤◌, min}
use native.Mathlib.Nat.{le_trans, mul-le-mul_left}
use native.Mathlib.Omega.{arith}
use lib.ListN.{length, length-take, length-drop}
use Rattle.numbers.specs.Parts.{part}
use Rattle.heaps.specs.Lookups.{Part, Name, blob_at, blob}
use Rattle.record.specs.Readings.{in_blob}
use Rattle.record.specs.View.{View, view_of}
use Rattle.record.specs.Missing.{and_then}
use Rattle.record.specs.Columns.{method_signature}
use Rattle.record.specs.Names.{sizes_of, method_row, env, class_generics, method_generics}
use Rattle.record.specs.Methods.{signature, signature_blob, reading, read_steps, steps_in}
use Rattle.rows.specs.Columns as columns
use Rattle.rows.specs.Layout.{Laid, is_marked, view_in}
use Rattle.sig_leaves.proofs.Specs.{blob-some, blob-absent}
use Rattle.passing.specs.Passing.{SpecsWithin}
use Rattle.passing.proofs.Bounds.{signature-within}
use Rattle.method_signatures.proofs.Steps.{by_one}
use Rattle.std.specs.Prelude.{Ok, Err}

-- A signature is a part of the blob heap.
part-short : (s : List ℕ) (start n : ℕ) → length (part s start n) ≤ length s
part-short s start n =
    let long : length (part s start n) ≡ min n (length s - start) = simp (length-take, length-drop) in
    omega (arith, long)

blob-short : (s : List ℕ) (i : ℕ) (b : List ℕ) → blob s i ≡ some b → length b ≤ length s
blob-short s i b e = go (blob_at s i) refl
  where
    go : (p : Part) → blob_at s i ≡ p → length b ≤ length s
    go (Ok span) f =
        let is = some-injective _ _ (sym e ∙ blob-some s i (sym f)) in
        omega (arith, ap length is, part-short s span.start span.len)
    go (Err why) f = absurd (none-ne-some _ (sym (blob-absent s i (sym f)) ∙ e))

module _ (v : View) (m : ℕ) where
  signature-short : (b : List ℕ) → signature_blob v m ≡ some b → length b ≤ length v.blob
  unfolding signature_blob
  signature-short b = go (method_row v m)
    where
      go : (o : Option (List ℕ)) → and_then o (λ row. blob v.blob (method_signature (sizes_of v) row)) ≡ some b → length b ≤ length v.blob
      go none e = absurd (none-ne-some _ e)
      go (some row) e = blob-short v.blob (method_signature (sizes_of v) row) b e

  reading-within : (c : ℕ) {most : ℕ} → SpecsWithin (env v (class_generics v c) (method_generics v m)) most
      → read_steps v m c ≤ (most + 1) * length v.blob
  unfolding read_steps reading
  reading-within c {most} specs = go (signature_blob v m) refl
    where
      go : (o : Option (List ℕ)) → signature_blob v m ≡ o
          → (in_blob (signature (env v (class_generics v c) (method_generics v m))) o).steps ≤ (most + 1) * length v.blob
      go none e = omega arith
      go (some b) e =
          le_trans (signature-within (env v (class_generics v c) (method_generics v m)) b most specs) (mul-le-mul_left (most + 1) (signature-short b e))

-- Where it is read at most once, and so many steps suffice for every TypeSpec row.
pub steps-within : {t l : List ℕ} → Laid t l → (strings heap : List ℕ)
    → {once : Bool} → once ≡ ((view_in t l strings heap).taker || is_marked l columns.method_list) → once ≡ true → (c m most : ℕ)
    → ((g h : List Name) → SpecsWithin (env (view_in t l strings heap) g h) most) → steps_in (view_in t l strings heap) c m ≤ (most + 1) * length heap
unfolding view_of
steps-within {t} {l} laid strings heap is-once sure c m most specs =
    let v = view_in t l strings heap in
    by_one laid strings heap m is-once sure ((most + 1) * length heap) (λ k. reading-within v m k (specs (class_generics v k) (method_generics v m))) c
