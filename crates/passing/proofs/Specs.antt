-- Steps that suffice for every TypeSpec row suffice for whatever name stands for one. Assumes nothing.
use mathlib.Core.Path.{◌≡◌, refl, sym, ◌∙◌}
use mathlib.Core.List.{List}
use mathlib.Core.Option.{Option, none, some, none-ne-some}
use Prim.Native.Nat.{ℕ, ◌+◌, ◌/◌, ◌%◌, ◌≤◌}
use native.Mathlib.Decide.{dec_le}
use native.Mathlib.Omega.{arith}
use Rattle.numbers.specs.Reading.{Res}
use Rattle.numbers.proofs.Pick.{pick-eq, by-lt}
use Rattle.buffers.specs.Texts.{Text}
use Rattle.heaps.specs.Lookups.{Name}
use Rattle.record.specs.Names.{spec_blob, env}
use Rattle.record.specs.Readings.{in_blob}
use Rattle.record.specs.Types.{look, type_full_name, type}
use Rattle.rows.specs.Columns as columns
use Rattle.rows.specs.Layout.{Laid, rows_at, view_in}
use Rattle.sig_leaves.proofs.Specs.{spec-null, spec-past, blob-missing}
use Rattle.passing.specs.Passing.{Suffices, SpecsWithin, RowsWithin}

module _ {t l : List ℕ} (laid : Laid t l) (strings heap : List ℕ) (most : ℕ) where
  pub up-to-none : RowsWithin (view_in t l strings heap) most 0
  up-to-none r spec h e = absurd (none-ne-some _ (sym (blob-missing (spec-null laid strings heap r (omega (arith, h))) refl) ∙ e))

  pub up-to-next : {n : ℕ} → RowsWithin (view_in t l strings heap) most n → ((spec : List ℕ) → spec_blob (view_in t l strings heap) (n + 1) ≡ some spec → Suffices spec most)
      → RowsWithin (view_in t l strings heap) most (n + 1)
  up-to-next {n} before here r spec h e =
      by-lt r (n + 1) (λ k. before r spec (omega (arith, k)) e) (λ k. let is : r ≡ n + 1 = omega (arith, h, k) in here spec (rw (← is) e))

  module _ (all : RowsWithin (view_in t l strings heap) most (rows_at l columns.spec_signature)) (g h : List Name) where
    spec-within : (m r : ℕ) (o : Option (List ℕ)) → spec_blob (view_in t l strings heap) r ≡ o
        → (in_blob (type (env (view_in t l strings heap) g h) m) o).steps ≤ most
    spec-within m r none e = omega arith
    spec-within m r (some spec) e = go (dec_le r (rows_at l columns.spec_signature))
      where
        go : Dec (r ≤ rows_at l columns.spec_signature) → (type (env (view_in t l strings heap) g h) m spec 0).steps ≤ most
        go (yes k) = (all r spec k e).types (env (view_in t l strings heap) g h) m 0
        go (no k) =
            absurd (none-ne-some _ (sym (blob-missing (spec-past laid strings heap r (λ z. k (omega (arith, z))) (omega (arith, k))) refl) ∙ e))

    pub specs-within : SpecsWithin (env (view_in t l strings heap) g h) most
    unfolding type_full_name look
    specs-within m i =
        pick-eq (λ (r : Res Text). r.steps ≤ most) (i % 4) 0 (λ _. omega arith)
        (λ _. pick-eq (λ (r : Res Text). r.steps ≤ most) (i % 4) 1 (λ _. omega arith)
        (λ _. pick-eq (λ (r : Res Text). r.steps ≤ most) (i % 4) 2 (λ _. spec-within m (i / 4) _ refl) (λ _. omega arith)))
