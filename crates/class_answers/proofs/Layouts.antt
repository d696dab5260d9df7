-- The packing and the size of a class, by its first ClassLayout row. Assumes nothing.
use mathlib.Core.Path.{◌≡◌, sym, ap, subst, ◌∙◌}
use mathlib.Core.List.{List}
use mathlib.Core.Option.{Option}
use Prim.Native.Nat.{ℕ, ◌+◌, ◌≤◌, ◌<◌}
use Rattle.buffers.specs.Replies.{Answer, value, refused_by}
use Rattle.buffers.specs.declared.Refusal.TheVariants.{NoSuchRow}
use Rattle.classes.specs.declared.TypeDefRow.{TypeDefRow}
use Rattle.record.specs.View.{ClassLayout}
use Rattle.record.specs.Record.{Class, class}
use Rattle.record.specs.Answers.{◌⟫◌, or_no_row, the_layout, Numbered, class_packing, class_size}
use Rattle.rows.specs.Columns as columns
use Rattle.rows.specs.Layout.{Laid, rows_at, cell, view_in}
use Rattle.keys.specs.Keyed.{Row, FoundIs}
use Rattle.keys.proofs.Laws.{layout-found, layout-missed}
use Rattle.places.proofs.Laws.{listed, unlisted}
use Rattle.class_answers.specs.Layouts.{LayoutRowIs, at-layout, no-layout}
use Rattle.std.specs.Prelude.{Some, None, Ok, Err}

module _ {t l : List ℕ} (laid : Laid t l) (c : ℕ) where
  -- Of a class that is listed, the row that the search found.
  module _ (there : c + 2 ≤ rows_at l columns.type_name) where
    its-layout : (strings blob : List ℕ) {o : Option ClassLayout} → (view_in t l strings blob).layout (c + 2) ≡ o → the_layout (view_in t l strings blob) c ≡ or_no_row o
    unfolding class
    its-layout strings blob e =
        ap (λ (a : Answer Class). a ⟫ (λ k. or_no_row k.layout)) (listed laid strings blob c there) ∙ ap (λ (o : Option ClassLayout). or_no_row o) e

    row-found : (r : Row) → FoundIs (cell t l columns.layout_parent) (c + 2) (rows_at l columns.layout_parent) 0 r → LayoutRowIs t l c r
    row-found (Some i) h = at-layout h.0 (λ strings blob. its-layout strings blob (layout-found laid strings blob (c + 2) i h))
    row-found None h = no-layout (λ strings blob. its-layout strings blob (layout-missed laid strings blob (c + 2) h))

  pub row_is : {row : TypeDefRow} → (row.0 ≡ c + 2) × (c + 2 ≤ rows_at l columns.type_name) → {r : Row}
      → FoundIs (cell t l columns.layout_parent) row.0 (rows_at l columns.layout_parent) 0 r → LayoutRowIs t l c r
  row_is at {r} h = row-found at.1 r (subst (λ (k : ℕ). FoundIs (cell t l columns.layout_parent) k (rows_at l columns.layout_parent) 0 r) at.0 h)

  pub no-class-row : rows_at l columns.type_name < c + 2 → LayoutRowIs t l c None
  no-class-row h = no-layout (λ strings blob. ap (λ (a : Answer Class). a ⟫ (λ k. or_no_row k.layout)) (unlisted laid strings blob c h))

-- What a caller that has matched the row answers.
module _ {t l : List ℕ} {c : ℕ} where
  said_at : {i : ℕ} → LayoutRowIs t l c (Some i)
      → (i < rows_at l columns.layout_parent)
      × ((strings blob : List ℕ) → the_layout (view_in t l strings blob) c ≡ value (record { packing = cell t l columns.packing_size i; size = cell t l columns.class_size i }))
  said_at (at-layout h e) = (h, e)

  said-none : LayoutRowIs t l c None → (strings blob : List ℕ) → the_layout (view_in t l strings blob) c ≡ refused_by NoSuchRow
  said-none (no-layout e) = e

  module _ {r : Row} (h : LayoutRowIs t l c r) where
    pub row_inside : {i : ℕ} → r ≡ Some i → i < rows_at l columns.layout_parent
    row_inside e = (said_at (subst (LayoutRowIs t l c) e h)).0

    module _ (strings blob : List ℕ) where
      its : {i : ℕ} → r ≡ Some i → the_layout (view_in t l strings blob) c ≡ value (record { packing = cell t l columns.packing_size i; size = cell t l columns.class_size i })
      its e = (said_at (subst (LayoutRowIs t l c) e h)).1 strings blob

      none : r ≡ None → the_layout (view_in t l strings blob) c ≡ refused_by NoSuchRow
      none e = said-none (subst (LayoutRowIs t l c) e h) strings blob

      pub packing-is : {i x : ℕ} → r ≡ Some i → x ≡ cell t l columns.packing_size i → Numbered (class_packing (view_in t l strings blob) c) (Ok x)
      unfolding class_packing
      packing-is e f = ap value f ∙ sym (ap (λ (a : Answer ClassLayout). a ⟫ (λ k. value k.packing)) (its e))

      pub no-packing : r ≡ None → Numbered (class_packing (view_in t l strings blob) c) (Err NoSuchRow)
      unfolding class_packing
      no-packing e = sym (ap (λ (a : Answer ClassLayout). a ⟫ (λ k. value k.packing)) (none e))

      pub size_is : {i x : ℕ} → r ≡ Some i → x ≡ cell t l columns.class_size i → Numbered (class_size (view_in t l strings blob) c) (Ok x)
      unfolding class_size
      size_is e f = ap value f ∙ sym (ap (λ (a : Answer ClassLayout). a ⟫ (λ k. value k.size)) (its e))

      pub no_size : r ≡ None → Numbered (class_size (view_in t l strings blob) c) (Err NoSuchRow)
      unfolding class_size
      no_size e = sym (ap (λ (a : Answer ClassLayout). a ⟫ (λ k. value k.size)) (none e))
