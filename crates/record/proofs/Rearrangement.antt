-- An allowed rearrangement of the side tables leaves the view as it was. Assumes nothing.
use mathlib.Core.Path.{◌≡◌, refl, sym, ap, ap₂, ◌∙◌, fun_ext}
use mathlib.Core.List.{List}
use Prim.Native.Nat.{ℕ, ◌+◌, ◌*◌}
use native.Mathlib.Decide.{ℕ_discrete}
use native.Mathlib.Omega.{arith}
use lib.ListN.{length, get_elem?}
use Rattle.header.specs.Stream.{Opening}
use Rattle.heaps.specs.Lookups.{name}
use Rattle.layouts.specs.Kinds.{interface_impl, class_layout, nested_class, generic_param}
use Rattle.record.specs.Columns.{owner, generic_name, impl_class, impl_interface, layout_parent}
use Rattle.tables.specs.Extents.{sizes_in, extent, kept_rows, kept_by, only_entire}
use Rattle.record.specs.Rows.{count, row_bytes, runs, of_key}
use Rattle.record.specs.Namespaces.{nest, own_namespace}
use Rattle.header.specs.declared.Options.{Options}
use Rattle.record.specs.View.{view, view_of, place, other_row, side_row, side_rows, layout_in}
use Rattle.header.specs.Stream.{opened}
use Rattle.record.specs.Rearrangement.{Rearranged, ThreeRearranged, Whole, SameBytes, RowsMoved, SameParent}
use Rattle.record.proofs.Keyed.{of_key-moved}
use Rattle.record.proofs.Nested.{nest-moved}
use Rattle.record.proofs.Extents.{kept_whole, row_inside, apart}
use Rattle.record.proofs.Parts.{part_same}
use Rattle.record.proofs.Lift.{opened-same, row_same}

-- Where no byte of a table changes, its rows stay: each place is paired with itself.
rows_stay : (o : Options) (t u : List ℕ) (B : List ℕ → List ℕ → Type 0) (k : ℕ) → length u ≡ length t → SameBytes o (opened o t) t u k
    → RowsMoved o (opened o t) t B u k
rows_stay o t u B k len same =
    let e = place o (opened o t) t k in
    record {
      places = record { to = λ i. i; from = λ i. i; to_below = λ i h. h; from-below = λ i h. h; from-to = λ i h. refl; to-from = λ i h. refl };
      same = λ i l. part_same u t len (e.start + i * e.size) e.size (λ p a b. same p (row_inside e i p l (a, b)));
      order = λ i j h l b. h;
    }

module _ (o : Options) (t u strings blob : List ℕ) (r : Rearranged o t u) where
  abbrev h : Opening
  h = opened o t

  headers : opened o u ≡ h
  headers = opened-same o t u r.same_length r.elsewhere

  rows : other_row o (opened o u) u ≡ other_row o h t
  rows = row_same o t u r.same_length r.elsewhere

  -- What is read of a side table, F, is read alike if it is alike of the rows by t's extent.
  seen : {A : Type 0} (k : ℕ) (F : Opening → (ℕ → List ℕ) → ℕ → A) → kept_rows o h (length t) k ≡ (place o h t k).rows
      → F h (row_bytes (place o h t k) t) (place o h t k).rows ≡ F h (row_bytes (place o h t k) u) (place o h t k).rows
      → F (opened o u) (side_row o (opened o u) u k) (side_rows o (opened o u) u k) ≡ F h (side_row o h t k) (side_rows o h t k)
  seen k F all e =
      ap₂ (λ g n. F g (row_bytes (extent o g n k) u) (kept_rows o g n k)) headers r.same_length
      ∙ ap (F h (row_bytes (place o h t k) u)) all
      ∙ sym e
      ∙ sym (ap (F h (side_row o h t k)) all)

  generics : (view o u strings blob).generics ≡ (view o t strings blob).generics
  unfolding view_of
  generics =
      seen generic_param (λ g row n. of_key (owner (sizes_in o g)) (λ b. name strings (generic_name (sizes_in o g) b)) row n) (kept_whole o h (length t) generic_param r.three.generic-whole)
      (fun_ext (of_key-moved (owner (sizes_in o h)) (λ b. name strings (generic_name (sizes_in o h) b)) _ _ _ r.three.generics))

  interfaces : (view o u strings blob).interfaces ≡ (view o t strings blob).interfaces
  unfolding view_of
  interfaces =
      seen interface_impl (λ g row n. of_key (impl_class (sizes_in o g)) (impl_interface (sizes_in o g)) row n) (kept_whole o h (length t) interface_impl r.three.interface-whole)
      (fun_ext (of_key-moved (impl_class (sizes_in o h)) (impl_interface (sizes_in o h)) _ _ _ r.three.interfaces))

  -- Of ClassLayout the whole rows before a cut are kept, as of TypeDef.
  kept-layouts : kept_rows o h (length t) class_layout ≡ (place o h t class_layout).rows
  unfolding kept_by only_entire
  kept-layouts = refl

  -- Its rows move as allowed, also where it is cut: then they stay.
  layouts-moved : RowsMoved o h t (SameParent (sizes_in o h)) u class_layout
  layouts-moved = go (ℕ_discrete (place o h t class_layout).rows (count h class_layout))
    where
      go : Dec (Whole o h t class_layout) → RowsMoved o h t (SameParent (sizes_in o h)) u class_layout
      go (yes w) = r.layouts w
      go (no n) = rows_stay o t u (SameParent (sizes_in o h)) class_layout r.same_length (r.layouts-stay n)

  layouts : (view o u strings blob).layout ≡ (view o t strings blob).layout
  unfolding view_of
  layouts =
      seen class_layout (λ g row n c. get_elem? (of_key (layout_parent (sizes_in o g)) (layout_in (sizes_in o g)) row n c) 0) kept-layouts
      (fun_ext λ c. ap (λ l. get_elem? l 0) (of_key-moved (layout_parent (sizes_in o h)) (layout_in (sizes_in o h)) _ _ _ layouts-moved c))

  namespaces : (view o u strings blob).namespace ≡ (view o t strings blob).namespace
  unfolding view_of
  namespaces =
      ap (λ f. runs (nest (sizes_in o (opened o u)) strings f) (side_row o (opened o u) u nested_class) (side_rows o (opened o u) u nested_class) (own_namespace (sizes_in o (opened o u)) strings f)) rows
      ∙ seen nested_class (λ g row n. runs (nest (sizes_in o g) strings (other_row o h t)) row n (own_namespace (sizes_in o g) strings (other_row o h t))) (kept_whole o h (length t) nested_class r.three.nested-whole)
      (nest-moved (sizes_in o h) strings (other_row o h t) _ _ _ r.three.nestings (own_namespace (sizes_in o h) strings (other_row o h t)))

  pub view-same : view o u strings blob ≡ view o t strings blob
  unfolding view_of
  view-same =
      λ i. record {
        header = headers i;
        size = r.same_length i;
        sizes = sizes_in o (headers i);
        taker = o.taker;
        row = rows i;
        generics = generics i;
        interfaces = interfaces i;
        layout = layouts i;
        namespace = namespaces i;
        strings = strings;
        blob = blob;
      }

-- What three tables allow, four do.
module _ (o : Options) (t u : List ℕ) (r : ThreeRearranged o t u) where
  layout-bytes : SameBytes o (opened o t) t u class_layout
  layout-bytes p i =
      r.elsewhere p
      (apart o (opened o t) (length t) class_layout generic_param p (λ e. omega arith) i)
      (apart o (opened o t) (length t) class_layout interface_impl p (λ e. omega arith) i)
      (apart o (opened o t) (length t) class_layout nested_class p (λ e. omega arith) i)

  pub three-allowed : Rearranged o t u
  three-allowed =
      record {
        three = r.three;
        layouts = λ _. rows_stay o t u _ class_layout r.same_length layout-bytes;
        layouts-stay = λ _. layout-bytes;
        same_length = r.same_length;
        elsewhere = λ p g. r.elsewhere p (g generic_param refl) (g interface_impl refl) (g nested_class refl);
      }
