-- The view: all that the record and the answers may read of the three streams. The side tables (GenericParam, InterfaceImpl, NestedClass and
-- ClassLayout) stand in it only by what they say of an owner, of a class, and of the namespaces.
use Rattle.std.specs.Prelude.{◌≡◌, Bool, cond, ◌||◌, List, ℕ, eqb, ltb, length}
use Rattle.std.proofs.Math.Option.{Option, none, some}
use Rattle.std.proofs.Math.ListN.{get_elem?}
use Rattle.header.specs.Stream.{opened}
use Rattle.header.specs.declared.Options.{Options}
use Rattle.header.specs.Stream.{Opening}
use Rattle.buffers.specs.Texts.{Text}
use Rattle.heaps.specs.Lookups.{Name, name}
use Rattle.layouts.specs.declared.IndexSizes.{IndexSizes}
use Rattle.layouts.specs.Kinds.{interface_impl, class_layout, nested_class, generic_param}
use Rattle.record.specs.Columns.{owner, generic_name, impl_class, impl_interface, packing_size, class_size, layout_parent}
use Rattle.tables.specs.Extents.{Extent, sizes_in, extent, kept_rows}
use Rattle.record.specs.Rows.{row_bytes, runs, of_key}
use Rattle.record.specs.Namespaces.{own_namespace, nest}

-- The side tables.
abbrev pub is_side : ℕ → Bool
is_side k = eqb k interface_impl || (eqb k class_layout || (eqb k nested_class || eqb k generic_param))

-- What a ClassLayout row says (II.22.8), as stored: 0 is a value.
pub record ClassLayout : Type 0 where
  pub packing : ℕ
  pub size : ℕ

abbrev pub layout_in : IndexSizes → List ℕ → ClassLayout
layout_in w r = record { packing = packing_size w r; size = class_size w r }

pub record View : Type 0 where
  -- what opening finds: a refusal, or heap sizes, row counts and the place of the first table
  pub header : Opening
  -- the length of the tables stream
  pub size : ℕ
  -- the index sizes: what the options mean for answers
  pub sizes : IndexSizes
  -- whether the class that takes a method is the only one to read its signature (2026-09)
  pub taker : Bool
  -- the kept rows of the other tables, by kind and place from 0
  pub row : ℕ → ℕ → Option (List ℕ)
  -- the names of an owner's generic parameters, by the Owner column as stored
  pub generics : ℕ → List Name
  -- the Interface columns of a class, by the Class column as stored
  pub interfaces : ℕ → List ℕ
  -- what the first ClassLayout row of a class says, by the Parent column as stored
  pub layout : ℕ → Option ClassLayout
  -- the namespace of a TypeDef row, from 1, once all NestedClass rows have acted
  pub namespace : ℕ → Option Text
  pub strings : List ℕ
  pub blob : List ℕ

-- By the options, what opening found, h, and the tables stream t
module _ (o : Options) (h : Opening) (t : List ℕ) where
  -- Where the table of kind k lies, the size of its rows and how many are whole.
  abbrev pub place : ℕ → Extent
  place k = extent o h (length t) k

  -- A row of a table that is no side table.
  unfoldable pub other_row : ℕ → ℕ → Option (List ℕ)
  other_row k i = cond (is_side k) none (cond (ltb i (kept_rows o h (length t) k)) (some (row_bytes (place k) t i)) none)

  -- A row of a side table, and how many are kept.
  abbrev pub side_row : ℕ → ℕ → List ℕ
  side_row k = row_bytes (place k) t

  abbrev pub side_rows : ℕ → ℕ
  side_rows k = kept_rows o h (length t) k

  unfoldable pub view_of : List ℕ → List ℕ → View
  view_of strings blob =
      record {
        header = h;
        size = length t;
        sizes = sizes_in o h;
        taker = o.taker;
        row = other_row;
        generics = of_key (owner (sizes_in o h)) (λ r. name strings (generic_name (sizes_in o h) r)) (side_row generic_param) (side_rows generic_param);
        interfaces = of_key (impl_class (sizes_in o h)) (impl_interface (sizes_in o h)) (side_row interface_impl) (side_rows interface_impl);
        layout = λ c. get_elem? (of_key (layout_parent (sizes_in o h)) (layout_in (sizes_in o h)) (side_row class_layout) (side_rows class_layout) c) 0;
        namespace =
            runs (nest (sizes_in o h) strings other_row) (side_row nested_class) (side_rows nested_class)
            (own_namespace (sizes_in o h) strings other_row);
        strings = strings;
        blob = blob;
      }

-- The view of a tables stream, a strings heap and a blob heap.
abbrev pub view : Options → List ℕ → List ℕ → List ℕ → View
view o t strings blob = view_of o (opened o t) t strings blob

-- Two ways of opening that find the same, with equal index sizes and in one mode, have one view, and so one walk, one record and one answer
-- to every call.
abbrev pub ViewBySizes : Type 0
ViewBySizes =
    (o p : Options) (h : Opening) (t strings blob : List ℕ) → sizes_in o h ≡ sizes_in p h → o.taker ≡ p.taker
    → view_of o h t strings blob ≡ view_of p h t strings blob
