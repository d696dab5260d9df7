-- Rearrangements of the side tables, told of the bytes of the tables stream.
use Rattle.std.specs.Prelude.{◌≡◌, ◌⊎◌, true, List, ℕ, ◌+◌, ◌*◌, ◌≤◌, ◌<◌, length, get_or}
use Rattle.header.specs.Stream.{Opening}
use Rattle.layouts.specs.declared.IndexSizes.{IndexSizes}
use Rattle.layouts.specs.Kinds.{interface_impl, class_layout, nested_class, generic_param}
use Rattle.record.specs.Columns.{owner, impl_class, layout_parent, nested, enclosing}
use Rattle.tables.specs.Extents.{Extent, sizes_in}
use Rattle.tables.specs.Apart.{Inside}
use Rattle.record.specs.Rows.{count, row_bytes}
use Rattle.header.specs.declared.Options.{Options}
use Rattle.header.specs.Stream.{opened}
use Rattle.record.specs.View.{is_side, place}

-- The places below n paired one to one: `to` gives an old place's new one, `from` a new place's old one.
pub record Pairing (n : ℕ) : Type 0 where
  pub to : ℕ → ℕ
  pub from : ℕ → ℕ
  pub to_below : (i : ℕ) → i < n → to i < n
  pub from-below : (i : ℕ) → i < n → from i < n
  pub from-to : (i : ℕ) → i < n → from (to i) ≡ i
  pub to-from : (i : ℕ) → i < n → to (from i) ≡ i

-- The n rows `new` are the rows `old` at other places, and two old rows that are bound by B keep their order.
pub record Moved {A : Type 0} (B : A → A → Type 0) (n : ℕ) (old new : ℕ → A) : Type 0 where
  pub places : Pairing n
  pub same : (i : ℕ) → i < n → new (places.to i) ≡ old i
  pub order : (i j : ℕ) → i < j → j < n → B (old i) (old j) → places.to i < places.to j

-- A byte's place p lies in row i of a table.
abbrev pub InRow : Extent → ℕ → ℕ → Type 0
InRow e i p = (e.start + i * e.size ≤ p) × (p < e.start + i * e.size + e.size)

-- GenericParam rows of one owner keep their order. Columns are as stored.
abbrev pub SameOwner : IndexSizes → List ℕ → List ℕ → Type 0
SameOwner w r q = owner w r ≡ owner w q

-- InterfaceImpl rows of one class keep their order.
abbrev pub SameClass : IndexSizes → List ℕ → List ℕ → Type 0
SameClass w r q = impl_class w r ≡ impl_class w q

-- ClassLayout rows of one class keep their order.
abbrev pub SameParent : IndexSizes → List ℕ → List ℕ → Type 0
SameParent w r q = layout_parent w r ≡ layout_parent w q

-- A class occurs in a NestedClass row if either column holds it.
abbrev pub Occurs : IndexSizes → ℕ → List ℕ → Type 0
Occurs w c r = (nested w r ≡ c) ⊎ (enclosing w r ≡ c)

-- NestedClass rows keep their order where the nested class of either occurs in the other.
abbrev pub Tied : IndexSizes → List ℕ → List ℕ → Type 0
Tied w r q = Occurs w (nested w r) q ⊎ Occurs w (nested w q) r

-- Of a tables stream t, opened with the options o, with what opening found, h
module _ (o : Options) (h : Opening) (t : List ℕ) where
  -- A byte's place p lies in no side table.
  abbrev pub Elsewhere : ℕ → Type 0
  Elsewhere p = (k : ℕ) → is_side k ≡ true → ¬ Inside (place o h t k) p

  -- The walk's reply gives as many whole rows of kind k as its count.
  abbrev pub Whole : ℕ → Type 0
  Whole k = (place o h t k).rows ≡ count h k

  -- u has the bytes of t in the table of kind k.
  abbrev pub SameBytes : List ℕ → ℕ → Type 0
  SameBytes u k = (p : ℕ) → Inside (place o h t k) p → get_or u p 0 ≡ get_or t p 0

  -- u has the rows of kind k of t, each with its bytes unchanged, at other places of the table; rows bound by B keep their order.
  abbrev pub RowsMoved : (List ℕ → List ℕ → Type 0) → List ℕ → ℕ → Type 0
  RowsMoved B u k = Moved B (place o h t k).rows (row_bytes (place o h t k) t) (row_bytes (place o h t k) u)

-- GenericParam, InterfaceImpl and NestedClass are read whole in t, and u has their rows, moved as allowed.
pub record ThreeMoved (o : Options) (t u : List ℕ) : Type 0 where
  pub generic-whole : Whole o (opened o t) t generic_param
  pub interface-whole : Whole o (opened o t) t interface_impl
  pub nested-whole : Whole o (opened o t) t nested_class
  pub generics : RowsMoved o (opened o t) t (SameOwner (sizes_in o (opened o t))) u generic_param
  pub interfaces : RowsMoved o (opened o t) t (SameClass (sizes_in o (opened o t))) u interface_impl
  pub nestings : RowsMoved o (opened o t) t (Tied (sizes_in o (opened o t))) u nested_class

-- u is an allowed rearrangement of the tables stream t: rows of these three move, those of ClassLayout too where it is read whole (2026-12),
-- and no other byte changes. Where ClassLayout is cut, its bytes stay, and the rule holds of the three.
pub record Rearranged (o : Options) (t u : List ℕ) : Type 0 where
  pub three : ThreeMoved o t u
  pub layouts : Whole o (opened o t) t class_layout → RowsMoved o (opened o t) t (SameParent (sizes_in o (opened o t))) u class_layout
  pub layouts-stay : ¬ Whole o (opened o t) t class_layout → SameBytes o (opened o t) t u class_layout
  pub same_length : length u ≡ length t
  pub elsewhere : (p : ℕ) → Elsewhere o (opened o t) t p → get_or u p 0 ≡ get_or t p 0

-- Demand 3 as it was first put: no byte outside the three tables changes.
pub record ThreeRearranged (o : Options) (t u : List ℕ) : Type 0 where
  pub three : ThreeMoved o t u
  pub same_length : length u ≡ length t
  pub elsewhere :
      (p : ℕ)
      → ¬ Inside (place o (opened o t) t generic_param) p
      → ¬ Inside (place o (opened o t) t interface_impl) p
      → ¬ Inside (place o (opened o t) t nested_class) p
      → get_or u p 0 ≡ get_or t p 0

-- u is t with the GenericParam rows i and j exchanged, and no other byte changed.
pub record Swapped (o : Options) (t u : List ℕ) (i j : ℕ) : Type 0 where
  pub row-i : i < (place o (opened o t) t generic_param).rows
  pub row-j : j < (place o (opened o t) t generic_param).rows
  pub at_i : row_bytes (place o (opened o t) t generic_param) u i ≡ row_bytes (place o (opened o t) t generic_param) t j
  pub at_j : row_bytes (place o (opened o t) t generic_param) u j ≡ row_bytes (place o (opened o t) t generic_param) t i
  pub same_length : length u ≡ length t
  pub elsewhere :
      (p : ℕ)
      → ¬ InRow (place o (opened o t) t generic_param) i p
      → ¬ InRow (place o (opened o t) t generic_param) j p
      → get_or u p 0 ≡ get_or t p 0
