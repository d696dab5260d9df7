-- Names of classes, full names, and what NestedClass rows make of the namespaces.
use Rattle.std.specs.Prelude.{cond, ◌&&◌, List, ◌∷◌, ◌++◌, ℕ, ◌-◌, eqb, ltb, take}
use Rattle.std.proofs.Math.Option.{Option, none, some}
use Rattle.layouts.specs.declared.IndexSizes.{IndexSizes}
use Rattle.record.specs.Missing.{over, and_then}
use Rattle.buffers.specs.Texts.{Text}
use Rattle.heaps.specs.Lookups.{before, string}
use Rattle.layouts.specs.Kinds.{type_def}
use Rattle.record.specs.Columns.{type_name, type_namespace, nested, enclosing}

-- A name ends at its first back-quote (`parse_type_defs`, `get_type_fullname`).
unfoldable pub cut : Text → Text
cut t = take (before 0x60 t) t

-- Namespace, dot, name; with no namespace, the name; missing if the name is (`build_fullname`, `get_fullname`).
unfoldable pub full_name : Option Text → Option Text → Option Text
full_name space none = none
full_name none (some name) = some name
full_name (some space) (some name) = some (space ++ 0x2E ∷ name)

-- By the index sizes w, the strings heap, and the rows of the tables by kind and place
module _ (w : IndexSizes) (strings : List ℕ) (row : ℕ → ℕ → Option (List ℕ)) where
  -- TypeDef row r, from 1, if it is a class: row 1 is none.
  abbrev pub class_at : ℕ → Option (List ℕ)
  class_at r = cond (ltb r 2) none (row type_def (r - 1))

  -- The name of the class at TypeDef row r, cut.
  unfoldable pub name_of : ℕ → Option Text
  name_of r = and_then (class_at r) (λ bytes. over cut (string strings (type_name w bytes)))

  -- Its namespace before any NestedClass row acts; it is not cut.
  unfoldable pub own_namespace : ℕ → Option Text
  own_namespace r = and_then (class_at r) (λ bytes. string strings (type_namespace w bytes))

  -- What a NestedClass row (II.22.32, `parse_nested_class`) makes of the namespaces, which TypeDef row numbers index:
  -- the nested class's becomes the full name that the enclosing class has at that moment. Rows with either index 0 or 1 do nothing.
  abbrev pub nest : List ℕ → (ℕ → Option Text) → ℕ → Option Text
  nest r space c =
      cond (ltb 1 (nested w r) && (ltb 1 (enclosing w r) && eqb c (nested w r)))
      (full_name (space (enclosing w r)) (name_of (enclosing w r))) (space c)
