-- Names of types, and the generic names and base types of a class, by the view.
use Rattle.std.specs.Prelude.{cond, List, [], ◌∷◌, map, ℕ, ◌+◌, ◌*◌, ◌-◌, eqb}
use Rattle.std.proofs.Math.Option.{Option, none, some}
use Rattle.std.proofs.Math.ListN.{get_elem?}
use Rattle.layouts.specs.declared.IndexSizes.{IndexSizes}
use Rattle.record.specs.Missing.{over, and_then, or_default, present}
use Rattle.buffers.specs.Texts.{Text}
use Rattle.buffers.specs.declared.Reason.{Reason}
use Rattle.buffers.specs.declared.Reason.TheVariants.{Untold}
use Rattle.heaps.specs.Lookups.{Name, found, missing, name, text_of, reason_of, string, blob}
use Rattle.layouts.specs.Kinds.{type_ref, type_def, method_def, type_spec}
use Rattle.record.specs.Columns.{ref_name, ref_namespace, type_name, extends, spec_signature}
use Rattle.tables.specs.Extents.{kept_by}
use Rattle.record.specs.Namespaces.{cut, full_name, name_of}
use Rattle.record.specs.View.{View}
use Rattle.numbers.specs.Reading.{Res}
use Rattle.record.specs.Readings.{total}
use Rattle.record.specs.Types.{Env, type_full_name, type}

-- The index sizes, and how many rows of a table are kept.
abbrev pub sizes_of : View → IndexSizes
sizes_of v = v.sizes

abbrev pub rows_in : View → ℕ → ℕ
rows_in v k = kept_by v.sizes v.header v.size k

-- The row that an index into a table means: indices count from 1, and 0 stands for none (`get_record_in_table`).
abbrev pub indexed : View → ℕ → ℕ → Option (List ℕ)
indexed v k r = cond (eqb r 0) none (v.row k (r - 1))

-- A column of a row: 0 where the row is missing.
abbrev pub number_in : View → (IndexSizes → List ℕ → ℕ) → Option (List ℕ) → ℕ
number_in v col r = or_default 0 (over (col (sizes_of v)) r)

-- The string and the blob that a column of a row finds.
abbrev pub string_of : View → (IndexSizes → List ℕ → ℕ) → List ℕ → Option Text
string_of v col bytes = string v.strings (col (sizes_of v) bytes)

abbrev pub blob_of : View → (IndexSizes → List ℕ → ℕ) → List ℕ → Option Text
blob_of v col bytes = blob v.blob (col (sizes_of v) bytes)

-- The same where the row may be missing.
abbrev pub string_in : View → (IndexSizes → List ℕ → ℕ) → Option (List ℕ) → Option Text
string_in v col r = and_then r (string_of v col)

-- The string with the reason where it is missing; a row that is not there tells none.
abbrev pub name_in : View → (IndexSizes → List ℕ → ℕ) → Option (List ℕ) → Name
name_in v col none = missing Untold
name_in v col (some bytes) = name v.strings (col (sizes_of v) bytes)

-- How many classes there are: TypeDef row 1 is none (`parse_type_defs`).
unfoldable pub classes : View → ℕ
classes v = rows_in v type_def - 1

-- Class c, counted from 0, is TypeDef row c + 2, counted from 1: place c + 1 of the table.
abbrev pub class_index : ℕ → ℕ
class_index c = c + 2

abbrev pub class_row : View → ℕ → Option (List ℕ)
class_row v c = v.row type_def (c + 1)

-- Method m, counted from 0, is MethodDef row m + 1, counted from 1: place m of the table.
abbrev pub method_index : ℕ → ℕ
method_index m = m + 1

abbrev pub method_row : View → ℕ → Option (List ℕ)
method_row v m = v.row method_def m

-- The full name of the class at TypeDef row r, once all NestedClass rows have acted (`get_fullname`): rows 0 and 1 have none.
unfoldable pub class_full_name : View → ℕ → Option Text
class_full_name v r = full_name (v.namespace r) (name_of (sizes_of v) v.strings v.row r)

-- A text that may be missing, for this reason.
abbrev pub named : Option Text → Reason → Name
named none why = missing why
named (some t) why = found t

-- The name of class c: its full name, missing for the reason that its own name is. A missing namespace, or a missing name around it, is no
-- reason.
unfoldable pub class_named : View → ℕ → Name
class_named v c = named (class_full_name v (class_index c)) (reason_of (name_in v type_name (class_row v c)))

-- The full name of TypeRef row r (II.22.38, `get_type_fullname`); its ResolutionScope is not looked at.
unfoldable pub ref_full_name : View → ℕ → Option Text
ref_full_name v r = let row = indexed v type_ref r in full_name (string_in v ref_namespace row) (over cut (string_in v ref_name row))

-- The signature of TypeSpec row r (II.22.39).
unfoldable pub spec_blob : View → ℕ → Option (List ℕ)
spec_blob v r = and_then (indexed v type_spec r) (blob_of v spec_signature)

-- The generic names of class c and of method m (II.22.20, `parse_generic_params`): an owner's low bit is 0 for a TypeDef row, 1 for a
-- MethodDef row, and the rest is the row's number from 1. So owners 0, 1 and TypeDef row 1 belong to nobody.
abbrev pub class_generics : View → ℕ → List Name
class_generics v c = v.generics (2 * class_index c)

abbrev pub method_generics : View → ℕ → List Name
method_generics v m = v.generics (2 * method_index m + 1)

-- The generic name at a place: missing past the end, and where it is missing itself.
abbrev pub name_at : List Name → ℕ → Option Text
name_at l i = and_then (get_elem? l i) text_of

-- What signatures are read with, by the generic names of a class and of a method.
abbrev pub env : View → List Name → List Name → Env
env v of_class of_method =
    record {
      type_defs = class_full_name v;
      type_refs = ref_full_name v;
      type_specs = spec_blob v;
      generics = name_at of_class;
      mgenerics = name_at of_method;
    }

-- The levels that a signature has: the level starts at 0, and one above 16 refuses.
abbrev pub levels : ℕ
levels = 17

-- The reading of the type behind a TypeDefOrRef index that stands in a row of class c (`get_type_fullname` as `finalize` calls it): its
-- name, and how many type bytes are read for it.
unfoldable pub type_in : View → ℕ → ℕ → Res Text
type_in v c i = let e = env v (class_generics v c) [] in type_full_name e (type e levels) i

unfoldable pub type_name_in : View → ℕ → ℕ → Option Text
type_name_in v c i = (type_in v c i).got

unfoldable pub type_steps_in : View → ℕ → ℕ → ℕ
type_steps_in v c i = (type_in v c i).steps

-- What class c is said to be made of (`finalize`): its Extends column first (II.22.37), then the Interface columns of its rows of
-- InterfaceImpl (II.22.23), in order.
unfoldable pub base_indices : View → ℕ → List ℕ
base_indices v c = number_in v extends (class_row v c) ∷ v.interfaces (class_index c)

-- The base types of class c: the types behind these; those without a name are dropped.
unfoldable pub base_types : View → ℕ → List Text
base_types v c = present (map (type_name_in v c) (base_indices v c))

-- How many type bytes are read for all of them, those without a name included (2026-06).
unfoldable pub base_steps : View → ℕ → ℕ
base_steps v c = total (map (type_steps_in v c) (base_indices v c))
