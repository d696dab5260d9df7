-- What an assembly says of itself and of what it refers to (2026-03), by the view: its module's name, its module references, the assembly, the
-- assembly references, the string constants and the typelib, as the Rust's row parsers set them. Outside, a value is missing where the
-- Rust sets nothing; inside, where it sets `Undefined`. An empty value is a value.
use Rattle.std.specs.Prelude.{Bool, false, cond, ◌&&◌, List, [], ◌∷◌, map, ℕ, ◌+◌, ◌/◌, ◌%◌, eqb, ltb, leb, length, get_or}
use Rattle.std.proofs.Math.Option.{Option, none, some}
use Rattle.numbers.specs.Lists.{tabulate}
use Rattle.numbers.specs.Parts.{part}
use Rattle.buffers.specs.Texts.{Text, q, same}
use Rattle.layouts.specs.Kinds.{the_module, type_ref, member_ref, constant, custom_attribute, module_ref, assembly, assembly_ref}
use Rattle.layouts.specs.declared.IndexSizes.{IndexSizes}
use Rattle.record.specs.Missing.{over, and_then, or_default, present, first_there}
use Rattle.record.specs.Columns.{ref_name, module_name, member_class, constant_type, constant_value, attribute_parent, attribute_type, attribute_value, module_ref_name, assembly_version, assembly_name, assembly_culture, assembly_ref_version, assembly_ref_key, assembly_ref_name}
use Rattle.record.specs.Rows.{count}
use Rattle.record.specs.View.{View}
use Rattle.record.specs.Names.{sizes_of, rows_in, indexed, string_of, blob_of}

-- ---- Tables that are read whole

-- How many rows a table has that is read whole: none of one that is cut in its middle.
unfoldable pub entire_rows : View → ℕ → ℕ
entire_rows v k = cond (eqb (rows_in v k) (count v.header k)) (rows_in v k) 0

-- Its rows, in order. A table that has none or is cut sets nothing: its parser is left (`?`) before it sets a value.
unfoldable pub entire_table : View → ℕ → Option (List (List ℕ))
entire_table v k = let n = entire_rows v k in cond (eqb n 0) none (some (present (tabulate (v.row k) 0 n)))

-- ---- The module and the assembly

-- A version: MajorVersion, MinorVersion, BuildNumber and RevisionNumber, in columns one after the other.
abbrev pub version_parts : ℕ
version_parts = 4

abbrev pub version_of : View → (ℕ → IndexSizes → List ℕ → ℕ) → List ℕ → List ℕ
version_of v col r = tabulate (λ p. col p (sizes_of v) r) 0 version_parts

-- The name in the first Module row (II.22.30, `parse_modules`), if that row is whole, whatever is cut behind it.
unfoldable pub module_of : View → Option (Option Text)
module_of v = over (string_of v module_name) (v.row the_module 0)

pub record Assembly : Type 0 where
  pub name : Option Text
  pub version : List ℕ
  pub culture : Option Text

unfoldable pub assembly_in : View → List ℕ → Assembly
assembly_in v r =
    record {
      name = string_of v assembly_name r;
      version = version_of v assembly_version r;
      culture = string_of v assembly_culture r;
    }

-- The first Assembly row (II.22.2, `parse_assembly_table`), if it is whole.
unfoldable pub assembly_of : View → Option Assembly
assembly_of v = over (assembly_in v) (v.row assembly 0)

-- ---- References to others

-- The names of the module references (II.22.31, `parse_module_ref`).
unfoldable pub module_refs_of : View → Option (List (Option Text))
module_refs_of v = over (map (string_of v module_ref_name)) (entire_table v module_ref)

pub record AssemblyReference : Type 0 where
  pub name : Option Text
  pub version : List ℕ
  pub key : Option Text

-- A text that is empty is missing.
unfoldable pub not_empty : Text → Option Text
not_empty [] = none
not_empty (b ∷ t) = some (b ∷ t)

-- An assembly reference (II.22.5, `parse_assembly_ref_table`): its public key or token is undefined where it has no bytes.
unfoldable pub assembly_ref_in : View → List ℕ → AssemblyReference
assembly_ref_in v r =
    record {
      name = string_of v assembly_ref_name r;
      version = version_of v assembly_ref_version r;
      key = and_then (blob_of v assembly_ref_key r) not_empty;
    }

unfoldable pub assembly_refs_of : View → Option (List AssemblyReference)
assembly_refs_of v = over (map (assembly_ref_in v)) (entire_table v assembly_ref)

-- ---- String constants

-- ELEMENT_TYPE_STRING (II.23.1.16): the Type of a constant that is a string (II.22.9), which the Rust reads as two bytes.
abbrev pub string_type : ℕ
string_type = 0x0E

-- The value of a constant: index 0 is an empty value, and is not looked up.
unfoldable pub constant_text : View → List ℕ → Option Text
constant_text v r = cond (eqb (constant_value (sizes_of v) r) 0) (some []) (blob_of v constant_value r)

-- What a Constant row says (`parse_constants`): nothing where its type is another.
unfoldable pub constant_in : View → List ℕ → Option (Option Text)
constant_in v r = cond (eqb (constant_type (sizes_of v) r) string_type) (some (constant_text v r)) none

unfoldable pub constants_of : View → Option (List (Option Text))
constants_of v = over (λ rows. present (map (constant_in v) rows)) (entire_table v constant)

-- ---- The typelib

-- Tags of coded indices (II.24.2.6): Assembly in HasCustomAttribute, of five bits; MemberRef in CustomAttributeType, and TypeRef in
-- MemberRefParent, of three bits.
abbrev pub assembly_tag : ℕ
assembly_tag = 14

abbrev pub member_ref_tag : ℕ
member_ref_tag = 3

abbrev pub type_ref_tag : ℕ
type_ref_tag = 1

-- The row of table k that a coded index with a tag of three bits means: none where its tag is not that of k.
unfoldable pub tagged : View → ℕ → ℕ → ℕ → Option (List ℕ)
tagged v tag k i = cond (eqb (i % 8) tag) (indexed v k (i / 8)) none

-- The name of the type behind a CustomAttributeType index: of the TypeRef (II.22.38) that is the class of the MemberRef (II.22.25). It is not
-- cut at a back-quote.
unfoldable pub attribute_name : View → ℕ → Option Text
attribute_name v i =
    and_then (tagged v member_ref_tag member_ref i) λ m.
    and_then (tagged v type_ref_tag type_ref (member_class (sizes_of v) m)) (string_of v ref_name)

-- Whether an optional text is there and is this one.
abbrev pub is_text : Text → Option Text → Bool
is_text t o = or_default false (over (same t) o)

-- Whether a CustomAttribute row (II.22.10) may hold the typelib (`custom_attribute_is_typelib`): its parent has the tag of Assembly, whatever
-- the row, and its type is called GuidAttribute.
unfoldable pub is_typelib : View → List ℕ → Bool
is_typelib v r =
    eqb (attribute_parent (sizes_of v) r % 32) assembly_tag
    && is_text (q "GuidAttribute") (attribute_name v (attribute_type (sizes_of v) r))

-- The length byte of a string that is null (II.23.3).
abbrev pub null_string : ℕ
null_string = 0xFF

-- The text in the value of a custom attribute (II.23.3): the prolog 01 00, then a length, taken as one plain byte that is neither 0 nor that
-- of a null string, and so many bytes. What follows is not looked at.
unfoldable pub guid_text : Text → Option Text
guid_text b =
    let n = get_or b 2 0 in
    cond (eqb (get_or b 0 0) 1 && eqb (get_or b 1 0) 0 && ltb 0 n && ltb n null_string && leb (3 + n) (length b)) (some (part b 3 n)) none

-- What a CustomAttribute row says of the typelib: nothing where it does not qualify, and undefined where its value yields no text.
unfoldable pub typelib_in : View → List ℕ → Option (Option Text)
typelib_in v r = cond (is_typelib v r) (some (and_then (blob_of v attribute_value r) guid_text)) none

-- The first row that qualifies decides (`parse_custom_attributes`); where none does, the typelib is undefined.
unfoldable pub typelib_of : View → Option (Option Text)
typelib_of v = over (λ rows. or_default none (first_there (map (typelib_in v) rows))) (entire_table v custom_attribute)

-- ---- All of them

pub record References : Type 0 where
  pub module_name : Option (Option Text)
  pub module_refs : Option (List (Option Text))
  pub assembly : Option Assembly
  pub assembly_refs : Option (List AssemblyReference)
  pub constants : Option (List (Option Text))
  pub typelib : Option (Option Text)

unfoldable pub references : View → References
references v =
    record {
      module_name = module_of v;
      module_refs = module_refs_of v;
      assembly = assembly_of v;
      assembly_refs = assembly_refs_of v;
      constants = constants_of v;
      typelib = typelib_of v;
    }
