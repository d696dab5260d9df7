-- Worked cases of the references (2026-03): a stream that has every one of them, with its cuts, and small streams for what it leaves open.
-- proofs/ReferenceCases.antt proves them by computing.
use Rattle.std.specs.Prelude.{◌≡◌, List, [], ◌∷◌, ◌++◌, ℕ, take, replicate}
use Rattle.std.proofs.Math.Option.{Option, none, some}
use Rattle.buffers.specs.Texts.{Text, q}
use Rattle.buffers.specs.Replies.{value}
use Rattle.header.specs.Stream.{base}
use Rattle.record.specs.View.{View, view}
use Rattle.record.specs.References.{constants_of, guid_text, typelib_of, references}
use Rattle.record.specs.Answers.{module_name, module_ref_count, assembly_name, assembly_version, assembly_ref_count, constant_count, typelib}
use Rattle.record.specs.Cases.{refused_with, two_bytes}

-- ---- All of them

unfoldable pub reference_tables : List ℕ
reference_tables =
    0 ∷ 0 ∷ 0 ∷ 0 ∷ 2 ∷ 0 ∷ 0 ∷ 1 ∷ 3 ∷ 0x1C ∷ 0 ∷ 4 ∷ 9 ∷ 0 ∷ 0 ∷ 0 ∷ 0 ∷ 0 ∷ 0 ∷ 0 ∷ 0 ∷ 0 ∷ 0 ∷ 0 ∷
    1 ∷ 0 ∷ 0 ∷ 0 ∷ 1 ∷ 0 ∷ 0 ∷ 0 ∷ 1 ∷ 0 ∷ 0 ∷ 0 ∷ 4 ∷ 0 ∷ 0 ∷ 0 ∷ 1 ∷ 0 ∷ 0 ∷ 0 ∷ 2 ∷ 0 ∷ 0 ∷ 0 ∷ 1 ∷ 0 ∷ 0 ∷ 0 ∷ 2 ∷ 0 ∷ 0 ∷ 0 ∷
    -- Module: a.dll
    0 ∷ 0 ∷ 1 ∷ 0 ∷ 1 ∷ 0 ∷ 0 ∷ 0 ∷ 0 ∷ 0 ∷
    -- TypeRef: GuidAttribute
    6 ∷ 0 ∷ 7 ∷ 0 ∷ 0 ∷ 0 ∷
    -- MemberRef: .ctor of TypeRef row 1
    9 ∷ 0 ∷ 0x15 ∷ 0 ∷ 0 ∷ 0 ∷
    -- Constant: a string, blob 1; an int; a string, index 0; a string, index 99
    0x0E ∷ 0 ∷ 0 ∷ 0 ∷ 1 ∷ 0 ∷
    8 ∷ 0 ∷ 0 ∷ 0 ∷ 1 ∷ 0 ∷
    0x0E ∷ 0 ∷ 0 ∷ 0 ∷ 0 ∷ 0 ∷
    0x0E ∷ 0 ∷ 0 ∷ 0 ∷ 99 ∷ 0 ∷
    -- CustomAttribute: of Assembly row 1, by MemberRef row 1, blob 6
    0x2E ∷ 0 ∷ 0x0B ∷ 0 ∷ 6 ∷ 0 ∷
    -- ModuleRef: k; index 0
    0x1B ∷ 0 ∷
    0 ∷ 0 ∷
    -- Assembly: a 1.2.3.65535, culture index 0
    4 ∷ 0x80 ∷ 0 ∷ 0 ∷ 1 ∷ 0 ∷ 2 ∷ 0 ∷ 3 ∷ 0 ∷ 0xFF ∷ 0xFF ∷ 0 ∷ 0 ∷ 0 ∷ 0 ∷ 0 ∷ 0 ∷ 0x1D ∷ 0 ∷ 0 ∷ 0 ∷
    -- AssemblyRef: m 4.0.0.0, key blob 15; 2.0.0.0, all else 0
    4 ∷ 0 ∷ 0 ∷ 0 ∷ 0 ∷ 0 ∷ 0 ∷ 0 ∷ 0 ∷ 0 ∷ 0 ∷ 0 ∷ 0x0F ∷ 0 ∷ 0x1F ∷ 0 ∷ 0 ∷ 0 ∷ 0 ∷ 0 ∷
    2 ∷ 0 ∷ 0 ∷ 0 ∷ 0 ∷ 0 ∷ 0 ∷ 0 ∷ 0 ∷ 0 ∷ 0 ∷ 0 ∷ 0 ∷ 0 ∷ 0 ∷ 0 ∷ 0 ∷ 0 ∷ 0 ∷ 0 ∷
    []

-- a.dll at 1, GuidAttribute at 7, .ctor at 0x15, k at 0x1B, a at 0x1D, m at 0x1F
unfoldable pub reference_strings : List ℕ
reference_strings = 0 ∷ q "a.dll" ++ 0 ∷ q "GuidAttribute" ++ 0 ∷ q ".ctor" ++ 0 ∷ q "k" ++ 0 ∷ q "a" ++ 0 ∷ q "m" ++ 0 ∷ []

unfoldable pub reference_blob : List ℕ
reference_blob = 0 ∷ 4 ∷ 0x68 ∷ 0 ∷ 0x69 ∷ 0 ∷ 8 ∷ 1 ∷ 0 ∷ 3 ∷ 0x61 ∷ 0x62 ∷ 0x63 ∷ 0 ∷ 0 ∷ 2 ∷ 0xB7 ∷ 0x7A ∷ []

-- Of the 174 bytes of its tables the first n.
abbrev pub cut_at : ℕ → View
cut_at n = view base (take n reference_tables) reference_strings reference_blob

pub record ReferenceCase : Type 0 where
  pub whole :
      references (cut_at 174)
      ≡ record {
        module_name = some (some (q "a.dll"));
        module_refs = some (some (q "k") ∷ none ∷ []);
        assembly = some (record { name = some (q "a"); version = 1 ∷ 2 ∷ 3 ∷ 65_535 ∷ []; culture = none });
        assembly_refs =
            some
            (record { name = some (q "m"); version = 4 ∷ 0 ∷ 0 ∷ 0 ∷ []; key = some (0xB7 ∷ 0x7A ∷ []) }
            ∷ record { name = none; version = 2 ∷ 0 ∷ 0 ∷ 0 ∷ []; key = none }
            ∷ []);
        constants = some (some (0x68 ∷ 0 ∷ 0x69 ∷ 0 ∷ []) ∷ some [] ∷ none ∷ []);
        typelib = some (some (q "abc"));
      }
  -- one AssemblyRef row of two is whole
  pub cut-refs : assembly_ref_count (cut_at 154) ≡ refused_with 4
  pub still-there : assembly_version (cut_at 154) 3 ≡ value 65_535
  -- the Assembly row lacks a byte
  pub cut-assembly : assembly_name (cut_at 133) ≡ refused_with 4
  pub two-modules : module_ref_count (cut_at 133) ≡ value 2
  -- the CustomAttribute row lacks a byte
  pub cut-attributes : typelib (cut_at 107) ≡ refused_with 4
  pub three-constants : constant_count (cut_at 107) ≡ value 3
  pub module-name : module_name (cut_at 107) ≡ value (q "a.dll")
  -- a version has four parts
  pub no_part : assembly_version (cut_at 174) 4 ≡ refused_with 4

-- ---- The first row counts, whatever is cut behind it

-- An Assembly row with that major version, all else 0.
abbrev pub assembly_row : ℕ → List ℕ
assembly_row major = 0 ∷ 0 ∷ 0 ∷ 0 ∷ major ∷ replicate 17 0

-- Two such rows, of which so many bytes are there.
unfoldable pub two_assemblies : ℕ → List ℕ
two_assemblies n =
    0 ∷ 0 ∷ 0 ∷ 0 ∷ 2 ∷ 0 ∷ 0 ∷ 1 ∷ 0 ∷ 0 ∷ 0 ∷ 0 ∷ 1 ∷ 0 ∷ 0 ∷ 0 ∷ 0 ∷ 0 ∷ 0 ∷ 0 ∷ 0 ∷ 0 ∷ 0 ∷ 0 ∷ 2 ∷ 0 ∷ 0 ∷ 0 ∷
    take n (assembly_row 7 ++ assembly_row 8)

pub record CutAssembly : Type 0 where
  pub first : assembly_version (view base (two_assemblies 43) [] []) 0 ≡ value 7
  pub none : assembly_version (view base (two_assemblies 21) [] []) 0 ≡ refused_with 4

-- ---- Constants

-- So many Constant rows, each its Type and its Value.
unfoldable pub constant_tables : ℕ → List ℕ → List ℕ
constant_tables n rows = two_bytes 0 8 ++ n ∷ 0 ∷ 0 ∷ 0 ∷ rows

abbrev pub constant_row : ℕ → ℕ → ℕ → List ℕ
constant_row low high index = low ∷ high ∷ 0 ∷ 0 ∷ index ∷ 0 ∷ []

pub record ConstantCases : Type 0 where
  -- index 0 is an empty value, also where the heap has something there, and where it is empty
  pub not-looked-up : constants_of (view base (constant_tables 1 (constant_row 0x0E 0 0)) [] (3 ∷ q "abc")) ≡ some (some [] ∷ [])
  pub no-heap : constants_of (view base (constant_tables 1 (constant_row 0x0E 0 0)) [] []) ≡ some (some [] ∷ [])
  -- the type 0x010E is not that of a string: no constant is there, which is not the same as no table
  pub two_bytes : constants_of (view base (constant_tables 1 (constant_row 0x0E 1 1)) [] (0 ∷ 3 ∷ q "abc")) ≡ some []
  pub no_table : constants_of (view base (constant_tables 0 []) [] []) ≡ none

-- ---- The typelib

-- A TypeRef row whose name is at 1, a MemberRef row of it, and so many CustomAttribute rows, each its Parent, its Type and its Value.
unfoldable pub attribute_tables : ℕ → List ℕ → List ℕ
attribute_tables n rows =
    two_bytes 2 0x14 ++ 1 ∷ 0 ∷ 0 ∷ 0 ∷ 1 ∷ 0 ∷ 0 ∷ 0 ∷ n ∷ 0 ∷ 0 ∷ 0 ∷ 0 ∷ 0 ∷ 1 ∷ 0 ∷ 0 ∷ 0 ∷ 9 ∷ 0 ∷ 0 ∷ 0 ∷ 0 ∷ 0 ∷ rows

abbrev pub attribute_row : ℕ → ℕ → ℕ → List ℕ
attribute_row parent type index = parent ∷ 0 ∷ type ∷ 0 ∷ index ∷ 0 ∷ []

-- A value that yields nothing is at 0, and one with the text x at 1.
abbrev pub typelib_with : Text → ℕ → List ℕ → Option (Option Text)
typelib_with name n rows = typelib_of (view base (attribute_tables n rows) (0 ∷ name ++ 0 ∷ []) (0 ∷ 4 ∷ 1 ∷ 0 ∷ 1 ∷ q "x"))

pub record TypelibCases : Type 0 where
  -- the first row that qualifies decides, also where it yields nothing
  pub stops : typelib_with (q "GuidAttribute") 2 (attribute_row 0x0E 0x0B 0 ++ attribute_row 0x0E 0x0B 1) ≡ some none
  -- a parent that is no Assembly, a type that is no MemberRef, MemberRef row 0 and row 2 do not qualify; Assembly row 7 does
  pub passes :
      typelib_with (q "GuidAttribute") 5
      (attribute_row 0x2D 0x0B 0 ++ attribute_row 0x0E 0x0A 0 ++ attribute_row 0x0E 3 0 ++ attribute_row 0x0E 0x13 0 ++ attribute_row 0xEE 0x0B 1)
      ≡ some (some (q "x"))
  -- the name is neither longer nor shorter
  pub longer : typelib_with (q "GuidAttribute`1") 1 (attribute_row 0x0E 0x0B 1) ≡ some none
  pub shorter : typelib_with (q "Guid") 1 (attribute_row 0x0E 0x0B 1) ≡ some none
  -- the length is one plain byte, from 1 to 254
  pub longest : guid_text (1 ∷ 0 ∷ 254 ∷ replicate 254 0x61) ≡ some (replicate 254 0x61)
  pub null : guid_text (1 ∷ 0 ∷ 255 ∷ replicate 255 0x61) ≡ none
  pub empty : guid_text (1 ∷ 0 ∷ 0 ∷ []) ≡ none
  -- a prolog of one byte, another prolog, and a byte that lacks; more bytes than that are not looked at
  pub short : guid_text (1 ∷ []) ≡ none
  pub other : guid_text (1 ∷ 1 ∷ 1 ∷ q "x") ≡ none
  pub lacks : guid_text (1 ∷ 0 ∷ 2 ∷ q "x") ≡ none
  pub behind : guid_text (1 ∷ 0 ∷ 1 ∷ q "xyz") ≡ some (q "x")
