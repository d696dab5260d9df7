-- The columns that are read, and where they stand in a row (ECMA-335 II.22).
use Rattle.std.specs.Prelude.{List, [], ◌∷◌, ℕ, length, take, get_or}
use Rattle.layouts.specs.declared.IndexSizes.{IndexSizes}
use Rattle.layouts.specs.Kinds.{the_module, type_ref, type_def, method_def, param, interface_impl, member_ref, constant, custom_attribute, class_layout, module_ref, type_spec, assembly, assembly_ref, nested_class, generic_param}
use Rattle.layouts.specs.Columns.{Two, columns_of, width_in, sum_of}

-- A column of a table, by the table's kind and the column's place in its rows, from 0.
pub record Of : Type 0 where
  pub kind : ℕ
  pub place : ℕ

abbrev of : ℕ → ℕ → Of
of k j = record { kind = k; place = j }

-- The columns that the record is read by, in the order of the numbers that the code has for them.
abbrev pub read_columns : List Of
read_columns =
    -- 0, 1  TypeRef, II.22.38: TypeName, TypeNamespace
    of type_ref 1 ∷ of type_ref 2 ∷
    -- 2 to 6  TypeDef, II.22.37: Flags, TypeName, TypeNamespace, Extends, MethodList
    of type_def 0 ∷ of type_def 1 ∷ of type_def 2 ∷ of type_def 3 ∷ of type_def 5 ∷
    -- 7 to 10  MethodDef, II.22.26: Flags, Name, Signature, ParamList
    of method_def 2 ∷ of method_def 3 ∷ of method_def 4 ∷ of method_def 5 ∷
    -- 11  Param, II.22.33: Name
    of param 2 ∷
    -- 12, 13  InterfaceImpl, II.22.23: Class, Interface
    of interface_impl 0 ∷ of interface_impl 1 ∷
    -- 14  TypeSpec, II.22.39: Signature
    of type_spec 0 ∷
    -- 15, 16  NestedClass, II.22.32: NestedClass, EnclosingClass
    of nested_class 0 ∷ of nested_class 1 ∷
    -- 17, 18  GenericParam, II.22.20: Owner, Name
    of generic_param 2 ∷ of generic_param 3 ∷
    -- 19 to 21  ClassLayout, II.22.8: PackingSize, ClassSize, Parent
    of class_layout 0 ∷ of class_layout 1 ∷ of class_layout 2 ∷ []

abbrev pub read_count : ℕ
read_count = length read_columns

abbrev pub read_column : ℕ → Of
read_column c = get_or read_columns c (of 0 0)

-- The columns that the references are read by (2026-03), in the same way.
abbrev pub reference_columns : List Of
reference_columns =
    -- 0  Module, II.22.30: Name
    of the_module 1 ∷
    -- 1  TypeRef, II.22.38: TypeName
    of type_ref 1 ∷
    -- 2  MemberRef, II.22.25: Class
    of member_ref 0 ∷
    -- 3, 4  Constant, II.22.9: Type, Value
    of constant 0 ∷ of constant 2 ∷
    -- 5 to 7  CustomAttribute, II.22.10: Parent, Type, Value
    of custom_attribute 0 ∷ of custom_attribute 1 ∷ of custom_attribute 2 ∷
    -- 8  ModuleRef, II.22.31: Name
    of module_ref 0 ∷
    -- 9 to 14  Assembly, II.22.2: MajorVersion, MinorVersion, BuildNumber, RevisionNumber, Name, Culture
    of assembly 1 ∷ of assembly 2 ∷ of assembly 3 ∷ of assembly 4 ∷ of assembly 7 ∷ of assembly 8 ∷
    -- 15 to 20  AssemblyRef, II.22.5: MajorVersion, MinorVersion, BuildNumber, RevisionNumber, PublicKeyOrToken, Name
    of assembly_ref 0 ∷ of assembly_ref 1 ∷ of assembly_ref 2 ∷ of assembly_ref 3 ∷ of assembly_ref 5 ∷ of assembly_ref 6 ∷ []

abbrev pub reference_count : ℕ
reference_count = length reference_columns

abbrev pub reference_column : ℕ → Of
reference_column c = get_or reference_columns c (of 0 0)

-- The bytes of a row before a column, and those of the column.
abbrev pub offset_in : IndexSizes → Of → ℕ
offset_in w c = sum_of (width_in w) (take c.place (columns_of c.kind))

abbrev pub bytes_in : IndexSizes → Of → ℕ
bytes_in w c = width_in w (get_or (columns_of c.kind) c.place Two)
