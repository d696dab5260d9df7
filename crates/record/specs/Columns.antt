-- The columns of the tables that the record and the references read (ECMA-335 II.22), by the index sizes and a row's bytes.
use Rattle.std.specs.Prelude.{List, ℕ, ◌+◌, take, get_or}
use Rattle.numbers.specs.Fixed.{le_at}
use Rattle.layouts.specs.Kinds.{the_module, type_ref, type_def, method_def, param, interface_impl, member_ref, constant, custom_attribute, class_layout, module_ref, type_spec, assembly, assembly_ref, nested_class, generic_param}
use Rattle.layouts.specs.Columns.{Two, columns_of, width_in, sum_of}
use Rattle.layouts.specs.declared.IndexSizes.{IndexSizes}

-- Column j, from 0, of a row of table k: the little-endian number that stands after the columns before it (`read_index`, `read_u16`, `read_u32`).
unfoldable pub column : ℕ → ℕ → IndexSizes → List ℕ → ℕ
column k j w r = le_at (width_in w (get_or (columns_of k) j Two)) r (sum_of (width_in w) (take j (columns_of k)))

-- TypeRef, II.22.38: ResolutionScope, TypeName, TypeNamespace.
abbrev pub ref_name : IndexSizes → List ℕ → ℕ
ref_name = column type_ref 1

abbrev pub ref_namespace : IndexSizes → List ℕ → ℕ
ref_namespace = column type_ref 2

-- TypeDef, II.22.37: Flags, TypeName, TypeNamespace, Extends, FieldList, MethodList.
abbrev pub type_flags : IndexSizes → List ℕ → ℕ
type_flags = column type_def 0

abbrev pub type_name : IndexSizes → List ℕ → ℕ
type_name = column type_def 1

abbrev pub type_namespace : IndexSizes → List ℕ → ℕ
type_namespace = column type_def 2

abbrev pub extends : IndexSizes → List ℕ → ℕ
extends = column type_def 3

abbrev pub method_list : IndexSizes → List ℕ → ℕ
method_list = column type_def 5

-- MethodDef, II.22.26: RVA, ImplFlags, Flags, Name, Signature, ParamList.
abbrev pub method_flags : IndexSizes → List ℕ → ℕ
method_flags = column method_def 2

abbrev pub method_name : IndexSizes → List ℕ → ℕ
method_name = column method_def 3

abbrev pub method_signature : IndexSizes → List ℕ → ℕ
method_signature = column method_def 4

abbrev pub param_list : IndexSizes → List ℕ → ℕ
param_list = column method_def 5

-- Param, II.22.33: Flags, Sequence, Name.
abbrev pub param_name : IndexSizes → List ℕ → ℕ
param_name = column param 2

-- InterfaceImpl, II.22.23: Class, Interface.
abbrev pub impl_class : IndexSizes → List ℕ → ℕ
impl_class = column interface_impl 0

abbrev pub impl_interface : IndexSizes → List ℕ → ℕ
impl_interface = column interface_impl 1

-- ClassLayout, II.22.8: PackingSize, ClassSize, Parent.
abbrev pub packing_size : IndexSizes → List ℕ → ℕ
packing_size = column class_layout 0

abbrev pub class_size : IndexSizes → List ℕ → ℕ
class_size = column class_layout 1

abbrev pub layout_parent : IndexSizes → List ℕ → ℕ
layout_parent = column class_layout 2

-- TypeSpec, II.22.39: Signature.
abbrev pub spec_signature : IndexSizes → List ℕ → ℕ
spec_signature = column type_spec 0

-- NestedClass, II.22.32: NestedClass, EnclosingClass.
abbrev pub nested : IndexSizes → List ℕ → ℕ
nested = column nested_class 0

abbrev pub enclosing : IndexSizes → List ℕ → ℕ
enclosing = column nested_class 1

-- GenericParam, II.22.20: Number, Flags, Owner, Name.
abbrev pub owner : IndexSizes → List ℕ → ℕ
owner = column generic_param 2

abbrev pub generic_name : IndexSizes → List ℕ → ℕ
generic_name = column generic_param 3

-- Module, II.22.30: Generation, Name, Mvid, EncId, EncBaseId.
abbrev pub module_name : IndexSizes → List ℕ → ℕ
module_name = column the_module 1

-- MemberRef, II.22.25: Class, Name, Signature.
abbrev pub member_class : IndexSizes → List ℕ → ℕ
member_class = column member_ref 0

-- Constant, II.22.9: Type, Parent, Value.
abbrev pub constant_type : IndexSizes → List ℕ → ℕ
constant_type = column constant 0

abbrev pub constant_value : IndexSizes → List ℕ → ℕ
constant_value = column constant 2

-- CustomAttribute, II.22.10: Parent, Type, Value.
abbrev pub attribute_parent : IndexSizes → List ℕ → ℕ
attribute_parent = column custom_attribute 0

abbrev pub attribute_type : IndexSizes → List ℕ → ℕ
attribute_type = column custom_attribute 1

abbrev pub attribute_value : IndexSizes → List ℕ → ℕ
attribute_value = column custom_attribute 2

-- ModuleRef, II.22.31: Name.
abbrev pub module_ref_name : IndexSizes → List ℕ → ℕ
module_ref_name = column module_ref 0

-- Assembly, II.22.2: HashAlgId, MajorVersion, MinorVersion, BuildNumber, RevisionNumber, Flags, PublicKey, Name, Culture.
abbrev pub assembly_version : ℕ → IndexSizes → List ℕ → ℕ
assembly_version part = column assembly (1 + part)

abbrev pub assembly_name : IndexSizes → List ℕ → ℕ
assembly_name = column assembly 7

abbrev pub assembly_culture : IndexSizes → List ℕ → ℕ
assembly_culture = column assembly 8

-- AssemblyRef, II.22.5: MajorVersion, MinorVersion, BuildNumber, RevisionNumber, Flags, PublicKeyOrToken, Name, Culture, HashValue.
abbrev pub assembly_ref_version : ℕ → IndexSizes → List ℕ → ℕ
assembly_ref_version part = column assembly_ref part

abbrev pub assembly_ref_key : IndexSizes → List ℕ → ℕ
assembly_ref_key = column assembly_ref 5

abbrev pub assembly_ref_name : IndexSizes → List ℕ → ℕ
assembly_ref_name = column assembly_ref 6
