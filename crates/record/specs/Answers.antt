-- The answer of every call of the library, by the view and the call's arguments. A class is meant by its place in the record; a
-- method, generic or base type by its place in its class; a generic or parameter of a method by its place in the method; a module
-- reference, assembly reference or string constant by its place among them, and a part of a version by its place in that; all from 0.
use Rattle.std.specs.Prelude.{◌≡◌, List, ℕ, length, Ok, Err}
use Rattle.std.proofs.Math.Option.{Option, none, some}
use Rattle.std.proofs.Math.ListN.{get_elem?}
use Rattle.buffers.specs.Texts.{Text}
use Rattle.buffers.specs.Replies.{Reply, Answer, refused, refused_by, value, reply_says, name_or_5}
use Rattle.heaps.specs.Lookups.{name_or_why}
use Rattle.buffers.specs.declared.Refusal.{Refusal}
use Rattle.buffers.specs.declared.Refusal.TheVariants.{NoSuchRow}
use Rattle.tables.specs.Extents.{Walked, walk_by}
use Rattle.record.specs.View.{View, ClassLayout}
use Rattle.record.specs.Record.{Parameter, Method, Class, class_record}
use Rattle.record.specs.References.{Assembly, AssemblyReference, References, references}
use Rattle.header.specs.Stream.{Opened}

-- A value found by way of another; a refusal stands.
infixl 1 ◌⟫◌
abbrev pub ◌⟫◌ : {A B : Type 0} → Answer A → (A → Answer B) → Answer B
refused w ⟫ f = refused w
value a ⟫ f = f a

-- Refusals 1, 2 and 3 come before all others.
abbrev pub ready : Opened → Answer Unit
ready (Err why) = refused_by why
ready (Ok tt) = value tt

-- What stands at a place of a list: 4 past its end.
abbrev pub or_no_row : {A : Type 0} → Option A → Answer A
or_no_row none = refused_by NoSuchRow
or_no_row (some a) = value a

abbrev pub item : {A : Type 0} → List A → ℕ → Answer A
item l i = or_no_row (get_elem? l i)

-- The walk's entire reply, refusals included.
abbrev pub walk_answer : View → Walked
walk_answer v = walk_by v.sizes v.header v.size

-- Class c, method m of class c, parameter p of that method: as the class record has them.
abbrev pub the_classes : View → Answer (List Class)
the_classes v = ready v.header.answer ⟫ λ _. value (class_record v)

abbrev pub the_class : View → ℕ → Answer Class
the_class v c = the_classes v ⟫ λ l. item l c

abbrev pub the_method : View → ℕ → ℕ → Answer Method
the_method v c m = the_class v c ⟫ λ k. item k.methods m

abbrev pub the_parameter : View → ℕ → ℕ → ℕ → Answer Parameter
the_parameter v c m p = the_method v c m ⟫ λ k. item k.parameters p

-- What the assembly says of itself and of what it refers to: 4 where the Rust sets nothing.
abbrev pub the_references : View → Answer References
the_references v = ready v.header.answer ⟫ λ _. value (references v)

abbrev pub the_module_refs : View → Answer (List (Option Text))
the_module_refs v = the_references v ⟫ λ r. or_no_row r.module_refs

abbrev pub the_assembly : View → Answer Assembly
the_assembly v = the_references v ⟫ λ r. or_no_row r.assembly

abbrev pub the_assembly_refs : View → Answer (List AssemblyReference)
the_assembly_refs v = the_references v ⟫ λ r. or_no_row r.assembly_refs

abbrev pub the_assembly_ref : View → ℕ → Answer AssemblyReference
the_assembly_ref v i = the_assembly_refs v ⟫ λ l. item l i

abbrev pub the_constants : View → Answer (List (Option Text))
the_constants v = the_references v ⟫ λ r. or_no_row r.constants

-- The calls for a number.
unfoldable pub class_count : View → Answer ℕ
class_count v = the_classes v ⟫ λ l. value (length l)

unfoldable pub class_flags : View → ℕ → Answer ℕ
class_flags v c = the_class v c ⟫ λ k. value k.flags

-- Packing and size of class c (II.22.8): 4 where the class is not there, and where no row names it.
abbrev pub the_layout : View → ℕ → Answer ClassLayout
the_layout v c = the_class v c ⟫ λ k. or_no_row k.layout

unfoldable pub class_packing : View → ℕ → Answer ℕ
class_packing v c = the_layout v c ⟫ λ l. value l.packing

unfoldable pub class_size : View → ℕ → Answer ℕ
class_size v c = the_layout v c ⟫ λ l. value l.size

unfoldable pub generic_count : View → ℕ → Answer ℕ
generic_count v c = the_class v c ⟫ λ k. value (length k.generics)

unfoldable pub base_count : View → ℕ → Answer ℕ
base_count v c = the_class v c ⟫ λ k. value (length k.bases)

unfoldable pub method_count : View → ℕ → Answer ℕ
method_count v c = the_class v c ⟫ λ k. value (length k.methods)

unfoldable pub method_flags : View → ℕ → ℕ → Answer ℕ
method_flags v c m = the_method v c m ⟫ λ k. value k.flags

unfoldable pub method_generic_count : View → ℕ → ℕ → Answer ℕ
method_generic_count v c m = the_method v c m ⟫ λ k. value (length k.generics)

unfoldable pub parameter_count : View → ℕ → ℕ → Answer ℕ
parameter_count v c m = the_method v c m ⟫ λ k. value (length k.parameters)

unfoldable pub module_ref_count : View → Answer ℕ
module_ref_count v = the_module_refs v ⟫ λ l. value (length l)

unfoldable pub assembly_version : View → ℕ → Answer ℕ
assembly_version v p = the_assembly v ⟫ λ a. item a.version p

unfoldable pub assembly_ref_count : View → Answer ℕ
assembly_ref_count v = the_assembly_refs v ⟫ λ l. value (length l)

unfoldable pub assembly_ref_version : View → ℕ → ℕ → Answer ℕ
assembly_ref_version v i p = the_assembly_ref v i ⟫ λ a. item a.version p

unfoldable pub constant_count : View → Answer ℕ
constant_count v = the_constants v ⟫ λ l. value (length l)

-- The calls for a name. Only the names of classes, methods and generic parameters tell why they are missing.
unfoldable pub class_name : View → ℕ → Answer Text
class_name v c = the_class v c ⟫ λ k. name_or_why k.name

unfoldable pub generic_name : View → ℕ → ℕ → Answer Text
generic_name v c g = the_class v c ⟫ λ k. item k.generics g ⟫ name_or_why

unfoldable pub base_name : View → ℕ → ℕ → Answer Text
base_name v c b = the_class v c ⟫ λ k. item k.bases b

unfoldable pub method_name : View → ℕ → ℕ → Answer Text
method_name v c m = the_method v c m ⟫ λ k. name_or_why k.name

unfoldable pub method_generic_name : View → ℕ → ℕ → ℕ → Answer Text
method_generic_name v c m g = the_method v c m ⟫ λ k. item k.generics g ⟫ name_or_why

unfoldable pub return_type : View → ℕ → ℕ → Answer Text
return_type v c m = the_method v c m ⟫ λ k. name_or_5 k.returns

unfoldable pub parameter_type : View → ℕ → ℕ → ℕ → Answer Text
parameter_type v c m p = the_parameter v c m p ⟫ λ k. name_or_5 k.type

unfoldable pub parameter_name : View → ℕ → ℕ → ℕ → Answer Text
parameter_name v c m p = the_parameter v c m p ⟫ λ k. name_or_5 k.name

unfoldable pub module_name : View → Answer Text
module_name v = the_references v ⟫ λ r. or_no_row r.module_name ⟫ name_or_5

unfoldable pub module_ref_name : View → ℕ → Answer Text
module_ref_name v i = the_module_refs v ⟫ λ l. item l i ⟫ name_or_5

unfoldable pub assembly_name : View → Answer Text
assembly_name v = the_assembly v ⟫ λ a. name_or_5 a.name

unfoldable pub assembly_culture : View → Answer Text
assembly_culture v = the_assembly v ⟫ λ a. name_or_5 a.culture

unfoldable pub assembly_ref_name : View → ℕ → Answer Text
assembly_ref_name v i = the_assembly_ref v i ⟫ λ a. name_or_5 a.name

unfoldable pub assembly_ref_key : View → ℕ → Answer Text
assembly_ref_key v i = the_assembly_ref v i ⟫ λ a. name_or_5 a.key

unfoldable pub constant_value : View → ℕ → Answer Text
constant_value v i = the_constants v ⟫ λ l. item l i ⟫ name_or_5

unfoldable pub typelib : View → Answer Text
typelib v = the_references v ⟫ λ r. or_no_row r.typelib ⟫ name_or_5

-- Every call for a number, and every call for a name, with its arguments.
pub data NumberCall : Type 0 where
  ClassCount : NumberCall
  ClassFlags : ℕ → NumberCall
  ClassPacking : ℕ → NumberCall
  ClassSize : ℕ → NumberCall
  GenericCount : ℕ → NumberCall
  BaseCount : ℕ → NumberCall
  MethodCount : ℕ → NumberCall
  MethodFlags : ℕ → ℕ → NumberCall
  MethodGenericCount : ℕ → ℕ → NumberCall
  ParameterCount : ℕ → ℕ → NumberCall
  ModuleRefCount : NumberCall
  AssemblyVersion : ℕ → NumberCall
  AssemblyRefCount : NumberCall
  AssemblyRefVersion : ℕ → ℕ → NumberCall
  ConstantCount : NumberCall

pub data NameCall : Type 0 where
  ClassName : ℕ → NameCall
  GenericName : ℕ → ℕ → NameCall
  BaseName : ℕ → ℕ → NameCall
  MethodName : ℕ → ℕ → NameCall
  MethodGenericName : ℕ → ℕ → ℕ → NameCall
  ReturnType : ℕ → ℕ → NameCall
  ParameterType : ℕ → ℕ → ℕ → NameCall
  ParameterName : ℕ → ℕ → ℕ → NameCall
  ModuleName : NameCall
  ModuleRefName : ℕ → NameCall
  AssemblyName : NameCall
  AssemblyCulture : NameCall
  AssemblyRefName : ℕ → NameCall
  AssemblyRefKey : ℕ → NameCall
  ConstantValue : ℕ → NameCall
  Typelib : NameCall

abbrev pub number_answer : NumberCall → View → Answer ℕ
number_answer ClassCount v = class_count v
number_answer (ClassFlags c) v = class_flags v c
number_answer (ClassPacking c) v = class_packing v c
number_answer (ClassSize c) v = class_size v c
number_answer (GenericCount c) v = generic_count v c
number_answer (BaseCount c) v = base_count v c
number_answer (MethodCount c) v = method_count v c
number_answer (MethodFlags c m) v = method_flags v c m
number_answer (MethodGenericCount c m) v = method_generic_count v c m
number_answer (ParameterCount c m) v = parameter_count v c m
number_answer ModuleRefCount v = module_ref_count v
number_answer (AssemblyVersion p) v = assembly_version v p
number_answer AssemblyRefCount v = assembly_ref_count v
number_answer (AssemblyRefVersion i p) v = assembly_ref_version v i p
number_answer ConstantCount v = constant_count v

abbrev pub name_answer : NameCall → View → Answer Text
name_answer (ClassName c) v = class_name v c
name_answer (GenericName c g) v = generic_name v c g
name_answer (BaseName c b) v = base_name v c b
name_answer (MethodName c m) v = method_name v c m
name_answer (MethodGenericName c m g) v = method_generic_name v c m g
name_answer (ReturnType c m) v = return_type v c m
name_answer (ParameterType c m p) v = parameter_type v c m p
name_answer (ParameterName c m p) v = parameter_name v c m p
name_answer ModuleName v = module_name v
name_answer (ModuleRefName i) v = module_ref_name v i
name_answer AssemblyName v = assembly_name v
name_answer AssemblyCulture v = assembly_culture v
name_answer (AssemblyRefName i) v = assembly_ref_name v i
name_answer (AssemblyRefKey i) v = assembly_ref_key v i
name_answer (ConstantValue i) v = constant_value v i
name_answer Typelib v = typelib v

-- Refusals 1, 2 and 3 come before all others, in every call.
abbrev pub OpeningFirst : Type 0
OpeningFirst =
    (v : View) (why : Refusal) → v.header.answer ≡ Err why
    → ((call : NumberCall) → number_answer call v ≡ refused_by why) × ((call : NameCall) → name_answer call v ≡ refused_by why)

-- The promise of a call for a number: what its reply says is the answer. That of a call for a name is `Named` (buffers/Replies.antt).
abbrev pub Numbered : Answer ℕ → Reply → Type 0
Numbered a r = reply_says r ≡ a
