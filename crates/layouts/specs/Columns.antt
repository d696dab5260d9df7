-- The columns of each table (ECMA-335 II.22), the bytes that an index takes (II.24.2.6), and the bytes of a row.
use Rattle.std.specs.Prelude.{Bool, false, cond, ◌||◌, List, [], ◌∷◌, ◌++◌, ℕ, ◌+◌, ◌*◌, ◌/◌, ◌-◌, ◌^◌, leb, eqb, get_or}
use Rattle.numbers.specs.Bits.{bit_at}
use Rattle.layouts.specs.declared.IndexSizes.{IndexSizes}
use Rattle.layouts.specs.Kinds.{the_module, type_ref, type_def, field, method_def, param, interface_impl, member_ref, decl_security}
use Rattle.layouts.specs.Kinds.{stand_alone_sig, event, property, module_ref, type_spec, assembly, assembly_ref, file}
use Rattle.layouts.specs.Kinds.{exported_type, manifest_resource, generic_param, method_spec, generic_param_constraint}

-- What a column holds: a number of two or four bytes, an index into a heap, an index into a table, or a coded index, which is one into
-- any of several tables (II.22, II.24.2.6).
pub data Column : Type 0 where
  Two : Column
  Four : Column
  String : Column
  Guid : Column
  Blob : Column
  TypeDef : Column
  Field : Column
  MethodDef : Column
  Param : Column
  Event : Column
  Property : Column
  ModuleRef : Column
  AssemblyRef : Column
  GenericParam : Column
  TypeDefOrRef : Column
  HasConstant : Column
  HasCustomAttribute : Column
  HasFieldMarshall : Column
  HasDeclSecurity : Column
  MemberRefParent : Column
  HasSemantics : Column
  MethodDefOrRef : Column
  MemberForwarded : Column
  Implementation : Column
  CustomAttributeType : Column
  ResolutionScope : Column
  TypeOrMethodDef : Column

-- The columns of each table, in the order of the tables' numbers (II.22; for the undocumented tables, the CLR's metadata model).
unfoldable pub tables : List (List Column)
tables =
    -- 0x00 Module, II.22.30: Generation, Name, Mvid, EncId, EncBaseId
    (Two ∷ String ∷ Guid ∷ Guid ∷ Guid ∷ []) ∷
    -- 0x01 TypeRef, II.22.38: ResolutionScope, TypeName, TypeNamespace
    (ResolutionScope ∷ String ∷ String ∷ []) ∷
    -- 0x02 TypeDef, II.22.37: Flags, TypeName, TypeNamespace, Extends, FieldList, MethodList
    (Four ∷ String ∷ String ∷ TypeDefOrRef ∷ Field ∷ MethodDef ∷ []) ∷
    -- 0x03 FieldPtr, undocumented: Field
    (Field ∷ []) ∷
    -- 0x04 Field, II.22.15: Flags, Name, Signature
    (Two ∷ String ∷ Blob ∷ []) ∷
    -- 0x05 MethodPtr, undocumented: Method
    (MethodDef ∷ []) ∷
    -- 0x06 MethodDef, II.22.26: RVA, ImplFlags, Flags, Name, Signature, ParamList
    (Four ∷ Two ∷ Two ∷ String ∷ Blob ∷ Param ∷ []) ∷
    -- 0x07 ParamPtr, undocumented: Param
    (Param ∷ []) ∷
    -- 0x08 Param, II.22.33: Flags, Sequence, Name
    (Two ∷ Two ∷ String ∷ []) ∷
    -- 0x09 InterfaceImpl, II.22.23: Class, Interface
    (TypeDef ∷ TypeDefOrRef ∷ []) ∷
    -- 0x0A MemberRef, II.22.25: Class, Name, Signature
    (MemberRefParent ∷ String ∷ Blob ∷ []) ∷
    -- 0x0B Constant, II.22.9: Type (one byte, and one of padding), Parent, Value
    (Two ∷ HasConstant ∷ Blob ∷ []) ∷
    -- 0x0C CustomAttribute, II.22.10: Parent, Type, Value
    (HasCustomAttribute ∷ CustomAttributeType ∷ Blob ∷ []) ∷
    -- 0x0D FieldMarshal, II.22.17: Parent, NativeType
    (HasFieldMarshall ∷ Blob ∷ []) ∷
    -- 0x0E DeclSecurity, II.22.11: Action, Parent, PermissionSet
    (Two ∷ HasDeclSecurity ∷ Blob ∷ []) ∷
    -- 0x0F ClassLayout, II.22.8: PackingSize, ClassSize, Parent
    (Two ∷ Four ∷ TypeDef ∷ []) ∷
    -- 0x10 FieldLayout, II.22.16: Offset, Field
    (Four ∷ Field ∷ []) ∷
    -- 0x11 StandAloneSig, II.22.36: Signature
    (Blob ∷ []) ∷
    -- 0x12 EventMap, II.22.12: Parent, EventList
    (TypeDef ∷ Event ∷ []) ∷
    -- 0x13 EventPtr, undocumented: Event
    (Event ∷ []) ∷
    -- 0x14 Event, II.22.13: EventFlags, Name, EventType
    (Two ∷ String ∷ TypeDefOrRef ∷ []) ∷
    -- 0x15 PropertyMap, II.22.35: Parent, PropertyList
    (TypeDef ∷ Property ∷ []) ∷
    -- 0x16 PropertyPtr, undocumented: Property
    (Property ∷ []) ∷
    -- 0x17 Property, II.22.34: Flags, Name, Type
    (Two ∷ String ∷ Blob ∷ []) ∷
    -- 0x18 MethodSemantics, II.22.28: Semantics, Method, Association
    (Two ∷ MethodDef ∷ HasSemantics ∷ []) ∷
    -- 0x19 MethodImpl, II.22.27: Class, MethodBody, MethodDeclaration
    (TypeDef ∷ MethodDefOrRef ∷ MethodDefOrRef ∷ []) ∷
    -- 0x1A ModuleRef, II.22.31: Name
    (String ∷ []) ∷
    -- 0x1B TypeSpec, II.22.39: Signature
    (Blob ∷ []) ∷
    -- 0x1C ImplMap, II.22.22: MappingFlags, MemberForwarded, ImportName, ImportScope
    (Two ∷ MemberForwarded ∷ String ∷ ModuleRef ∷ []) ∷
    -- 0x1D FieldRVA, II.22.18: RVA, Field
    (Four ∷ Field ∷ []) ∷
    -- 0x1E EncLog, undocumented: Token, FuncCode
    (Four ∷ Four ∷ []) ∷
    -- 0x1F EncMap, undocumented: Token
    (Four ∷ []) ∷
    -- 0x20 Assembly, II.22.2: HashAlgId, MajorVersion, MinorVersion, BuildNumber, RevisionNumber, Flags, PublicKey, Name, Culture
    (Four ∷ Two ∷ Two ∷ Two ∷ Two ∷ Four ∷ Blob ∷ String ∷ String ∷ []) ∷
    -- 0x21 AssemblyProcessor, II.22.4: Processor
    (Four ∷ []) ∷
    -- 0x22 AssemblyOS, II.22.3: OSPlatformID, OSMajorVersion, OSMinorVersion
    (Four ∷ Four ∷ Four ∷ []) ∷
    -- 0x23 AssemblyRef, II.22.5: MajorVersion, MinorVersion, BuildNumber, RevisionNumber, Flags, PublicKeyOrToken, Name, Culture, HashValue
    (Two ∷ Two ∷ Two ∷ Two ∷ Four ∷ Blob ∷ String ∷ String ∷ Blob ∷ []) ∷
    -- 0x24 AssemblyRefProcessor, II.22.7: Processor, AssemblyRef
    (Four ∷ AssemblyRef ∷ []) ∷
    -- 0x25 AssemblyRefOS, II.22.6: OSPlatformId, OSMajorVersion, OSMinorVersion, AssemblyRef
    (Four ∷ Four ∷ Four ∷ AssemblyRef ∷ []) ∷
    -- 0x26 File, II.22.19: Flags, Name, HashValue
    (Four ∷ String ∷ Blob ∷ []) ∷
    -- 0x27 ExportedType, II.22.14: Flags, TypeDefId, TypeName, TypeNamespace, Implementation
    (Four ∷ Four ∷ String ∷ String ∷ Implementation ∷ []) ∷
    -- 0x28 ManifestResource, II.22.24: Offset, Flags, Name, Implementation
    (Four ∷ Four ∷ String ∷ Implementation ∷ []) ∷
    -- 0x29 NestedClass, II.22.32: NestedClass, EnclosingClass
    (TypeDef ∷ TypeDef ∷ []) ∷
    -- 0x2A GenericParam, II.22.20: Number, Flags, Owner, Name
    (Two ∷ Two ∷ TypeOrMethodDef ∷ String ∷ []) ∷
    -- 0x2B MethodSpec, II.22.29: Method, Instantiation
    (MethodDefOrRef ∷ Blob ∷ []) ∷
    -- 0x2C GenericParamConstraint, II.22.21: Owner, Constraint
    (GenericParam ∷ TypeDefOrRef ∷ []) ∷
    []

-- The columns of a table; none for a number that is no known table's.
abbrev pub columns_of : ℕ → List Column
columns_of k = get_or tables k []

-- Whether some table of ts has n rows or more. cs are the row counts of all tables, by their numbers.
unfoldable pub reaches : List ℕ → ℕ → List ℕ → Bool
reaches cs n [] = false
reaches cs n (t ∷ ts) = leb n (get_or cs t 0) || reaches cs n ts

-- An index into any of the tables ts, with so many bits of tag (II.24.2.6): 4 bytes once one of them has more rows than the rest of 16
-- bits can number, that is 2 ^ (16 - bits) or more; else 2. An index into one table has no tag.
unfoldable pub index_size : List ℕ → ℕ → List ℕ → ℕ
index_size cs bits ts = cond (reaches cs (2 ^ (16 - bits)) ts) 4 2

-- An index into a heap (II.24.2.6): 4 bytes where bit k of the heap sizes is set, else 2.
unfoldable pub heap_size : ℕ → ℕ → ℕ
heap_size heap k = cond (eqb (bit_at heap k) 1) 4 2

-- The tables of the coded index HasCustomAttribute, in the order of their tags (II.24.2.6). The standard has DeclSecurity among them,
-- under the name Permission; the Rust does not. decl says whether it counts.
unfoldable pub has_custom_attribute : Bool → List ℕ
has_custom_attribute decl =
    (method_def ∷ field ∷ type_ref ∷ type_def ∷ param ∷ interface_impl ∷ member_ref ∷ the_module ∷ [])
    ++ cond decl (decl_security ∷ []) []
    ++ (property ∷ event ∷ stand_alone_sig ∷ module_ref ∷ type_spec ∷ assembly ∷ assembly_ref ∷ file ∷ exported_type ∷ manifest_resource ∷
    generic_param ∷ generic_param_constraint ∷ method_spec ∷ [])

-- The size of every index (II.24.2.6): into the heaps, by their bits of the heap sizes; into a table; and each coded index, with its
-- bits of tag, and its tables in the order of their tags.
unfoldable pub index_sizes : Bool → ℕ → List ℕ → IndexSizes
index_sizes decl heap cs =
    record {
      string = heap_size heap 0;
      guid = heap_size heap 1;
      blob = heap_size heap 2;
      type_def = index_size cs 0 (type_def ∷ []);
      field = index_size cs 0 (field ∷ []);
      method_def = index_size cs 0 (method_def ∷ []);
      param = index_size cs 0 (param ∷ []);
      event = index_size cs 0 (event ∷ []);
      property = index_size cs 0 (property ∷ []);
      module_ref = index_size cs 0 (module_ref ∷ []);
      assembly_ref = index_size cs 0 (assembly_ref ∷ []);
      generic_param = index_size cs 0 (generic_param ∷ []);
      type_def_or_ref = index_size cs 2 (type_def ∷ type_ref ∷ type_spec ∷ []);
      has_constant = index_size cs 2 (field ∷ param ∷ property ∷ []);
      has_custom_attribute = index_size cs 5 (has_custom_attribute decl);
      has_field_marshall = index_size cs 1 (field ∷ param ∷ []);
      has_decl_security = index_size cs 2 (type_def ∷ method_def ∷ assembly ∷ []);
      member_ref_parent = index_size cs 3 (type_def ∷ type_ref ∷ module_ref ∷ method_def ∷ type_spec ∷ []);
      has_semantics = index_size cs 1 (event ∷ property ∷ []);
      method_def_or_ref = index_size cs 1 (method_def ∷ member_ref ∷ []);
      member_forwarded = index_size cs 1 (field ∷ method_def ∷ []);
      implementation = index_size cs 2 (file ∷ assembly_ref ∷ exported_type ∷ []);
      custom_attribute_type = index_size cs 3 (method_def ∷ member_ref ∷ []);
      resolution_scope = index_size cs 2 (the_module ∷ module_ref ∷ assembly_ref ∷ type_ref ∷ []);
      type_or_method_def = index_size cs 1 (type_def ∷ method_def ∷ []);
    }

-- The bytes that a column takes.
abbrev pub width_in : IndexSizes → Column → ℕ
width_in w Two = 2
width_in w Four = 4
width_in w String = w.string
width_in w Guid = w.guid
width_in w Blob = w.blob
width_in w TypeDef = w.type_def
width_in w Field = w.field
width_in w MethodDef = w.method_def
width_in w Param = w.param
width_in w Event = w.event
width_in w Property = w.property
width_in w ModuleRef = w.module_ref
width_in w AssemblyRef = w.assembly_ref
width_in w GenericParam = w.generic_param
width_in w TypeDefOrRef = w.type_def_or_ref
width_in w HasConstant = w.has_constant
width_in w HasCustomAttribute = w.has_custom_attribute
width_in w HasFieldMarshall = w.has_field_marshall
width_in w HasDeclSecurity = w.has_decl_security
width_in w MemberRefParent = w.member_ref_parent
width_in w HasSemantics = w.has_semantics
width_in w MethodDefOrRef = w.method_def_or_ref
width_in w MemberForwarded = w.member_forwarded
width_in w Implementation = w.implementation
width_in w CustomAttributeType = w.custom_attribute_type
width_in w ResolutionScope = w.resolution_scope
width_in w TypeOrMethodDef = w.type_or_method_def

-- The setting of HasCustomAttribute, MemberRefParent and CustomAttributeType: bits 0, 1 and 2, set where the index has 4 bytes.
abbrev pub coded_setting : IndexSizes → ℕ
coded_setting w = w.has_custom_attribute / 4 + 2 * (w.member_ref_parent / 4) + 4 * (w.custom_attribute_type / 4)

-- The sum of what f gives for each column.
unfoldable pub sum_of : (Column → ℕ) → List Column → ℕ
sum_of f [] = 0
sum_of f (c ∷ cs) = f c + sum_of f cs

-- The bytes of a row, where f says those of a column: their sum (II.22). 0 for a number that is no known table's.
unfoldable pub row_size : (Column → ℕ) → ℕ → ℕ
row_size f k = sum_of f (columns_of k)
