-- Where the two modes of reading signatures agree. Two views that differ in the mode alone differ in a method's signature and its steps
-- alone, and these are the taker's in both where the taker is the only reader. Assumes nothing.
use mathlib.Core.Path.{◌≡◌, refl, sym, ap}
use mathlib.Core.Bool.{Bool, true, false}
use mathlib.Core.List.{List, [], ◌∷◌}
use mathlib.Core.Option.{Option, none, some}
use Prim.Native.Nat.{ℕ, ◌+◌, ◌-◌, ◌≤◌, ◌<◌}
use native.Mathlib.Omega.{arith}
use Rattle.numbers.proofs.Lists.{tabulate-item, tabulate-past, tabulate-same}
use Rattle.numbers.proofs.Pick.{by-lt}
use Rattle.buffers.specs.Texts.{Text}
use Rattle.buffers.specs.Replies.{value}
use Rattle.header.specs.Stream.{Opened, opened}
use Rattle.layouts.specs.Kinds.{param}
use Rattle.layouts.specs.declared.IndexSizes.{IndexSizes}
use Rattle.record.specs.Missing.{over, or_default}
use Rattle.record.specs.Columns as columns
use Rattle.record.specs.View.{View, other_row, view_of, view}
use Rattle.record.specs.Names.{indexed, number_in, name_in, classes, class_row, method_row, class_full_name, class_named, ref_full_name, spec_blob, type_in, type_name_in, type_steps_in, base_indices, base_types, base_steps}
use Rattle.record.specs.Methods as methods
use Rattle.record.specs.Methods.{left_after, signature_blob, reading, read_by, read_steps, signature_in, steps_in, param_text}
use Rattle.record.specs.Record.{parameters_from, method, class, class_record}
use Rattle.record.specs.References.{entire_rows, entire_table, module_of, assembly_in, assembly_of, module_refs_of, assembly_ref_in, assembly_refs_of, constant_text, constant_in, constants_of, tagged, attribute_name, is_typelib, typelib_in, typelib_of, references}
use Rattle.record.specs.Answers.{◌⟫◌, ready, item, the_method}
use Rattle.record.specs.Answers.{NumberCall, ClassCount, ClassFlags, ClassPacking, ClassSize, GenericCount, BaseCount, MethodCount, MethodFlags, MethodGenericCount, ParameterCount, ModuleRefCount, AssemblyVersion, AssemblyRefCount, AssemblyRefVersion, ConstantCount, class_count, class_flags, class_packing, class_size, generic_count, base_count, method_count, method_flags, method_generic_count, parameter_count, module_ref_count, assembly_version, assembly_ref_count, assembly_ref_version, constant_count}
use Rattle.record.specs.Answers.{NameCall, ClassName, GenericName, BaseName, MethodName, MethodGenericName, ReturnType, ParameterType, ParameterName, ModuleName, ModuleRefName, AssemblyName, AssemblyCulture, AssemblyRefName, AssemblyRefKey, ConstantValue, Typelib, class_name, generic_name, base_name, method_name, method_generic_name, return_type, parameter_type, parameter_name, module_name, module_ref_name, assembly_name, assembly_culture, assembly_ref_name, assembly_ref_key, constant_value, typelib}
use Rattle.record.specs.Allowance.{base_work, method_work, number_charged, name_charged}
use Rattle.record.specs.Modes.{InOrder, Agree, ModesAgree}
use Rattle.record.proofs.Readers.{signature-alone, steps-alone}
use Rattle.std.specs.Prelude.{Ok, Err}

-- A view, but in that mode.
abbrev view_in_mode : Bool → View → View
view_in_mode b v =
    record {
      header = v.header;
      size = v.size;
      sizes = v.sizes;
      taker = b;
      row = v.row;
      generics = v.generics;
      interfaces = v.interfaces;
      layout = v.layout;
      namespace = v.namespace;
      strings = v.strings;
      blob = v.blob;
    }

-- Two values that are the same for a method that is listed are so as answers about any: of others they are not told.
of-listed : {A : Type 0} (v : View) (c m : ℕ) {x y : A} → (c < classes v → left_after v c + m < left_after v (c + 1) → x ≡ y)
    → (the_method v c m ⟫ (λ _. value x)) ≡ (the_method v c m ⟫ (λ _. value y))
unfolding class_record class
of-listed v c m {x} {y} e = go v.header.answer
  where
    go : (a : Opened) → (ready a ⟫ (λ _. value (class_record v)) ⟫ (λ l. item l c) ⟫ (λ k. item k.methods m) ⟫ (λ _. value x))
        ≡ (ready a ⟫ (λ _. value (class_record v)) ⟫ (λ l. item l c) ⟫ (λ k. item k.methods m) ⟫ (λ _. value y))
    go (Err why) = refl
    go (Ok tt) =
        by-lt c (classes v)
        (λ h.
        by-lt m (left_after v (c + 1) - left_after v c)
        (λ k. ap (λ a. item (class_record v) c ⟫ (λ d. item d.methods m) ⟫ (λ _. value a)) (e h (omega arith)))
        (λ k.
        let z : 0 + c ≡ c = omega arith in
        rw (tabulate-item (class v) 0 (classes v) c h, z, tabulate-past (method v c) (left_after v c) (left_after v (c + 1) - left_after v c) m k)))
        (λ h. rw (tabulate-past (class v) 0 (classes v) c h))

module _ (v : View) where
  abbrev old : View
  old = view_in_mode false v

  abbrev new : View
  new = view_in_mode true v

  -- What does not read the mode is the same by what it is defined as, but for definitions by cases.
  name-same : (col : IndexSizes → List ℕ → ℕ) (r : Option (List ℕ)) → name_in new col r ≡ name_in old col r
  name-same col none = refl
  name-same col (some r) = refl

  param-same : (i : ℕ) (r : Option (List ℕ)) → param_text new i r ≡ param_text old i r
  param-same i none = refl
  param-same i (some r) = refl

  parameters-same : (m i : ℕ) (l : List (Option Text)) → parameters_from new m i l ≡ parameters_from old m i l
  unfolding methods.parameter_name
  parameters-same m i [] = refl
  parameters-same m i (t ∷ l) = rw (param-same i (indexed v param (number_in v columns.param_list (method_row v m) + i)), parameters-same m (i + 1) l)

  references-same : references new ≡ references old
  unfolding references module_of module_refs_of assembly_of assembly_in assembly_refs_of assembly_ref_in constants_of constant_in constant_text typelib_of typelib_in is_typelib attribute_name tagged entire_table entire_rows
  references-same = refl

  module _ (order : InOrder old) where
    module _ (c m : ℕ) (h : c < classes old) (lo : left_after old c ≤ m) (hi : m < left_after old (c + 1)) where
      signature-same : signature_in new c m ≡ signature_in old c m
      unfolding signature_in read_by reading signature_blob class_full_name ref_full_name spec_blob
      signature-same = sym (signature-alone old order m c h lo hi)

      steps-same : steps_in new c m ≡ steps_in old c m
      unfolding steps_in read_steps reading signature_blob class_full_name ref_full_name spec_blob
      steps-same = sym (steps-alone old order m c h lo hi)

      method-same : method new c m ≡ method old c m
      unfolding method
      method-same =
          rw (signature-same, name-same columns.method_name (method_row v m), parameters-same m 0 (or_default [] (over (λ s. s.parameters) (signature_in old c m))))

    methods-same : (c : ℕ) → c < classes old → (class new c).methods ≡ (class old c).methods
    unfolding class left_after classes
    methods-same c h =
        tabulate-same (method new c) (method old c) (left_after old c) (left_after old (c + 1) - left_after old c) (λ m lo hi. method-same c m h lo (omega arith))

    class_same : (c : ℕ) → c < classes old → class new c ≡ class old c
    unfolding class class_named class_full_name ref_full_name spec_blob base_types type_name_in type_in base_indices
    class_same c h = rw (name-same columns.type_name (class_row v c), methods-same c h)

    record_same : class_record new ≡ class_record old
    unfolding class_record classes
    record_same = tabulate-same (class new) (class old) 0 (classes old) (λ c _ hi. class_same c (omega arith))

    base-work : (c : ℕ) → base_work new c ≡ base_work old c
    unfolding base_work base_steps type_steps_in type_in base_indices class_full_name ref_full_name spec_blob
    base-work c = rw record_same

    method-work : (c m : ℕ) → method_work new c m ≡ method_work old c m
    unfolding method_work left_after classes
    method-work c m = rw record_same (of-listed old c m (λ h k. steps-same c (left_after old c + m) h (omega arith) k))

    numbers-same : (call : NumberCall) (allowance : ℕ) → number_charged call new allowance ≡ number_charged call old allowance
    unfolding class_count class_flags class_packing class_size generic_count base_count method_count method_flags method_generic_count parameter_count module_ref_count assembly_version assembly_ref_count assembly_ref_version constant_count
    numbers-same ClassCount n = rw record_same
    numbers-same (ClassFlags c) n = rw record_same
    numbers-same (ClassPacking c) n = rw record_same
    numbers-same (ClassSize c) n = rw record_same
    numbers-same (GenericCount c) n = rw record_same
    numbers-same (BaseCount c) n = rw (base-work c, record_same)
    numbers-same (MethodCount c) n = rw record_same
    numbers-same (MethodFlags c m) n = rw record_same
    numbers-same (MethodGenericCount c m) n = rw record_same
    numbers-same (ParameterCount c m) n = rw (method-work c m, record_same)
    numbers-same ModuleRefCount n = rw references-same
    numbers-same (AssemblyVersion p) n = rw references-same
    numbers-same AssemblyRefCount n = rw references-same
    numbers-same (AssemblyRefVersion i p) n = rw references-same
    numbers-same ConstantCount n = rw references-same

    names_same : (call : NameCall) (allowance : ℕ) → name_charged call new allowance ≡ name_charged call old allowance
    unfolding class_name generic_name base_name method_name method_generic_name return_type parameter_type parameter_name module_name module_ref_name assembly_name assembly_culture assembly_ref_name assembly_ref_key constant_value typelib
    names_same (ClassName c) n = rw record_same
    names_same (GenericName c g) n = rw record_same
    names_same (BaseName c b) n = rw (base-work c, record_same)
    names_same (MethodName c m) n = rw record_same
    names_same (MethodGenericName c m g) n = rw record_same
    names_same (ReturnType c m) n = rw (method-work c m, record_same)
    names_same (ParameterType c m p) n = rw (method-work c m, record_same)
    names_same (ParameterName c m p) n = rw (method-work c m, record_same)
    names_same ModuleName n = rw references-same
    names_same (ModuleRefName i) n = rw references-same
    names_same AssemblyName n = rw references-same
    names_same AssemblyCulture n = rw references-same
    names_same (AssemblyRefName i) n = rw references-same
    names_same (AssemblyRefKey i) n = rw references-same
    names_same (ConstantValue i) n = rw references-same
    names_same Typelib n = rw references-same

    agree : Agree old new
    agree = record { record_same = record_same; walk_same = refl; numbers-same = numbers-same; names_same = names_same }

pub modes-agree : ModesAgree
unfolding view_of opened other_row
modes-agree o t strings blob order = agree (view o t strings blob) order
