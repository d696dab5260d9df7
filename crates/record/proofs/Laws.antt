-- What callers cite of the record and of the answers. Assumes nothing.
use mathlib.Core.Path.{◌≡◌, refl, ap, ◌∙◌}
use mathlib.Core.Bool.{cond}
use mathlib.Core.List.{List}
use mathlib.Core.Option.{none, some}
use Prim.Native.Nat.{ℕ, ◌+◌, ◌≤◌, ◌<◌}
use native.Mathlib.Omega.{arith}
use lib.Dec.{ltb}
use lib.ListN.{length, get_or}
use Rattle.buffers.specs.declared.Refusal.TheVariants.{NoSuchRow}
use Rattle.numbers.proofs.Lists.{tabulate-length, table_at, tabulate-item, tabulate-past}
use Rattle.tables.specs.Extents.{sizes_in, walk_by, walk_of, extent_by, kept_by}
use Rattle.header.specs.declared.Options.{Options}
use Rattle.header.specs.Stream.{Opening}
use Rattle.record.specs.Rows.{row_bytes}
use Rattle.record.specs.View.{View, view, view_of, is_side, other_row, ViewBySizes}
use Rattle.record.specs.Names.{classes}
use Rattle.record.specs.Record.{Class, class, class_record}
use Rattle.buffers.specs.Replies.{refused_by, value}
use Rattle.record.specs.Answers.{◌⟫◌, ready, or_no_row, item, walk_answer, the_class, NumberCall, NameCall, ClassCount, ClassFlags, ClassPacking, ClassSize, GenericCount, BaseCount, MethodCount, MethodFlags, MethodGenericCount, ParameterCount, ClassName, GenericName, BaseName, MethodName, MethodGenericName, ReturnType, ParameterType, ParameterName, ModuleRefCount, AssemblyVersion, AssemblyRefCount, AssemblyRefVersion, ConstantCount, ModuleName, ModuleRefName, AssemblyName, AssemblyCulture, AssemblyRefName, AssemblyRefKey, ConstantValue, Typelib, class_count, class_flags, class_packing, class_size, generic_count, base_count, method_count, method_flags, method_generic_count, parameter_count, class_name, generic_name, base_name, method_name, method_generic_name, return_type, parameter_type, parameter_name, module_ref_count, assembly_version, assembly_ref_count, assembly_ref_version, constant_count, module_name, module_ref_name, assembly_name, assembly_culture, assembly_ref_name, assembly_ref_key, constant_value, typelib, number_answer, name_answer, OpeningFirst}
use Rattle.std.specs.Prelude.{Ok}

-- What the options say of an opened stream, they say by the index sizes.
module _ (o p : Options) (h : Opening) (t : List ℕ) (e : sizes_in o h ≡ sizes_in p h) where
  rows-by : other_row o h t ≡ other_row p h t
  unfolding other_row
  rows-by = λ i k j. cond (is_side k) none (cond (ltb j (kept_by (e i) h (length t) k)) (some (row_bytes (extent_by (e i) h (length t) k) t j)) none)

pub view-by-sizes : ViewBySizes
unfolding view_of
view-by-sizes o p h t strings blob e m = rw (e, rows-by o p h t e, m)

-- The walk's answer is the walk's reply for the stream.
pub walk_is : (o : Options) (t strings blob : List ℕ) → walk_answer (view o t strings blob) ≡ walk_of o t
unfolding view_of walk_by
walk_is o t strings blob = refl

-- Entry c of the class record is class c.
pub record-length : (v : View) → length (class_record v) ≡ classes v
unfolding class_record
record-length v = tabulate-length (class v) 0 (classes v)

pub record-at : (v : View) (c : ℕ) (d : Class) → c < classes v → get_or (class_record v) c d ≡ class v c
unfolding class_record
record-at v c d h = table_at (class v) d (classes v) c h

-- A class that is asked for by its number: the class, or 4.
pub class-at : (v : View) (c : ℕ) → v.header.answer ≡ (Ok tt) → c < classes v → the_class v c ≡ value (class v c)
unfolding class_record
class-at v c r h =
    let z : 0 + c ≡ c = omega arith in
    ap (λ a. ready a ⟫ (λ _. value (class_record v)) ⟫ (λ l. item l c)) r
    ∙ ap or_no_row (tabulate-item (class v) 0 (classes v) c h)
    ∙ ap (λ k. value (class v k)) z

pub class-none : (v : View) (c : ℕ) → v.header.answer ≡ (Ok tt) → classes v ≤ c → the_class v c ≡ refused_by NoSuchRow
unfolding class_record
class-none v c r h =
    ap (λ a. ready a ⟫ (λ _. value (class_record v)) ⟫ (λ l. item l c)) r
    ∙ ap or_no_row (tabulate-past (class v) 0 (classes v) c h)

pub opening-first : OpeningFirst
unfolding class_count class_flags class_packing class_size generic_count base_count method_count method_flags method_generic_count parameter_count class_name generic_name base_name method_name method_generic_name return_type parameter_type parameter_name module_ref_count assembly_version assembly_ref_count assembly_ref_version constant_count module_name module_ref_name assembly_name assembly_culture assembly_ref_name assembly_ref_key constant_value typelib
opening-first v why e = (numbers, names)
  where
    numbers : (call : NumberCall) → number_answer call v ≡ refused_by why
    numbers ClassCount = rw e refl
    numbers (ClassFlags c) = rw e refl
    numbers (ClassPacking c) = rw e refl
    numbers (ClassSize c) = rw e refl
    numbers (GenericCount c) = rw e refl
    numbers (BaseCount c) = rw e refl
    numbers (MethodCount c) = rw e refl
    numbers (MethodFlags c m) = rw e refl
    numbers (MethodGenericCount c m) = rw e refl
    numbers (ParameterCount c m) = rw e refl
    numbers ModuleRefCount = rw e refl
    numbers (AssemblyVersion p) = rw e refl
    numbers AssemblyRefCount = rw e refl
    numbers (AssemblyRefVersion i p) = rw e refl
    numbers ConstantCount = rw e refl

    names : (call : NameCall) → name_answer call v ≡ refused_by why
    names (ClassName c) = rw e refl
    names (GenericName c g) = rw e refl
    names (BaseName c b) = rw e refl
    names (MethodName c m) = rw e refl
    names (MethodGenericName c m g) = rw e refl
    names (ReturnType c m) = rw e refl
    names (ParameterType c m p) = rw e refl
    names (ParameterName c m p) = rw e refl
    names ModuleName = rw e refl
    names (ModuleRefName i) = rw e refl
    names AssemblyName = rw e refl
    names AssemblyCulture = rw e refl
    names (AssemblyRefName i) = rw e refl
    names (AssemblyRefKey i) = rw e refl
    names (ConstantValue i) = rw e refl
    names Typelib = rw e refl
