-- Which refusals tell a reason. An answer is followed from opening to the item that is asked for: what refuses on the way tells none.
-- Assumes nothing.
use mathlib.Core.Path.{◌≡◌, refl, sym, subst}
use mathlib.Core.Logic.{◌⊎◌, inl, inr, ◌≢◌}
use mathlib.Core.Bool.{Bool, true, false, true≢false}
use mathlib.Core.List.{List, [], ◌∷◌, ◌++◌}
use mathlib.Core.Option.{Option, none, some}
use Prim.Native.Nat.{ℕ, zero, suc, ◌+◌, ◌-◌, ◌*◌, ◌≤◌, ◌<◌}
use native.Mathlib.Omega.{arith}
use borrow.Author.Tests.{le-ltb}
use lib.Dec.{eqb, ltb}
use lib.ListN.{length, get_elem?}
use Rattle.numbers.specs.Fixed.{le_at}
use Rattle.numbers.specs.Bits.{bit_at, ones_below}
use Rattle.numbers.specs.Lists.{tabulate}
use Rattle.numbers.proofs.Pick.{pick}
use Rattle.buffers.specs.Texts.{Text}
use Rattle.buffers.specs.Replies.{Refused, Answer, refused, value, name_or_5}
use Rattle.buffers.specs.declared.Reason.{Reason}
use Rattle.heaps.specs.Lookups.{Part, before, string_at, part_number, part_reason, part_name, Name, found, missing, name, text_of, reason_of, string, name_or_why}
use Rattle.heaps.proofs.Lookups.{Reasoned, string-reasoned, blob-unreasoned, string-null, string-past, string-open, string-found, name-found, name-missing}
use Rattle.header.specs.Stream.{Opened, over_limit, row_count, opened, counts_end}
use Rattle.header.specs.declared.Options.{Options}
use Rattle.header.specs.Stream.{Opening}
use Rattle.layouts.specs.declared.IndexSizes.{IndexSizes}
use Rattle.layouts.specs.Columns.{tables, reaches, index_size, heap_size, has_custom_attribute, index_sizes, sum_of, row_size}
use Rattle.layouts.specs.Kinds.{method_def, generic_param}
use Rattle.tables.specs.Extents.{start_of, is_table, passes, stop_from, stop_kind, whole_rows, if_reached, walked, answered, walk_by, extent_by, only_entire, kept_by}
use Rattle.record.specs.Missing.{over}
use Rattle.record.specs.Columns as columns
use Rattle.record.specs.Rows.{of_key}
use Rattle.record.specs.Namespaces.{cut, full_name, name_of, own_namespace}
use Rattle.record.specs.View.{View, view, view_of, other_row, side_row, side_rows}
use Rattle.record.specs.Names.{name_in, named, rows_in, classes, class_index, class_row, method_index, method_row, class_full_name, class_named}
use Rattle.record.specs.Methods.{method_lists, left_after}
use Rattle.record.specs.Record.{Method, Class, method, class, class_record}
use Rattle.record.specs.References.{References, references}
use Rattle.record.specs.Answers.{◌⟫◌, ready, or_no_row, item, walk_answer, the_classes, the_class, the_layout, the_method, the_parameter, the_references, the_module_refs, the_assembly, the_assembly_refs, the_assembly_ref, the_constants, NumberCall, NameCall, ClassCount, ClassFlags, ClassPacking, ClassSize, GenericCount, BaseCount, MethodCount, MethodFlags, MethodGenericCount, ParameterCount, ClassName, GenericName, BaseName, MethodName, MethodGenericName, ReturnType, ParameterType, ParameterName, ModuleRefCount, AssemblyVersion, AssemblyRefCount, AssemblyRefVersion, ConstantCount, ModuleName, ModuleRefName, AssemblyName, AssemblyCulture, AssemblyRefName, AssemblyRefKey, ConstantValue, Typelib, class_count, class_flags, class_packing, class_size, generic_count, base_count, method_count, method_flags, method_generic_count, parameter_count, class_name, generic_name, base_name, method_name, method_generic_name, return_type, parameter_type, parameter_name, module_ref_count, assembly_version, assembly_ref_count, assembly_ref_version, constant_count, module_name, module_ref_name, assembly_name, assembly_culture, assembly_ref_name, assembly_ref_key, constant_value, typelib, number_answer, name_answer}
use Rattle.record.specs.Cases.{whole_tables, whole_strings}
use Rattle.record.specs.Reasons.{StringReasons, Told, LookupReasons, tells_reason, ReasonTold, ReasonUntold, OwnReason, NamesAgree, SmallestReasons}
use Rattle.record.proofs.Read.{class-row, method-row, left_le}
use Rattle.std.specs.Prelude.{Ok, Err}

-- ---- Lookups

pub string-reasons : StringReasons
string-reasons s i =
    record {
      null = λ e. name-missing s i (string-null s i e);
      past = λ n h. name-missing s i (string-past s i n h);
      unclosed = λ n h k. name-missing s i (string-open s i n h k);
      closed = λ n k. name-found s i (string-found s i n (omega arith) k _ refl);
    }

pub lookup-reasons : LookupReasons
lookup-reasons s i = (go (string_at s i) (string-reasoned s i), blob-unreasoned s i)
  where
    go : (p : Part) → Reasoned p → part_number p ≡ 7 → Told (part_reason p)
    go (Ok span) r e = absurd (omega arith)
    go (Err why) r e = r

-- ---- What answers tell

-- A refusal on the way to an item: its number is below 5, and it tells no reason.
abbrev Early : Refused → Type 0
Early w = (w.number < 5) × (w.reason ≡ 0)

-- An answer that is refused so; one that tells no reason; one that tells a reason beside 5, and none beside another number.
abbrev Quiet : {A : Type 0} → Answer A → Type 0
Quiet (refused w) = Early w
Quiet (value a) = Unit

abbrev Silent : {A : Type 0} → Answer A → Type 0
Silent (refused w) = w.reason ≡ 0
Silent (value a) = Unit

abbrev Clear : {A : Type 0} → Answer A → Type 0
Clear (refused w) = ((w.number ≡ 5) × Told w.reason) ⊎ ((w.number ≢ 5) × (w.reason ≡ 0))
Clear (value a) = Unit

-- Each item of a list.
abbrev Each : {A : Type 0} → (A → Type 0) → List A → Type 0
Each P [] = Unit
Each P (x ∷ l) = P x × Each P l

-- P holds of early refusals. Then it holds of an answer that is found by way of others, where it holds at the end of the way.
module _ {B : Type 0} (P : Answer B → Type 0) (early : (w : Refused) → Early w → P (refused w)) where
  says : {A : Type 0} (a : Answer A) (f : A → Answer B) → Quiet a → ((x : A) → P (f x)) → P (a ⟫ f)
  says (refused w) f e h = early w e
  says (value x) f e h = h x

  item-says : {A : Type 0} (f : A → Answer B) (l : List A) (i : ℕ) → Each (λ x. P (f x)) l → P (item l i ⟫ f)
  item-says f [] i e = early _ (omega arith, refl)
  item-says f (x ∷ l) zero e = e.0
  item-says f (x ∷ l) (suc i) e = item-says f l i e.1

  class-says : (v : View) (f : Class → Answer B) (c : ℕ) → Quiet (ready v.header.answer) → Each (λ k. P (f k)) (class_record v) → P (the_class v c ⟫ f)
  class-says v f c e h = go (ready v.header.answer) e
    where
      go : (a : Answer Unit) → Quiet a → P (a ⟫ (λ _. value (class_record v)) ⟫ (λ l. item l c) ⟫ f)
      go (refused w) q = early w q
      go (value x) q = item-says f (class_record v) c h

-- An answer that is found by way of two others.
pub in-turn : {A B D : Type 0} (a : Answer A) (f : A → Answer B) (g : B → Answer D) → (a ⟫ f ⟫ g) ≡ (a ⟫ (λ x. f x ⟫ g))
in-turn (refused w) f g = refl
in-turn (value x) f g = refl

row-quiet : {A : Type 0} (o : Option A) → Quiet (or_no_row o)
row-quiet none = (omega arith, refl)
row-quiet (some x) = tt

item-quiet : {A : Type 0} (l : List A) (i : ℕ) → Quiet (item l i)
item-quiet l i = row-quiet (get_elem? l i)

-- The answers on the way.
module _ (v : View) (opening : Quiet (ready v.header.answer)) where
  classes-quiet : Quiet (the_classes v)
  classes-quiet = says Quiet (λ w e. e) (ready v.header.answer) (λ _. value (class_record v)) opening (λ _. tt)

  class-quiet : (c : ℕ) → Quiet (the_class v c)
  class-quiet c = says Quiet (λ w e. e) (the_classes v) (λ l. item l c) classes-quiet (λ l. item-quiet l c)

  layout-quiet : (c : ℕ) → Quiet (the_layout v c)
  layout-quiet c = says Quiet (λ w e. e) (the_class v c) (λ k. or_no_row k.layout) (class-quiet c) (λ k. row-quiet k.layout)

  method-quiet : (c m : ℕ) → Quiet (the_method v c m)
  method-quiet c m = says Quiet (λ w e. e) (the_class v c) (λ k. item k.methods m) (class-quiet c) (λ k. item-quiet k.methods m)

  parameter-quiet : (c m p : ℕ) → Quiet (the_parameter v c m p)
  parameter-quiet c m p =
      says Quiet (λ w e. e) (the_method v c m) (λ k. item k.parameters p) (method-quiet c m) (λ k. item-quiet k.parameters p)

  references-quiet : Quiet (the_references v)
  references-quiet = says Quiet (λ w e. e) (ready v.header.answer) (λ _. value (references v)) opening (λ _. tt)

  -- One of the references that may not be there.
  set-quiet : {A : Type 0} (f : References → Option A) → Quiet (the_references v ⟫ (λ r. or_no_row (f r)))
  set-quiet f = says Quiet (λ w e. e) (the_references v) (λ r. or_no_row (f r)) references-quiet (λ r. row-quiet (f r))

  assembly-ref-quiet : (i : ℕ) → Quiet (the_assembly_ref v i)
  assembly-ref-quiet i = says Quiet (λ w e. e) (the_assembly_refs v) (λ l. item l i) (set-quiet (λ r. r.assembly_refs)) (λ l. item-quiet l i)

  numbers-quiet : (call : NumberCall) → Quiet (number_answer call v)
  unfolding class_count class_flags class_packing class_size generic_count base_count method_count method_flags method_generic_count parameter_count module_ref_count assembly_version assembly_ref_count assembly_ref_version constant_count
  numbers-quiet ClassCount = says Quiet (λ w e. e) (the_classes v) _ classes-quiet (λ _. tt)
  numbers-quiet (ClassFlags c) = says Quiet (λ w e. e) (the_class v c) _ (class-quiet c) (λ _. tt)
  numbers-quiet (ClassPacking c) = says Quiet (λ w e. e) (the_layout v c) _ (layout-quiet c) (λ _. tt)
  numbers-quiet (ClassSize c) = says Quiet (λ w e. e) (the_layout v c) _ (layout-quiet c) (λ _. tt)
  numbers-quiet (GenericCount c) = says Quiet (λ w e. e) (the_class v c) _ (class-quiet c) (λ _. tt)
  numbers-quiet (BaseCount c) = says Quiet (λ w e. e) (the_class v c) _ (class-quiet c) (λ _. tt)
  numbers-quiet (MethodCount c) = says Quiet (λ w e. e) (the_class v c) _ (class-quiet c) (λ _. tt)
  numbers-quiet (MethodFlags c m) = says Quiet (λ w e. e) (the_method v c m) _ (method-quiet c m) (λ _. tt)
  numbers-quiet (MethodGenericCount c m) = says Quiet (λ w e. e) (the_method v c m) _ (method-quiet c m) (λ _. tt)
  numbers-quiet (ParameterCount c m) = says Quiet (λ w e. e) (the_method v c m) _ (method-quiet c m) (λ _. tt)
  numbers-quiet ModuleRefCount = says Quiet (λ w e. e) (the_module_refs v) _ (set-quiet (λ r. r.module_refs)) (λ _. tt)
  numbers-quiet (AssemblyVersion p) = says Quiet (λ w e. e) (the_assembly v) _ (set-quiet (λ r. r.assembly)) (λ a. item-quiet a.version p)
  numbers-quiet AssemblyRefCount = says Quiet (λ w e. e) (the_assembly_refs v) _ (set-quiet (λ r. r.assembly_refs)) (λ _. tt)
  numbers-quiet (AssemblyRefVersion i p) = says Quiet (λ w e. e) (the_assembly_ref v i) _ (assembly-ref-quiet i) (λ a. item-quiet a.version p)
  numbers-quiet ConstantCount = says Quiet (λ w e. e) (the_constants v) _ (set-quiet (λ r. r.constants)) (λ _. tt)

quiet-silent : {A : Type 0} (a : Answer A) → Quiet a → Silent a
quiet-silent (refused w) e = e.1
quiet-silent (value x) e = tt

-- A text that is missing tells no reason.
text-silent : (o : Option Text) → Silent (name_or_5 o)
text-silent none = refl
text-silent (some t) = tt

-- Nor does one that is not there.
set_silent : (o : Option (Option Text)) → Silent (or_no_row o ⟫ name_or_5)
set_silent none = refl
set_silent (some o) = text-silent o

-- A string that was looked up tells the reason.
name-clear : (s : List ℕ) (i : ℕ) → Clear (name_or_why (name s i))
unfolding name
name-clear s i = go (string_at s i) (string-reasoned s i)
  where
    go : (p : Part) → Reasoned p → Clear (name_or_why (part_name s p))
    go (Ok span) r = tt
    go (Err why) r = inl (refl, r)

-- A class's own name, and what it is as part of the full name.
named-own : (space : Option Text) (n : Name) → Clear (name_or_why n) → Clear (name_or_why (named (full_name space (over cut (text_of n))) (reason_of n)))
unfolding full_name
named-own space (missing why) h = h
named-own none (found t) h = tt
named-own (some s) (found t) h = tt

-- Lists of which each item is known.
each_on : {A : Type 0} (P : A → Type 0) (l : List A) (x : A) → Each P l → P x → Each P (l ++ x ∷ [])
each_on P [] x e h = (h, tt)
each_on P (y ∷ l) x e h = (e.0, each_on P l x e.1 h)

each-key : {A : Type 0} (P : A → Type 0) (key : List ℕ → ℕ) (f : List ℕ → A) (row : ℕ → List ℕ) (n k : ℕ) → ((r : List ℕ) → P (f r))
    → Each P (of_key key f row n k)
each-key P key f row zero k h = tt
each-key P key f row (suc n) k h =
    let e = each-key P key f row n k h in
    pick (Each P) (eqb (key (row n)) k) (λ _. each_on P (of_key key f row n k) (f (row n)) e (h (row n))) (λ _. e)

each-table : {A : Type 0} (P : A → Type 0) (f : ℕ → A) (i n : ℕ) → ((k : ℕ) → i ≤ k → k < i + n → P (f k)) → Each P (tabulate f i n)
unfolding tabulate
each-table P f i zero h = tt
each-table P f i (suc n) h = (h i (omega arith) (omega arith), each-table P f (i + 1) n (λ k a b. h k (omega arith) (omega arith)))

found-missing : {t : Text} {why : Reason} → found t ≡ missing why → ⊥
found-missing e = let z : ◌≡◌ {A = ℕ} 0 1 = cc in absurd (omega arith)

-- ---- Of streams

-- The walk is refused as opening is.
stopped : (h : Opening) (w : IndexSizes) (n : ℕ) → Quiet (ready h.answer) → Quiet (walk_by w h n).stop
unfolding walk_by walked
stopped h w n q = go h.answer q
  where
    go : (a : Opened) → Quiet (ready a) → Quiet (answered a w h n).stop
    go (Ok tt) q = tt
    go (Err why) q = q

open-quiet : (o : Options) (t : List ℕ) → Quiet (ready (opened o t).answer)
unfolding opened
open-quiet o t =
    let P : Opening → Type 0 = λ h. Quiet (ready h.answer) in
    pick P (ltb (length t) 24) (λ _. (omega arith, refl))
    (λ _. pick P (ltb (length t) (counts_end t)) (λ _. (omega arith, refl))
    (λ _. pick P (over_limit o.limit t 64) (λ _. (omega arith, refl)) (λ _. tt)))

module _ (o : Options) (t strings blob : List ℕ) where
  abbrev v : View
  v = view o t strings blob

  opening : Quiet (ready v.header.answer)
  unfolding view_of
  opening = open-quiet o t

  own_name : (c : ℕ) → c < classes v → name_of v.sizes strings v.row (class_index c) ≡ over cut (text_of (name_in v columns.type_name (class_row v c)))
  unfolding name_of string view_of
  own_name c h =
      let e : c + 2 - 1 ≡ c + 1 = omega arith in
      rw (le-ltb (c + 2) 2 (omega arith), e, class-row o t strings blob c h)

  class-clear : (c : ℕ) → c < classes v → Clear (name_or_why (class_named v c))
  unfolding class_named class_full_name view_of
  class-clear c h =
      let n = name_in v columns.type_name (class_row v c) in
      rw (own_name c h) (named-own (v.namespace (class_index c)) n (rw (class-row o t strings blob c h) (name-clear strings _)))

  method-clear : (m : ℕ) → m < rows_in v method_def → Clear (name_or_why (name_in v columns.method_name (method_row v m)))
  unfolding view_of
  method-clear m h = rw (method-row o t strings blob m h) (name-clear strings _)

  generics-clear : (k : ℕ) → Each (λ n. Clear (name_or_why n)) (v.generics k)
  unfolding view_of
  generics-clear k =
      let w = v.sizes in
      each-key (λ n. Clear (name_or_why n)) (columns.owner w) (λ r. name strings (columns.generic_name w r)) (side_row o (opened o t) t generic_param)
      (side_rows o (opened o t) t generic_param) k (λ r. name-clear strings (columns.generic_name w r))

  clear-early : (w : Refused) → Early w → Clear {A = Text} (refused w)
  clear-early w e = inr (λ q. omega (arith, e.0), e.1)

  -- What is asked of a class, of a method, and of a generic parameter.
  at-class : (f : Class → Answer Text) → ((c : ℕ) → c < classes v → Clear (f (class v c))) → (c : ℕ) → Clear (the_class v c ⟫ f)
  unfolding class_record
  at-class f h c =
      class-says Clear clear-early v f c opening (each-table (λ k. Clear (f k)) (class v) 0 (classes v) (λ d a b. h d (omega arith)))

  at-method : (f : Method → Answer Text) → ((d m : ℕ) → m < rows_in v method_def → Clear (f (method v d m))) → (c m : ℕ) → Clear (the_method v c m ⟫ f)
  unfolding class left_after
  at-method f h c m =
      rw (in-turn (the_class v c) (λ k. item k.methods m) f)
      (at-class (λ k. item k.methods m ⟫ f) (λ d _. item-says Clear clear-early f (class v d).methods m
      (each-table (λ k. Clear (f k)) (method v d) (left_after v d) (left_after v (d + 1) - left_after v d)
      (λ i a b. h d i (omega (arith, left_le (rows_in v method_def) (method_lists v (d + 1) (classes v - (d + 1)))))))) c)

  at_generic : (k g : ℕ) → Clear (item (v.generics k) g ⟫ name_or_why)
  at_generic k g = item-says Clear clear-early name_or_why (v.generics k) g (generics-clear k)

  names-clear : (call : NameCall) → tells_reason call ≡ true → Clear (name_answer call v)
  unfolding class_name generic_name method_name method_generic_name class method
  names-clear (ClassName c) e = at-class (λ k. name_or_why k.name) class-clear c
  names-clear (GenericName c g) e = at-class (λ k. item k.generics g ⟫ name_or_why) (λ d _. at_generic (2 * class_index d) g) c
  names-clear (BaseName c b) e = absurd (true≢false (sym e))
  names-clear (MethodName c m) e = at-method (λ k. name_or_why k.name) (λ _. method-clear) c m
  names-clear (MethodGenericName c m g) e = at-method (λ k. item k.generics g ⟫ name_or_why) (λ _ n _. at_generic (2 * method_index n + 1) g) c m
  names-clear (ReturnType c m) e = absurd (true≢false (sym e))
  names-clear (ParameterType c m p) e = absurd (true≢false (sym e))
  names-clear (ParameterName c m p) e = absurd (true≢false (sym e))
  names-clear ModuleName e = absurd (true≢false (sym e))
  names-clear (ModuleRefName i) e = absurd (true≢false (sym e))
  names-clear AssemblyName e = absurd (true≢false (sym e))
  names-clear AssemblyCulture e = absurd (true≢false (sym e))
  names-clear (AssemblyRefName i) e = absurd (true≢false (sym e))
  names-clear (AssemblyRefKey i) e = absurd (true≢false (sym e))
  names-clear (ConstantValue i) e = absurd (true≢false (sym e))
  names-clear Typelib e = absurd (true≢false (sym e))

  names-silent : (call : NameCall) → tells_reason call ≡ false → Silent (name_answer call v)
  unfolding base_name return_type parameter_type parameter_name module_name module_ref_name assembly_name assembly_culture assembly_ref_name assembly_ref_key constant_value typelib
  names-silent (ClassName c) e = absurd (true≢false e)
  names-silent (GenericName c g) e = absurd (true≢false e)
  names-silent (BaseName c b) e = says Silent (λ w q. q.1) (the_class v c) _ (class-quiet v opening c) (λ k. quiet-silent (item k.bases b) (item-quiet k.bases b))
  names-silent (MethodName c m) e = absurd (true≢false e)
  names-silent (MethodGenericName c m g) e = absurd (true≢false e)
  names-silent (ReturnType c m) e = says Silent (λ w q. q.1) (the_method v c m) _ (method-quiet v opening c m) (λ k. text-silent k.returns)
  names-silent (ParameterType c m p) e = says Silent (λ w q. q.1) (the_parameter v c m p) _ (parameter-quiet v opening c m p) (λ k. text-silent k.type)
  names-silent (ParameterName c m p) e = says Silent (λ w q. q.1) (the_parameter v c m p) _ (parameter-quiet v opening c m p) (λ k. text-silent k.name)
  names-silent ModuleName e = says Silent (λ w q. q.1) (the_references v) _ (references-quiet v opening) (λ r. set_silent r.module_name)
  names-silent (ModuleRefName i) e = says Silent (λ w q. q.1) (the_module_refs v) _ (set-quiet v opening (λ r. r.module_refs)) (λ l. set_silent (get_elem? l i))
  names-silent AssemblyName e = says Silent (λ w q. q.1) (the_assembly v) _ (set-quiet v opening (λ r. r.assembly)) (λ a. text-silent a.name)
  names-silent AssemblyCulture e = says Silent (λ w q. q.1) (the_assembly v) _ (set-quiet v opening (λ r. r.assembly)) (λ a. text-silent a.culture)
  names-silent (AssemblyRefName i) e = says Silent (λ w q. q.1) (the_assembly_ref v i) _ (assembly-ref-quiet v opening i) (λ a. text-silent a.name)
  names-silent (AssemblyRefKey i) e = says Silent (λ w q. q.1) (the_assembly_ref v i) _ (assembly-ref-quiet v opening i) (λ a. text-silent a.key)
  names-silent (ConstantValue i) e = says Silent (λ w q. q.1) (the_constants v) _ (set-quiet v opening (λ r. r.constants)) (λ l. set_silent (get_elem? l i))
  names-silent Typelib e = says Silent (λ w q. q.1) (the_references v) _ (references-quiet v opening) (λ r. set_silent r.typelib)

  walk-quiet : Quiet (walk_answer v).stop
  walk-quiet = stopped v.header v.sizes v.size opening

pub reason-told : ReasonTold
reason-told o t strings blob call w tells e five = go (subst Clear e (names-clear o t strings blob call tells))
  where
    go : Clear {A = Text} (refused w) → Told w.reason
    go (inl c) = c.1
    go (inr c) = absurd (c.0 five)

pub reason-untold : ReasonUntold
reason-untold o t strings blob =
    let w = view o t strings blob in (
      names,
      λ call r e. quiet r e (numbers-quiet w (opening o t strings blob) call),
      λ r e. quiet r e (walk-quiet o t strings blob),
    )
  where
    clear : (w : Refused) → w.number ≢ 5 → Clear {A = Text} (refused w) → w.reason ≡ 0
    clear w n (inl c) = absurd (n c.0)
    clear w n (inr c) = c.1

    by_call : (call : NameCall) (w : Refused) (tells : Bool) → tells_reason call ≡ tells → name_answer call (view o t strings blob) ≡ refused w
        → (tells ≡ false) ⊎ (w.number ≢ 5) → w.reason ≡ 0
    by_call call w false tells e h = subst Silent e (names-silent o t strings blob call tells)
    by_call call w true tells e (inl f) = absurd (true≢false f)
    by_call call w true tells e (inr n) = clear w n (subst Clear e (names-clear o t strings blob call tells))

    names : (call : NameCall) (w : Refused) → name_answer call (view o t strings blob) ≡ refused w → (tells_reason call ≡ false) ⊎ (w.number ≢ 5) → w.reason ≡ 0
    names call w e h = by_call call w (tells_reason call) refl e h

    quiet : {a : Answer ℕ} (w : Refused) → a ≡ refused w → Quiet a → w.reason ≡ 0
    quiet w e c = (subst Quiet e c).1

pub own-reason : OwnReason
unfolding class_named class_full_name full_name view_of
own-reason o t strings blob c why h =
    let w = view o t strings blob in
    rw (own_name o t strings blob c h) (go (w.namespace (class_index c)) (name_in w columns.type_name (class_row w c)))
  where
    go : (space : Option Text) (n : Name)
        → (named (full_name space (over cut (text_of n))) (reason_of n) ≡ missing why → n ≡ missing why)
        × (n ≡ missing why → named (full_name space (over cut (text_of n))) (reason_of n) ≡ missing why)
    go space (missing y) = (λ e. e, λ e. e)
    go none (found x) = (λ e. absurd (found-missing e), λ e. absurd (found-missing e))
    go (some s) (found x) = (λ e. absurd (found-missing e), λ e. absurd (found-missing e))

pub names-agree : NamesAgree
unfolding class_named
names-agree v c = go (class_full_name v (class_index c)) (reason_of (name_in v columns.type_name (class_row v c)))
  where
    go : (o : Option Text) (why : Reason) → text_of (named o why) ≡ o
    go none why = refl
    go (some t) why = refl

pub smallest-reasons : SmallestReasons
unfolding whole_tables whole_strings le_at bit_at ones_below row_count over_limit opened tables reaches index_sizes index_size heap_size has_custom_attribute sum_of row_size start_of is_table passes stop_from stop_kind whole_rows if_reached walked tabulate before string_at name string columns.column walk_by extent_by only_entire kept_by cut full_name name_of own_namespace other_row view_of classes class_full_name class_named class class_record class_name
smallest-reasons = record { four = refl; none = refl; before-it = refl; within-it = refl; to-nothing = refl }
