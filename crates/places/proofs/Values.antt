-- What a call answers of a class or a method that is listed: the values of its row, and the rows of the side tables that are its own.
-- Assumes nothing.
use mathlib.Core.Path.{◌≡◌, refl, sym, ap, ap₂, ◌∙◌}
use mathlib.Core.List.{List}
use mathlib.Core.Option.{Option, none, some}
use Prim.Native.Nat.{ℕ, ◌+◌, ◌-◌, ◌*◌, ◌≤◌, ◌<◌}
use native.Mathlib.Omega.{arith}
use lib.ListN.{length, get_elem?}
use Rattle.buffers.specs.Writes.{Said}
use Rattle.buffers.specs.declared.Reason.{Reason}
use Rattle.buffers.specs.Replies.{Refused, Answer, refused, refused_by, value, name_or_5}
use Rattle.buffers.specs.declared.Refusal.TheVariants.{NoSuchRow}
use Rattle.buffers.specs.Telling as telling
use Rattle.buffers.specs.Telling.{Told, ToldIs, no_row}
use Rattle.buffers.proofs.Writing.{kept_same, said-some, said-none}
use Rattle.buffers.proofs.Telling.{told_same}
use Rattle.heaps.specs.Lookups.{name, reason_of, name_or_why}
use Rattle.classes.specs.declared.TypeDefRow.{TypeDefRow}
use Rattle.layouts.specs.Kinds.{method_def}
use Rattle.layouts.specs.Read.{read_column}
use Rattle.tables.specs.Extents.{kept_rows}
use Rattle.record.specs.Missing.{over, or_default}
use Rattle.record.specs.Columns as row_columns
use Rattle.record.specs.View.{View, view_of}
use Rattle.record.specs.Names.{name_in, named, rows_in, sizes_of, class_full_name, class_named}
use Rattle.record.specs.Record.{Parameter, Method, method, class, class_record}
use Rattle.record.specs.Answers.{◌⟫◌, ready, or_no_row, item, the_class, the_method, Numbered, class_count, class_flags, class_name, generic_count, generic_name, method_count, method_flags, method_name, method_generic_count, method_generic_name, return_type, parameter_count, parameter_type, parameter_name}
use Rattle.record.proofs.Laws.{record-length}
use Rattle.record.proofs.Read.{class-row, method-row}
use Rattle.rows.specs.Columns as columns
use Rattle.rows.specs.Layout.{Laid, rows_at, cell, options_in, header_in, view_in}
use Rattle.rows.proofs.Laws.{rows-at}
use Rattle.rows.proofs.Classes.{classes-are}
use Rattle.methods.specs.Ranges.{RangeOf}
use Rattle.keys.specs.Keyed.{Row, FoundIs}
use Rattle.keys.proofs.Laws.{generics-found, generics-missed}
use Rattle.places.proofs.Laws.{listed, unlisted, range-of, methods-counted}
use Rattle.std.specs.Prelude.{Some, None, Ok, Err}
use Rattle.buffers.specs.declared.Unnamed.TheVariants.{Missing, NoRow}

-- What is asked of a class or a method by way of its place: the value, or the refusal that stands.
through : {A B : Type 0} {a : Answer A} (f : A → Answer B) {x : A} → a ≡ value x → (a ⟫ f) ≡ f x
through f e = ap (λ a. a ⟫ f) e

stopped : {A B : Type 0} {a : Answer A} (f : A → Answer B) {w : Refused} → a ≡ refused w → (a ⟫ f) ≡ refused w
stopped f e = ap (λ a. a ⟫ f) e

module _ {t l : List ℕ} (laid : Laid t l) (strings blob : List ℕ) where
  abbrev v : View
  v = view_in t l strings blob

  pub class-counted : {n : ℕ} → n ≡ rows_at l columns.type_name - 1 → Numbered (class_count v) (Ok n)
  unfolding class_count view_of
  class-counted e =
      ap value (e ∙ sym (record-length v ∙ classes-are laid strings blob columns.type_name (omega arith) refl))
      ∙ sym (ap (λ a. ready a ⟫ (λ _. value (class_record v)) ⟫ (λ l. value (length l))) laid.ready)

  -- A class that is listed, with its row.
  module _ (c : ℕ) {row : TypeDefRow} (at : (row.0 ≡ c + 2) × (c + 2 ≤ rows_at l columns.type_name)) where
    is : the_class v c ≡ value (class v c)
    is = listed laid strings blob c at.1

    pub class-flags : {x : ℕ} → x ≡ cell t l columns.type_flags (row.0 - 1) → Numbered (class_flags v c) (Ok x)
    unfolding class_flags class view_of
    class-flags e =
        let i : row.0 - 1 ≡ c + 1 = omega (arith, at.0) in
        ap value (e ∙ ap (cell t l columns.type_flags) i)
        ∙ sym (through (λ k. value k.flags) is
        ∙ ap (λ (r : Option (List ℕ)). value (or_default 0 (over (row_columns.type_flags (sizes_of v)) r)))
        (class-row (options_in l) t strings blob c (omega (arith, classes-are laid strings blob columns.type_name (omega arith) refl, at.1))))

    -- Its name is the full name at its row, or missing for the reason that the string of its name column is.
    name-is : class_name v c ≡ name_or_why (named (class_full_name v row.0) (reason_of (name strings (cell t l columns.type_name (row.0 - 1)))))
    unfolding class_name class class_named view_of
    name-is =
        let i : row.0 - 1 ≡ c + 1 = omega (arith, at.0) in
        through (λ k. name_or_why k.name) is
        ∙ ap (λ (r : Option (List ℕ)). name_or_why (named (class_full_name v (c + 2)) (reason_of (name_in v row_columns.type_name r))))
        (class-row (options_in l) t strings blob c (omega (arith, classes-are laid strings blob columns.type_name (omega arith) refl, at.1)))
        ∙ ap₂ (λ (r j : ℕ). name_or_why (named (class_full_name v r) (reason_of (name strings (cell t l columns.type_name j))))) (sym at.0) (sym i)

    module _ {b b' : List ℕ} {place : ℕ} where
      pub class-name : {end : ℕ} → Said b place b' (class_full_name v row.0) (some end) → ToldIs (class_name v c) b place b' (Ok end)
      class-name s =
          let there = said-some s in
          telling.name there.text (name-is ∙ ap (λ o. name_or_why (named o (reason_of (name strings (cell t l columns.type_name (row.0 - 1)))))) there.is) there.wrote

      pub class-nameless : {why : Reason} → Said b place b' (class_full_name v row.0) none → why ≡ reason_of (name strings (cell t l columns.type_name (row.0 - 1)))
          → ToldIs (class_name v c) b place b' (Err (Missing why))
      class-nameless s e =
          let gone = said-none s in
          telling.missing (name-is ∙ ap₂ (λ o y. name_or_why (named o y)) gone.0 (sym e)) gone.1

    pub class-generics : {x : ℕ} → x ≡ length (v.generics (2 * row.0)) → Numbered (generic_count v c) (Ok x)
    unfolding generic_count class
    class-generics e = ap value (e ∙ ap (λ (i : ℕ). length (v.generics (2 * i))) at.0) ∙ sym (through (λ k. value (length k.generics)) is)

    pub class-generic : (g : ℕ) {b b' : List ℕ} {place : ℕ} {r : Told} → ToldIs (or_no_row (get_elem? (v.generics (2 * row.0)) g) ⟫ name_or_why) b place b' r
        → ToldIs (generic_name v c g) b place b' r
    unfolding generic_name class
    class-generic g n =
        told_same (through (λ k. item k.generics g ⟫ name_or_why) is ∙ ap (λ (i : ℕ). or_no_row (get_elem? (v.generics (2 * i)) g) ⟫ name_or_why) (sym at.0)) n

    pub class-methods : {first end : ℕ} → RangeOf v (row.0 - 2) first end → Numbered (method_count v c) (Ok (end - first))
    class-methods r = sym (methods-counted v c is (range-of at.0 r))

  -- A class that is not: every call for it answers 4.
  module _ (c : ℕ) (h : rows_at l columns.type_name < c + 2) where
    isn't : the_class v c ≡ refused_by NoSuchRow
    isn't = unlisted laid strings blob c h

    pub no-class-flags : Numbered (class_flags v c) (Err NoSuchRow)
    unfolding class_flags
    no-class-flags = sym (stopped (λ k. value k.flags) isn't)

    pub no-class-generics : Numbered (generic_count v c) (Err NoSuchRow)
    unfolding generic_count
    no-class-generics = sym (stopped (λ k. value (length k.generics)) isn't)

    pub no-class-methods : Numbered (method_count v c) (Err NoSuchRow)
    unfolding method_count
    no-class-methods = sym (stopped (λ k. value (length k.methods)) isn't)

    module _ (b : List ℕ) (place : ℕ) where
      pub no-class-name : ToldIs (class_name v c) b place b (Err NoRow)
      unfolding class_name
      no-class-name = no_row (stopped (λ k. name_or_why k.name) isn't) (kept_same b place)

      pub no-class-generic : (g : ℕ) → ToldIs (generic_name v c g) b place b (Err NoRow)
      unfolding generic_name
      no-class-generic g = no_row (stopped (λ k. item k.generics g ⟫ name_or_why) isn't) (kept_same b place)

  -- A method that is listed, at a place of MethodDef.
  module _ (c m : ℕ) {i : ℕ} (at : (the_method v c m ≡ value (method v c i)) × (i < rows_in v method_def)) where
    pub method-inside : (d : ℕ) → d < columns.count → (read_column d).kind ≡ method_def → i < rows_at l d
    unfolding view_of
    method-inside d k e =
        let r = rows-at laid d k ∙ ap (kept_rows (options_in l) (header_in t l) (length t)) e in
        omega (arith, at.1)

    pub method-flags : {x : ℕ} → x ≡ cell t l columns.method_flags i → Numbered (method_flags v c m) (Ok x)
    unfolding method_flags method view_of
    method-flags e =
        ap value e
        ∙ sym (through (λ k. value k.flags) at.0
        ∙ ap (λ (r : Option (List ℕ)). value (or_default 0 (over (row_columns.method_flags (sizes_of v)) r))) (method-row (options_in l) t strings blob i at.1))

    pub method-name : {b b' : List ℕ} {place : ℕ} {r : Told} → ToldIs (name_or_why (name strings (cell t l columns.method_name i))) b place b' r → ToldIs (method_name v c m) b place b' r
    unfolding method_name method view_of
    method-name n =
        told_same (through (λ k. name_or_why k.name) at.0
        ∙ ap (λ (r : Option (List ℕ)). name_or_why (name_in v row_columns.method_name r))
        (method-row (options_in l) t strings blob i at.1)) n

    pub method-generics : {x : ℕ} → x ≡ length (v.generics (2 * (i + 1) + 1)) → Numbered (method_generic_count v c m) (Ok x)
    unfolding method_generic_count method
    method-generics e = ap value e ∙ sym (through (λ k. value (length k.generics)) at.0)

    pub method-generic : (g : ℕ) {b b' : List ℕ} {place : ℕ} {r : Told} → ToldIs (or_no_row (get_elem? (v.generics (2 * (i + 1) + 1)) g) ⟫ name_or_why) b place b' r
        → ToldIs (method_generic_name v c m g) b place b' r
    unfolding method_generic_name method
    method-generic g n = told_same (through (λ k. item k.generics g ⟫ name_or_why) at.0) n

    pub method-returns : {b b' : List ℕ} {place : ℕ} {r : Told} → ToldIs (name_or_5 (method v c i).returns) b place b' r → ToldIs (return_type v c m) b place b' r
    unfolding return_type
    method-returns n = told_same (through (λ k. name_or_5 k.returns) at.0) n

    pub method-parameters : {x : ℕ} → x ≡ length (method v c i).parameters → Numbered (parameter_count v c m) (Ok x)
    unfolding parameter_count
    method-parameters e = ap value e ∙ sym (through (λ k. value (length k.parameters)) at.0)

    -- What is asked of parameter p.
    module _ (p : ℕ) {b b' : List ℕ} {place : ℕ} {r : Told} where
      pub method-parameter-type : ToldIs (item (method v c i).parameters p ⟫ (λ k. name_or_5 k.type)) b place b' r → ToldIs (parameter_type v c m p) b place b' r
      unfolding parameter_type
      method-parameter-type n = told_same (ap (λ (a : Answer Method). a ⟫ (λ k. item k.parameters p) ⟫ (λ (x : Parameter). name_or_5 x.type)) at.0) n

      pub method-parameter-name : ToldIs (item (method v c i).parameters p ⟫ (λ k. name_or_5 k.name)) b place b' r → ToldIs (parameter_name v c m p) b place b' r
      unfolding parameter_name
      method-parameter-name n = told_same (ap (λ (a : Answer Method). a ⟫ (λ k. item k.parameters p) ⟫ (λ (x : Parameter). name_or_5 x.name)) at.0) n

  -- A method that is not: every call for it answers 4.
  module _ (c m : ℕ) (isn't : the_method v c m ≡ refused_by NoSuchRow) where
    pub no-method-flags : Numbered (method_flags v c m) (Err NoSuchRow)
    unfolding method_flags
    no-method-flags = sym (stopped (λ k. value k.flags) isn't)

    pub no-method-generics : Numbered (method_generic_count v c m) (Err NoSuchRow)
    unfolding method_generic_count
    no-method-generics = sym (stopped (λ k. value (length k.generics)) isn't)

    pub no-method-parameters : Numbered (parameter_count v c m) (Err NoSuchRow)
    unfolding parameter_count
    no-method-parameters = sym (stopped (λ k. value (length k.parameters)) isn't)

    module _ (b : List ℕ) (place : ℕ) where
      pub no-method-name : ToldIs (method_name v c m) b place b (Err NoRow)
      unfolding method_name
      no-method-name = no_row (stopped (λ k. name_or_why k.name) isn't) (kept_same b place)

      pub no-method-returns : ToldIs (return_type v c m) b place b (Err NoRow)
      unfolding return_type
      no-method-returns = no_row (stopped (λ k. name_or_5 k.returns) isn't) (kept_same b place)

      pub no-method-parameter-type : (p : ℕ) → ToldIs (parameter_type v c m p) b place b (Err NoRow)
      unfolding parameter_type
      no-method-parameter-type p =
          no_row (ap (λ (a : Answer Method). a ⟫ (λ k. item k.parameters p) ⟫ (λ (x : Parameter). name_or_5 x.type)) isn't) (kept_same b place)

      pub no-method-parameter-name : (p : ℕ) → ToldIs (parameter_name v c m p) b place b (Err NoRow)
      unfolding parameter_name
      no-method-parameter-name p =
          no_row (ap (λ (a : Answer Method). a ⟫ (λ k. item k.parameters p) ⟫ (λ (x : Parameter). name_or_5 x.name)) isn't) (kept_same b place)

      pub no-method-generic : (g : ℕ) → ToldIs (method_generic_name v c m g) b place b (Err NoRow)
      unfolding method_generic_name
      no-method-generic g = no_row (stopped (λ k. item k.generics g ⟫ name_or_why) isn't) (kept_same b place)

  -- A generic parameter that was searched for among those of an owner, and what its name came to at a place.
  module _ (owner : ℕ) {nth g : ℕ} {r : Row} (e : nth ≡ g) (found : FoundIs (cell t l columns.owner) owner (rows_at l columns.owner) nth r) {b : List ℕ} {place : ℕ} where
    pub told-generic : {b' : List ℕ} {i : ℕ} {told : Told} → r ≡ Some i → ToldIs (name_or_why (name strings (cell t l columns.generic_name i))) b place b' told
        → ToldIs (or_no_row (get_elem? (v.generics owner) g) ⟫ name_or_why) b place b' told
    told-generic {i = i} f n = rw (← e, (generics-found laid strings blob owner nth i found f).1) n

    pub told-no-generic : r ≡ None → ToldIs (or_no_row (get_elem? (v.generics owner) g) ⟫ name_or_why) b place b (Err NoRow)
    told-no-generic f = rw (← e, generics-missed laid strings blob owner nth found f) (no_row refl (kept_same b place))
