-- A class that is listed has its row, and its methods are those of its range. Cited by every call. Assumes nothing.
use mathlib.Core.Path.{◌≡◌, refl, sym, ap, subst, ◌∙◌}
use mathlib.Core.Bool.{Bool, true, false, cond}
use mathlib.Core.List.{List}
use Prim.Native.Nat.{ℕ, ◌+◌, ◌-◌, ◌≤◌, ◌<◌}
use native.Mathlib.Omega.{arith}
use borrow.Author.Tests.{leb-false}
use lib.Dec.{T, leb}
use lib.ListN.{length}
use Rattle.numbers.proofs.Lists.{tabulate-item, tabulate-past, tabulate-length}
use Rattle.buffers.specs.Replies.{refused_by, value}
use Rattle.buffers.specs.declared.Refusal.TheVariants.{NoSuchRow}
use Rattle.classes.specs.Numbering.{row_of}
use Rattle.classes.specs.declared.ClassNumber.{ClassNumber}
use Rattle.classes.specs.declared.TypeDefRow.{TypeDefRow}
use Rattle.record.specs.View.{View, view_of}
use Rattle.layouts.specs.Kinds.{method_def}
use Rattle.record.specs.Names.{rows_in}
use Rattle.record.specs.Methods.{left_after}
use Rattle.record.specs.Record.{method, class}
use Rattle.record.specs.Answers.{◌⟫◌, or_no_row, item, the_class, the_method, method_count}
use Rattle.record.proofs.Laws.{class-at, class-none}
use Rattle.rows.specs.Columns as columns
use Rattle.rows.specs.Layout.{Laid, rows_at, view_in}
use Rattle.rows.proofs.Laws.{rows-at, rows-narrow}
use Rattle.rows.proofs.Classes.{classes-are}
use Rattle.methods.specs.Ranges.{RangeOf}
use Rattle.places.specs.Places.{MethodRow, ClassRow, ClassRowIs, at_row, no_row, MethodRowIs, at-method, no-method, Owns}
use Rattle.places.specs.declared.Own.{Own}
use Rattle.std.specs.Prelude.{Some, None}

-- The row of a class, by whether a row has such a number.
module _ (c : ClassNumber) {r : TypeDefRow} (e : r ≡ row_of c) where
  pub row_low : r.0 < 2 → 0xFFFF_FFFF < c.0 + 2
  unfolding row_of
  row_low h = go (leb (c.0 + 2) 0xFFFF_FFFF) refl (ap (λ (x : TypeDefRow). x.0) e)
    where
      go : (b : Bool) → leb (c.0 + 2) 0xFFFF_FFFF ≡ b → r.0 ≡ (cond {A = TypeDefRow} b (record { 0 = c.0 + 2 }) (record { 0 = 0 })).0 → 0xFFFF_FFFF < c.0 + 2
      go true q i = absurd (omega arith)
      go false q i = leb-false (c.0 + 2) 0xFFFF_FFFF q

  pub row_is : 2 ≤ r.0 → r.0 ≡ c.0 + 2
  unfolding row_of
  row_is h = go (leb (c.0 + 2) 0xFFFF_FFFF) (ap (λ (x : TypeDefRow). x.0) e)
    where
      go : (b : Bool) → r.0 ≡ (cond {A = TypeDefRow} b (record { 0 = c.0 + 2 }) (record { 0 = 0 })).0 → r.0 ≡ c.0 + 2
      go true i = i
      go false i = absurd (omega arith)

-- What a caller that has matched the answer knows.
module _ {l : List ℕ} {c : ℕ} where
  row_in : {row : TypeDefRow} → ClassRowIs l c (Some row) → (row.0 ≡ c + 2) × (c + 2 ≤ rows_at l columns.type_name)
  row_in (at_row e h) = (e, h)

  row_out : ClassRowIs l c None → rows_at l columns.type_name < c + 2
  row_out (no_row h) = h

  module _ {r : ClassRow} (h : ClassRowIs l c r) where
    pub class-found : {row : TypeDefRow} → r ≡ Some row → (row.0 ≡ c + 2) × (c + 2 ≤ rows_at l columns.type_name)
    class-found e = row_in (subst (ClassRowIs l c) e h)

    pub class-missed : r ≡ None → rows_at l columns.type_name < c + 2
    class-missed e = row_out (subst (ClassRowIs l c) e h)

module _ {t l : List ℕ} (laid : Laid t l) (strings blob : List ℕ) where
  abbrev v : View
  v = view_in t l strings blob

  pub listed : (c : ℕ) → c + 2 ≤ rows_at l columns.type_name → the_class v c ≡ value (class v c)
  unfolding view_of
  listed c h = class-at v c laid.ready (omega (arith, classes-are laid strings blob columns.type_name (omega arith) refl))

  pub unlisted : (c : ℕ) → rows_at l columns.type_name < c + 2 → the_class v c ≡ refused_by NoSuchRow
  unfolding view_of
  unlisted c h = class-none v c laid.ready (omega (arith, classes-are laid strings blob columns.type_name (omega arith) refl))

  -- MethodDef has no more rows than 32 bits can say.
  pub methods-narrow : rows_in v method_def < 4_294_967_296
  unfolding view_of
  methods-narrow = rw (← rows-at laid columns.method_name (omega arith)) (rows-narrow laid columns.method_name (omega arith))

-- The range of a class by its row.
pub range-of : {v : View} {c r first end : ℕ} → r ≡ c + 2 → RangeOf v (r - 2) first end → RangeOf v c first end
range-of {v} {c} {r} {first} {end} e range = let i : r - 2 ≡ c = omega arith in subst (λ (k : ℕ). RangeOf v k first end) i range

-- What is known of a class's methods, by its row.
pub owns_of : {v : View} {r row first end : ℕ} → r ≡ row → RangeOf v (row - 2) first end → Owns v (record { row = r; first = first; end = end })
owns_of {v} {first = first} {end} e range = record { range = λ _. subst (λ (k : ℕ). RangeOf v (k - 2) first end) (sym e) range }

pub owned-range : {v : View} {k : Own} {c row : ℕ} → Owns v k → k.row ≡ row → row ≡ c + 2 → RangeOf v c k.first k.end
owned-range {v} {k} {c} o e f = let i : k.row ≡ c + 2 = e ∙ f in range-of i (o.range (omega arith))

-- The methods of a class are those of its range.
module _ (v : View) (c : ℕ) {first end : ℕ} (is : the_class v c ≡ value (class v c)) (range : RangeOf v c first end) where
  pub methods-counted : method_count v c ≡ value (end - first)
  unfolding method_count class
  methods-counted =
      let n : left_after v (c + 1) - left_after v c ≡ end - first = omega (arith, range.begins, range.ends) in
      ap (λ a. a ⟫ (λ k. value (length k.methods))) is
      ∙ ap value (tabulate-length (method v c) (left_after v c) (left_after v (c + 1) - left_after v c) ∙ n)

  module _ (m : ℕ) where
    pub method-there : {i : ℕ} → i ≡ first + m → i < end → MethodRowIs v c m (Some i)
    unfolding class
    method-there {i} e h =
        let at : left_after v c + m ≡ i = omega (arith, range.begins) in
        at-method
        (ap (λ a. a ⟫ (λ k. item k.methods m)) is
        ∙ ap or_no_row (tabulate-item (method v c) (left_after v c) (left_after v (c + 1) - left_after v c) m (omega (arith, range.begins, range.ends)))
        ∙ ap (λ j. value (method v c j)) at)
        (omega (arith, range.inside))
        (sym at)

    pub method-past : end ≤ first + m → MethodRowIs v c m None
    unfolding class
    method-past h =
        no-method (ap (λ a. a ⟫ (λ k. item k.methods m)) is
        ∙ ap or_no_row (tabulate-past (method v c) (left_after v c) (left_after v (c + 1) - left_after v c) m (omega (arith, range.begins, range.ends))))

pub method-none : (v : View) (c m : ℕ) → the_class v c ≡ refused_by NoSuchRow → MethodRowIs v c m None
method-none v c m e = no-method (ap (λ a. a ⟫ (λ k. item k.methods m)) e)

-- What a caller that has matched the answer knows.
module _ {v : View} {c m : ℕ} where
  method-in : {i : ℕ} → MethodRowIs v c m (Some i) → (the_method v c m ≡ value (method v c i)) × (i < rows_in v method_def)
  method-in (at-method e h f) = (e, h)

  method-of-all : {i : ℕ} → MethodRowIs v c m (Some i) → i ≡ left_after v c + m
  method-of-all (at-method e h f) = f

  method-out : MethodRowIs v c m None → the_method v c m ≡ refused_by NoSuchRow
  method-out (no-method e) = e

  module _ {r : MethodRow} (h : MethodRowIs v c m r) where
    pub method-found : {i : ℕ} → r ≡ Some i → (the_method v c m ≡ value (method v c i)) × (i < rows_in v method_def)
    method-found e = method-in (subst (MethodRowIs v c m) e h)

    -- Its place among all methods.
    pub method-place : {i : ℕ} → r ≡ Some i → i ≡ left_after v c + m
    method-place e = method-of-all (subst (MethodRowIs v c m) e h)

    pub method-missed : r ≡ None → the_method v c m ≡ refused_by NoSuchRow
    method-missed e = method-out (subst (MethodRowIs v c m) e h)

-- A row that is told apart by its case.
abbrev place_in : MethodRow → ℕ
place_in (Some i) = i
place_in None = 0

abbrev is_none : MethodRow → Bool
is_none (Some i) = false
is_none None = true

pub same_place : {i j : ℕ} → Some i ≡ Some j → i ≡ j
same_place e = ap place_in e

pub no_place : {i : ℕ} → None ≡ Some i → ⊥
no_place e = subst (λ (r : MethodRow). T (is_none r)) e tt
