-- An answer within an allowance, by what was counted and what it came to. Assumes nothing.
use mathlib.Core.Path.{◌≡◌, refl, sym, ap, ◌∙◌}
use mathlib.Core.Logic.{◌⊎◌, inl, inr}
use mathlib.Core.Bool.{Bool, true, false, not, ◌||◌}
use mathlib.Core.List.{List, []}
use Prim.Native.Nat.{ℕ, ◌+◌, ◌-◌, ◌*◌, ◌/◌, ◌≤◌, ◌<◌}
use native.Mathlib.Nat.{le_trans, mul-le-mul_left, mul-le-mul_right, div-mul-le_self, le-div_iff_mul-le}
use native.Mathlib.Omega.{arith}
use borrow.Author.Tests.{lt-ltb, le-ltb}
use lib.ListN.{length}
use Rattle.buffers.specs.Texts.{Text}
use Rattle.buffers.specs.Replies.{Reply, Answer, refused, value, refused_by, reply_says, Named}
use Rattle.buffers.specs.declared.Refusal.TheVariants.{TooManySteps}
use Rattle.heaps.specs.Lookups.{Name}
use Rattle.record.specs.View.{View}
use Rattle.record.specs.Names.{env, class_generics, base_steps}
use Rattle.record.specs.Methods.{left_after, steps_in}
use Rattle.record.specs.Answers.{◌⟫◌, the_class, the_method, Numbered}
use Rattle.record.specs.Answers.{ClassName, GenericName, BaseName, MethodName, MethodGenericName, ReturnType, ParameterType, ParameterName, ModuleName, ModuleRefName, AssemblyName, AssemblyCulture, AssemblyRefName, AssemblyRefKey, ConstantValue, Typelib}
use Rattle.rows.specs.Columns as columns
use Rattle.rows.specs.Layout.{Laid, rows_at, is_marked, view_in}
use Rattle.passing.specs.Passing.{SpecsWithin}
use Rattle.bases.proofs.Within.{bases-within}
use Rattle.method_signatures.proofs.Within.{steps-within}
use Rattle.charges.specs.Within.{AllFit}
use Rattle.classes.specs.declared.ClassNumber.{ClassNumber}
use Rattle.questions.specs.declared.NumberQuestion.{NumberQuestion}
use Rattle.questions.specs.declared.NumberQuestion.TheVariants as number
use Rattle.questions.specs.declared.NameQuestion.{NameQuestion}
use Rattle.questions.specs.declared.NameQuestion.TheVariants as name
use Rattle.questions.specs.Questions.{number_call, name_call}
use Rattle.record.specs.Allowance.{base_work, method_work, number_work, name_work, count_of, cost, charge, NumberedCharged, NamedCharged, ceiling, is_over}
use Rattle.record.proofs.Allowance.{cost-replied, charge-spent, charge-fits}
use Rattle.steps.specs.Counting.{Steps, Takes, left}
use Rattle.steps.proofs.Laws.{takes-left, takes-spent}
use Rattle.std.specs.Option.{is_some}
use Rattle.std.specs.Prelude.{Some, None, Err}

-- A call that counts nothing.
pub takes-nothing : (steps : ℕ) → Takes 0 steps (Some steps)
takes-nothing steps = left {rest = steps} (omega arith)

module _ (v : View) where
  -- A name of a method's signature counts what the method does.
  pub name-method : (q : NameQuestion) {c : ClassNumber} {m : ℕ}
      → (q ≡ name.ReturnType c m) ⊎ (((p : ℕ) × (q ≡ name.ParamType c m p)) ⊎ ((p : ℕ) × (q ≡ name.ParamName c m p)))
      → name_work (name_call q) v ≡ method_work v c.0 m
  name-method q (inl e) = ap (λ (x : NameQuestion). name_work (name_call x) v) e
  name-method q (inr (inl e)) = ap (λ (x : NameQuestion). name_work (name_call x) v) e.1
  name-method q (inr (inr e)) = ap (λ (x : NameQuestion). name_work (name_call x) v) e.1

module _ (v : View) (steps : ℕ) where
  pub name-free : (q : NameQuestion) → ((c : ClassNumber) (b : ℕ) → q ≡ name.BaseName c b → ⊥) → ((c : ClassNumber) (m : ℕ) → q ≡ name.ReturnType c m → ⊥)
      → ((c : ClassNumber) (m p : ℕ) → q ≡ name.ParamType c m p → ⊥) → ((c : ClassNumber) (m p : ℕ) → q ≡ name.ParamName c m p → ⊥)
      → Takes (count_of (name_work (name_call q) v)) steps (Some steps)
  name-free (name.ClassName c) base returns type param = takes-nothing steps
  name-free (name.GenericName c g) base returns type param = takes-nothing steps
  name-free (name.BaseName c b) base returns type param = absurd (base c b refl)
  name-free (name.MethodName c m) base returns type param = takes-nothing steps
  name-free (name.MethodGenericName c m g) base returns type param = takes-nothing steps
  name-free (name.ReturnType c m) base returns type param = absurd (returns c m refl)
  name-free (name.ParamType c m p) base returns type param = absurd (type c m p refl)
  name-free (name.ParamName c m p) base returns type param = absurd (param c m p refl)

  pub number-free : (q : NumberQuestion) → ((c : ClassNumber) → q ≡ number.BaseCount c → ⊥)
      → ((c : ClassNumber) (m : ℕ) → q ≡ number.ParamCount c m → ⊥) → Takes (count_of (number_work (number_call q) v)) steps (Some steps)
  number-free number.ClassCount base param = takes-nothing steps
  number-free (number.ClassFlags c) base param = takes-nothing steps
  number-free (number.GenericCount c) base param = takes-nothing steps
  number-free (number.BaseCount c) base param = absurd (base c refl)
  number-free (number.MethodCount c) base param = takes-nothing steps
  number-free (number.MethodFlags c m) base param = takes-nothing steps
  number-free (number.MethodGenericCount c m) base param = takes-nothing steps
  number-free (number.ParamCount c m) base param = absurd (param c m refl)
  number-free (number.ClassPacking c) base param = takes-nothing steps
  number-free (number.ClassSize c) base param = takes-nothing steps

module _ (steps : ℕ) (work : Answer ℕ) {r : Steps} (takes : Takes (count_of work) steps r) where
  module _ {after x : ℕ} (e : r ≡ Some after) {reply : Reply} (rest : (n : ℕ) → n + after ≡ steps → x ≡ steps - cost n (reply_says reply)) where
    pub number-left : (a : Answer ℕ) → Numbered a reply → NumberedCharged (charge steps work a) reply x
    number-left a says =
        let paid = takes-left takes e in
        rw (charge-fits steps work a (omega (arith, paid)))
        (record { says = says; leaves = rest (count_of work) paid ∙ ap (λ (b : Answer ℕ). steps - cost (count_of work) b) says })

    pub name-left : (a : Answer Text) {b b' : List ℕ} → Named a b reply b' → NamedCharged (charge steps work a) b reply b' x
    name-left a {b} says =
        let paid = takes-left takes e in
        rw (charge-fits steps work a (omega (arith, paid)))
        (record {
          named = says;
          leaves = rest (count_of work) paid ∙ ap (λ (c : Answer ℕ). steps - cost (count_of work) c) says.reply
              ∙ ap (λ (n : ℕ). steps - n) (cost-replied (count_of work) a (length b));
        })

  module _ (e : r ≡ None) where
    pub number-spent : (a : Answer ℕ) → NumberedCharged (charge steps work a) (Err TooManySteps) 0
    number-spent a = rw (charge-spent steps work a (takes-spent takes e)) (record { says = refl; leaves = refl })

    pub name-spent : (a : Answer Text) {b b' : List ℕ} {reply : Reply} → Named (refused_by TooManySteps) b reply b'
        → NamedCharged (charge steps work a) b reply b' 0
    name-spent a says = rw (charge-spent steps work a (takes-spent takes e)) (record { named = says; leaves = refl })

-- ---- What is within the ceiling of a listing

-- By a bound of what is counted.
pub few-fit : (work : Answer ℕ) → count_of work ≤ ceiling → is_over work ≡ false
unfolding is_over
few-fit work few = le-ltb ceiling (count_of work) few

flipped : (b : Bool) {a : Bool} → a ≡ not b → b ≡ not a
flipped true e = ap not (sym e)
flipped false e = ap not (sym e)

-- By what was counted of the ceiling.
module _ (work : Answer ℕ) where
  pub over-it : {r : Steps} → Takes (count_of work) ceiling r → (over : Bool) → is_some r ≡ not over → over ≡ is_over work
  unfolding is_over
  over-it {r = Some rest} takes over e = let paid = takes-left takes refl in flipped over e ∙ sym (few-fit work (omega (arith, paid)))
  over-it {r = None} takes over e = flipped over e ∙ sym (lt-ltb ceiling (count_of work) (takes-spent takes refl))

-- ---- Where every name is within it

nothing-over : is_over (value 0) ≡ false
unfolding is_over
nothing-over = refl

-- So many steps for a TypeSpec row: as many types, each with one step more, are within the ceiling.
module _ (types : ℕ) (few : types ≤ ceiling) (some : 0 < types) where
  pub one-at-least : 1 ≤ ceiling / types
  one-at-least = (le-div_iff_mul-le some).1 (omega (arith, few))

  pub share-fits : (ceiling / types - 1 + 1) * types ≤ ceiling
  share-fits =
      let same : ceiling / types - 1 + 1 ≡ ceiling / types = omega (arith, one-at-least) in
      rw same (div-mul-le_self ceiling types)

counted-most : {A : Type 0} (a : Answer A) (n : ℕ) {most : ℕ} → n ≤ most → count_of (a ⟫ (λ _. value n)) ≤ most
counted-most (refused w) n h = omega arith
counted-most (value x) n h = h

module _ {t l : List ℕ} (laid : Laid t l) (strings heap : List ℕ)
    {once : Bool} (is-once : once ≡ ((view_in t l strings heap).taker || is_marked l columns.method_list)) (yes : once ≡ true)
    {types most : ℕ} (fits : (most + 1) * types ≤ ceiling) (bytes : length heap ≤ types) (rows : rows_at l columns.impl_class + 1 ≤ types)
    (specs : (g h : List Name) → SpecsWithin (env (view_in t l strings heap) g h) most) where
  abbrev v : View
  v = view_in t l strings heap

  bases-fit : (c : ℕ) → is_over (base_work v c) ≡ false
  unfolding base_work
  bases-fit c =
      let few = bases-within laid strings heap (c + 2) (omega arith) (specs (class_generics v (c + 2 - 2)) []) in
      let same : c + 2 - 2 ≡ c = omega arith in
      let more : most ≤ most + 1 = omega arith in
      let enough = le_trans (le_trans (mul-le-mul_left most rows) (mul-le-mul_right types more)) fits in
      few-fit (base_work v c) (counted-most (the_class v c) (base_steps v c) (omega (arith, ap (base_steps v) same, few, enough)))

  method-fits : (c m : ℕ) → is_over (method_work v c m) ≡ false
  unfolding method_work
  method-fits c m =
      let few = steps-within laid strings heap is-once yes c (left_after v c + m) most specs in
      let enough = le_trans (mul-le-mul_left (most + 1) bytes) fits in
      few-fit (method_work v c m) (counted-most (the_method v c m) (steps_in v c (left_after v c + m)) (le_trans few enough))

  pub all_fit : AllFit v
  all_fit (ClassName c) = nothing-over
  all_fit (GenericName c g) = nothing-over
  all_fit (BaseName c b) = bases-fit c
  all_fit (MethodName c m) = nothing-over
  all_fit (MethodGenericName c m g) = nothing-over
  all_fit (ReturnType c m) = method-fits c m
  all_fit (ParameterType c m p) = method-fits c m
  all_fit (ParameterName c m p) = method-fits c m
  all_fit ModuleName = nothing-over
  all_fit (ModuleRefName i) = nothing-over
  all_fit AssemblyName = nothing-over
  all_fit AssemblyCulture = nothing-over
  all_fit (AssemblyRefName i) = nothing-over
  all_fit (AssemblyRefKey i) = nothing-over
  all_fit (ConstantValue i) = nothing-over
  all_fit Typelib = nothing-over
