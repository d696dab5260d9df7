-- The claims of specs/Allowance.antt: what a call costs within an allowance, and that raising it alters no answer other than 11. Assumes
-- nothing.
use mathlib.Core.Path.{◌≡◌, refl, sym, ap, subst, ◌∙◌}
use mathlib.Core.Bool.{Bool, true, false, cond}
use mathlib.Core.List.{List}
use Prim.Native.Nat.{ℕ, ◌+◌, ◌-◌, ◌≤◌, ◌<◌}
use native.Mathlib.Omega.{arith}
use borrow.Author.Tests.{lt-ltb, le-ltb}
use lib.Dec.{leb}
use lib.ListN.{length}
use Rattle.std.specs.Prelude.{Err}
use Rattle.numbers.proofs.Pick.{by-lt}
use Rattle.buffers.specs.Texts.{Text}
use Rattle.buffers.specs.Replies.{Reply, Refused, Answer, refused, refused_by, value, name_or_5, name_reply, Named}
use Rattle.buffers.specs.declared.Refusal.{Refusal}
use Rattle.buffers.specs.declared.Refusal.TheVariants.{BufferTooSmall, TooManySteps}
use Rattle.record.specs.View.{View}
use Rattle.record.specs.Names.{base_steps}
use Rattle.record.specs.Methods.{left_after, steps_in}
use Rattle.record.specs.Answers.{◌⟫◌, item, the_class, the_method, Numbered, base_count, parameter_count, base_name, return_type, parameter_type, parameter_name}
use Rattle.record.specs.Answers.{NumberCall, ClassCount, ClassFlags, ClassPacking, ClassSize, GenericCount, BaseCount, MethodCount, MethodFlags, MethodGenericCount, ParameterCount, ModuleRefCount, AssemblyVersion, AssemblyRefCount, AssemblyRefVersion, ConstantCount, number_answer}
use Rattle.record.specs.Answers.{NameCall, ClassName, GenericName, BaseName, MethodName, MethodGenericName, ReturnType, ParameterType, ParameterName, ModuleName, ModuleRefName, AssemblyName, AssemblyCulture, AssemblyRefName, AssemblyRefKey, ConstantValue, Typelib, name_answer}
use Rattle.record.specs.Allowance.{base_work, method_work, number_work, name_work, count_of, is_paid, cost, charge, Exactly, SpentExactly, RaisingKeeps}
use Rattle.record.specs.Allowance.{number_charged, name_charged, NumberedCharged, NamedCharged}
use Rattle.record.proofs.Laws.{opening-first}

cost-least : {A : Type 0} (steps : ℕ) (a : Answer A) → cost steps a ≤ steps
unfolding cost
cost-least steps (value a) = omega arith
cost-least steps (refused w) = least (is_paid w.number)
  where
    least : (b : Bool) → cond b steps 0 ≤ steps
    least true = omega arith
    least false = omega arith

-- A reply for which there is no room is paid for as the name is.
pub cost-replied : (steps : ℕ) (a : Answer Text) (room : ℕ) → cost steps (name_reply a room) ≡ cost steps a
unfolding cost name_reply
cost-replied steps (refused w) room = refl
cost-replied steps (value t) room = either (leb (length t) room)
  where
    either : (b : Bool) → cost steps (cond b (value (length t)) (refused_by BufferTooSmall)) ≡ steps
    either true = refl
    either false = refl

module _ {A : Type 0} (allowance : ℕ) (work : Answer ℕ) (a : Answer A) where
  pub charge-spent : allowance < count_of work → charge allowance work a ≡ record { answer = refused_by TooManySteps; left = 0 }
  unfolding charge
  charge-spent h = rw (lt-ltb allowance (count_of work) h)

  pub charge-fits : count_of work ≤ allowance → charge allowance work a ≡ record { answer = a; left = allowance - cost (count_of work) a }
  unfolding charge
  charge-fits h = rw (le-ltb allowance (count_of work) h)

  -- Where nothing is counted the answer is the one that there is without an allowance, and all of it is left.
  pub charge-free : count_of work ≡ 0 → charge allowance work a ≡ record { answer = a; left = allowance }
  charge-free e =
      let all : allowance - cost (count_of work) a ≡ allowance = omega (arith, cost-least (count_of work) a, e) in
      charge-fits (omega (arith, e)) ∙ ap (λ n. record { answer = a; left = n }) all

-- What a call that counts nothing promises, is its answer.
pub numbered-free : {a : Answer ℕ} (allowance : ℕ) (work : Answer ℕ) (r : Reply) {left : ℕ} → count_of work ≡ 0
    → NumberedCharged (charge allowance work a) r left → Numbered a r
numbered-free {a} allowance work r e n = n.says ∙ ap (λ c. c.answer) (charge-free allowance work a e)

pub named-free : {a : Answer Text} (allowance : ℕ) (work : Answer ℕ) {before after : List ℕ} {r : Reply} {left : ℕ} → count_of work ≡ 0
    → NamedCharged (charge allowance work a) before r after left → Named a before r after
named-free {a} allowance work {before} {after} {r} e n =
    subst (λ c. Named c.answer before r after) (charge-free allowance work a e) n.named

-- A stream that is refused: every call is refused so, and the whole allowance is left.
module _ (v : View) {why : Refusal} (e : v.header.answer ≡ Err why) where
  free-bases : (c : ℕ) → count_of (base_work v c) ≡ 0
  unfolding base_work
  free-bases c = rw e refl

  free-method : (c m : ℕ) → count_of (method_work v c m) ≡ 0
  unfolding method_work
  free-method c m = rw e refl

  free-number : (call : NumberCall) → count_of (number_work call v) ≡ 0
  free-number ClassCount = refl
  free-number (ClassFlags c) = refl
  free-number (ClassPacking c) = refl
  free-number (ClassSize c) = refl
  free-number (GenericCount c) = refl
  free-number (BaseCount c) = free-bases c
  free-number (MethodCount c) = refl
  free-number (MethodFlags c m) = refl
  free-number (MethodGenericCount c m) = refl
  free-number (ParameterCount c m) = free-method c m
  free-number ModuleRefCount = refl
  free-number (AssemblyVersion p) = refl
  free-number AssemblyRefCount = refl
  free-number (AssemblyRefVersion i p) = refl
  free-number ConstantCount = refl

  free-name : (call : NameCall) → count_of (name_work call v) ≡ 0
  free-name (ClassName c) = refl
  free-name (GenericName c g) = refl
  free-name (BaseName c b) = free-bases c
  free-name (MethodName c m) = refl
  free-name (MethodGenericName c m g) = refl
  free-name (ReturnType c m) = free-method c m
  free-name (ParameterType c m p) = free-method c m
  free-name (ParameterName c m p) = free-method c m
  free-name ModuleName = refl
  free-name (ModuleRefName i) = refl
  free-name AssemblyName = refl
  free-name AssemblyCulture = refl
  free-name (AssemblyRefName i) = refl
  free-name (AssemblyRefKey i) = refl
  free-name (ConstantValue i) = refl
  free-name Typelib = refl

  pub number-unopened : (call : NumberCall) (allowance : ℕ) → number_charged call v allowance ≡ record { answer = refused_by why; left = allowance }
  number-unopened call allowance =
      charge-free allowance (number_work call v) (number_answer call v) (free-number call)
      ∙ ap (λ a. record { answer = a; left = allowance }) ((opening-first v why e).0 call)

  pub name-unopened : (call : NameCall) (allowance : ℕ) → name_charged call v allowance ≡ record { answer = refused_by why; left = allowance }
  name-unopened call allowance =
      charge-free allowance (name_work call v) (name_answer call v) (free-name call)
      ∙ ap (λ a. record { answer = a; left = allowance }) ((opening-first v why e).1 call)

-- A refusal that stands before what is counted is the call's.
abbrev again : {A B : Type 0} → Refused → Answer A → Answer B
again w (refused u) = refused u
again w (value a) = refused w

abbrev IsValue : {A : Type 0} → Answer A → Type 0
IsValue (refused w) = ⊥
IsValue (value a) = Unit

no_value : {A : Type 0} {a : A} {w : Refused} → value a ≡ refused w → ⊥
no_value e = subst IsValue e tt

stands : {A B : Type 0} (a : Answer A) (steps : ℕ) (g : A → Answer B) (w : Refused) → (a ⟫ (λ _. value steps)) ≡ refused w → (a ⟫ g) ≡ refused w
stands (refused u) steps g w e = ap (again w) e
stands (value x) steps g w e = absurd (no_value e)

module _ (v : View) (w : Refused) where
  of-bases : {A : Type 0} (c : ℕ) (g : _ → Answer A) → base_work v c ≡ refused w → (the_class v c ⟫ g) ≡ refused w
  unfolding base_work
  of-bases c g e = stands (the_class v c) (base_steps v c) g w e

  of-method : {A : Type 0} (c m : ℕ) (g : _ → Answer A) → method_work v c m ≡ refused w → (the_method v c m ⟫ g) ≡ refused w
  unfolding method_work
  of-method c m g e = stands (the_method v c m) (steps_in v c (left_after v c + m)) g w e

  -- Where a call counts nothing because it is refused before that, its answer is that refusal.
  name-refused : (call : NameCall) → name_work call v ≡ refused w → name_answer call v ≡ refused w
  unfolding base_name return_type parameter_type parameter_name
  name-refused (ClassName c) e = absurd (no_value e)
  name-refused (GenericName c g) e = absurd (no_value e)
  name-refused (BaseName c b) e = of-bases c (λ k. item k.bases b) e
  name-refused (MethodName c m) e = absurd (no_value e)
  name-refused (MethodGenericName c m g) e = absurd (no_value e)
  name-refused (ReturnType c m) e = of-method c m (λ k. name_or_5 k.returns) e
  name-refused (ParameterType c m p) e = ap (λ a. a ⟫ (λ k. name_or_5 k.type)) (of-method c m (λ k. item k.parameters p) e)
  name-refused (ParameterName c m p) e = ap (λ a. a ⟫ (λ k. name_or_5 k.name)) (of-method c m (λ k. item k.parameters p) e)
  name-refused ModuleName e = absurd (no_value e)
  name-refused (ModuleRefName i) e = absurd (no_value e)
  name-refused AssemblyName e = absurd (no_value e)
  name-refused AssemblyCulture e = absurd (no_value e)
  name-refused (AssemblyRefName i) e = absurd (no_value e)
  name-refused (AssemblyRefKey i) e = absurd (no_value e)
  name-refused (ConstantValue i) e = absurd (no_value e)
  name-refused Typelib e = absurd (no_value e)

  number-refused : (call : NumberCall) → number_work call v ≡ refused w → number_answer call v ≡ refused w
  unfolding base_count parameter_count
  number-refused ClassCount e = absurd (no_value e)
  number-refused (ClassFlags c) e = absurd (no_value e)
  number-refused (ClassPacking c) e = absurd (no_value e)
  number-refused (ClassSize c) e = absurd (no_value e)
  number-refused (GenericCount c) e = absurd (no_value e)
  number-refused (BaseCount c) e = of-bases c (λ k. value (length k.bases)) e
  number-refused (MethodCount c) e = absurd (no_value e)
  number-refused (MethodFlags c m) e = absurd (no_value e)
  number-refused (MethodGenericCount c m) e = absurd (no_value e)
  number-refused (ParameterCount c m) e = of-method c m (λ k. value (length k.parameters)) e
  number-refused ModuleRefCount e = absurd (no_value e)
  number-refused (AssemblyVersion p) e = absurd (no_value e)
  number-refused AssemblyRefCount e = absurd (no_value e)
  number-refused (AssemblyRefVersion i p) e = absurd (no_value e)
  number-refused ConstantCount e = absurd (no_value e)

exactly : {A : Type 0} (work : Answer ℕ) (a : Answer A) (allowance : ℕ) → ((w : Refused) → work ≡ refused w → a ≡ refused w) → Exactly work a allowance
exactly work a allowance same = record {
  spent = λ steps e h. charge-spent allowance work a (rw e h);
  fits = λ steps e h. rw e (charge-fits allowance (value steps) a h);
  before = λ w e.
      let all : allowance - cost 0 a ≡ allowance = omega (arith, cost-least 0 a) in
      rw e (charge-fits allowance (refused w) a (omega arith) ∙ rw all (ap (λ x. record { answer = x; left = allowance }) (same w e)));
}

pub spent-exactly : SpentExactly
spent-exactly = record {
  numbers = λ v allowance call. exactly (number_work call v) (number_answer call v) allowance (λ w. number-refused v w call);
  names = λ v allowance call. exactly (name_work call v) (name_answer call v) allowance (λ w. name-refused v w call);
}

pub raising-keeps : RaisingKeeps
raising-keeps A work a allowance more h =
    by-lt allowance (count_of work)
    (λ lt. absurd (h (ap (λ c. c.answer) (charge-spent allowance work a lt))))
    (λ le.
    let one = charge-fits allowance work a le in
    let two = charge-fits (allowance + more) work a (omega arith) in
    let least = cost-least (count_of work) a in
    let sum : allowance + more - cost (count_of work) a ≡ allowance - cost (count_of work) a + more = omega arith in
    (ap (λ c. c.answer) two ∙ sym (ap (λ c. c.answer) one), ap (λ c. c.left) two ∙ sum ∙ ap (λ x. x + more) (sym (ap (λ c. c.left) one))))
