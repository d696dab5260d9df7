-- A ceiling on the work of signatures (2026-06): how many type bytes a call counts, what it answers within an allowance of steps, and what
-- is left of that.
use Rattle.std.specs.Prelude.{◌≡◌, ◌≢◌, Bool, cond, ◌||◌, List, ℕ, ◌+◌, ◌-◌, ◌≤◌, ◌<◌, eqb, ltb}
use Rattle.buffers.specs.Texts.{Text}
use Rattle.buffers.specs.Replies.{Reply, number, Refused, Answer, refused, refused_by, value, Named}
use Rattle.buffers.specs.declared.Reason.TheVariants.{Untold}
use Rattle.buffers.specs.declared.Refusal.TheVariants.{NoName, BufferTooSmall, TooManySteps}
use Rattle.record.specs.View.{View}
use Rattle.record.specs.Names.{base_steps}
use Rattle.record.specs.Methods.{left_after, steps_in}
use Rattle.record.specs.Answers.{◌⟫◌, the_class, the_method, Numbered}
use Rattle.record.specs.Answers.{NumberCall, ClassCount, ClassFlags, ClassPacking, ClassSize, GenericCount, BaseCount, MethodCount, MethodFlags, MethodGenericCount, ParameterCount, ModuleRefCount, AssemblyVersion, AssemblyRefCount, AssemblyRefVersion, ConstantCount, number_answer}
use Rattle.record.specs.Answers.{NameCall, ClassName, GenericName, BaseName, MethodName, MethodGenericName, ReturnType, ParameterType, ParameterName, ModuleName, ModuleRefName, AssemblyName, AssemblyCulture, AssemblyRefName, AssemblyRefKey, ConstantValue, Typelib, name_answer}

-- What a call for a base type, or for their number, counts: of a class that is there, all of its base types.
unfoldable pub base_work : View → ℕ → Answer ℕ
base_work v c = the_class v c ⟫ λ _. value (base_steps v c)

-- What a call for a method's types, parameter names or number of parameters counts: of a method that is there, all readings of its whole
-- signature that the mode makes. Method m of class c is method left_after v c + m of all.
unfoldable pub method_work : View → ℕ → ℕ → Answer ℕ
method_work v c m = the_method v c m ⟫ λ _. value (steps_in v c (left_after v c + m))

-- What each call counts. Where 1, 2, 3, or 4 for its class or method refuses it, it counts nothing, and that refusal stands.
abbrev pub number_work : NumberCall → View → Answer ℕ
number_work ClassCount v = value 0
number_work (ClassFlags c) v = value 0
number_work (ClassPacking c) v = value 0
number_work (ClassSize c) v = value 0
number_work (GenericCount c) v = value 0
number_work (BaseCount c) v = base_work v c
number_work (MethodCount c) v = value 0
number_work (MethodFlags c m) v = value 0
number_work (MethodGenericCount c m) v = value 0
number_work (ParameterCount c m) v = method_work v c m
number_work ModuleRefCount v = value 0
number_work (AssemblyVersion p) v = value 0
number_work AssemblyRefCount v = value 0
number_work (AssemblyRefVersion i p) v = value 0
number_work ConstantCount v = value 0

abbrev pub name_work : NameCall → View → Answer ℕ
name_work (ClassName c) v = value 0
name_work (GenericName c g) v = value 0
name_work (BaseName c b) v = base_work v c
name_work (MethodName c m) v = value 0
name_work (MethodGenericName c m g) v = value 0
name_work (ReturnType c m) v = method_work v c m
name_work (ParameterType c m p) v = method_work v c m
name_work (ParameterName c m p) v = method_work v c m
name_work ModuleName v = value 0
name_work (ModuleRefName i) v = value 0
name_work AssemblyName v = value 0
name_work AssemblyCulture v = value 0
name_work (AssemblyRefName i) v = value 0
name_work (AssemblyRefKey i) v = value 0
name_work (ConstantValue i) v = value 0
name_work Typelib v = value 0

-- An answer, and what is left of the allowance.
pub record Charged (A : Type 0) : Type 0 where
  pub answer : Answer A
  pub left : ℕ

-- So many steps are counted: none where a refusal stands before them.
abbrev pub count_of : Answer ℕ → ℕ
count_of (refused w) = 0
count_of (value steps) = steps

-- Whether a refusal with this number is paid for: 5 and 6 are.
abbrev pub is_paid : ℕ → Bool
is_paid n = eqb n (number (NoName Untold)) || eqb n (number BufferTooSmall)

-- What an answer costs of the steps that were counted: all of them for a number, a name, 5 and 6; nothing for any other refusal.
unfoldable pub cost : {A : Type 0} → ℕ → Answer A → ℕ
cost steps (value a) = steps
cost steps (refused w) = cond (is_paid w.number) steps 0

-- The answer a of a call that counts so much, within an allowance: 11, which leaves nothing, exactly where it counts more.
unfoldable pub charge : {A : Type 0} → ℕ → Answer ℕ → Answer A → Charged A
charge allowance work a =
    cond (ltb allowance (count_of work))
    (record { answer = refused_by TooManySteps; left = 0 })
    (record { answer = a; left = allowance - cost (count_of work) a })

abbrev pub number_charged : NumberCall → View → ℕ → Charged ℕ
number_charged call v allowance = charge allowance (number_work call v) (number_answer call v)

abbrev pub name_charged : NameCall → View → ℕ → Charged Text
name_charged call v allowance = charge allowance (name_work call v) (name_answer call v)

-- The promises of the calls: of the reply, of the buffer, and of what is left.
pub record NumberedCharged (a : Charged ℕ) (r : Reply) (left : ℕ) : Type 0 where
  pub says : Numbered a.answer r
  pub leaves : left ≡ a.left

pub record NamedCharged (a : Charged Text) (before : List ℕ) (r : Reply) (after : List ℕ) (left : ℕ) : Type 0 where
  pub named : Named a.answer before r after
  pub leaves : left ≡ a.left

-- What a listing allows for each name, and whether a call counts more.
abbrev pub ceiling : ℕ
ceiling = 1_000_000

unfoldable pub is_over : Answer ℕ → Bool
is_over work = ltb ceiling (count_of work)

-- ---- What is claimed (proofs/Allowance.antt)

-- A call that counts so many steps: 11, which leaves nothing, exactly where they exceed the allowance; else the answer that it has without
-- one, paid for. A call that is refused before it counts: that refusal, and nothing is paid.
pub record Exactly {A : Type 0} (work : Answer ℕ) (a : Answer A) (allowance : ℕ) : Type 0 where
  pub spent : (steps : ℕ) → work ≡ value steps → allowance < steps → charge allowance work a ≡ record { answer = refused_by TooManySteps; left = 0 }
  pub fits : (steps : ℕ) → work ≡ value steps → steps ≤ allowance → charge allowance work a ≡ record { answer = a; left = allowance - cost steps a }
  pub before : (w : Refused) → work ≡ refused w → charge allowance work a ≡ record { answer = refused w; left = allowance }

pub record SpentExactly : Type 0 where
  pub numbers : (v : View) (allowance : ℕ) (call : NumberCall) → Exactly (number_work call v) (number_answer call v) allowance
  pub names : (v : View) (allowance : ℕ) (call : NameCall) → Exactly (name_work call v) (name_answer call v) allowance

-- Raising the allowance never alters an answer other than 11, and what is left is more by as much.
abbrev pub RaisingKeeps : Type 1
RaisingKeeps =
    (A : Type 0) (work : Answer ℕ) (a : Answer A) (allowance more : ℕ) → (charge allowance work a).answer ≢ refused_by TooManySteps
    → ((charge (allowance + more) work a).answer ≡ (charge allowance work a).answer)
    × ((charge (allowance + more) work a).left ≡ (charge allowance work a).left + more)
