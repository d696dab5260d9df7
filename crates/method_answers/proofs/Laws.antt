-- What a method that is there counts, and one that is not. Assumes nothing.
use mathlib.Core.Path.{◌≡◌, sym, ap, subst, ◌∙◌}
use Prim.Native.Nat.{ℕ, ◌+◌}
use native.Mathlib.Omega.{arith}
use Rattle.buffers.specs.Replies.{refused_by, value}
use Rattle.buffers.specs.declared.Refusal.TheVariants.{NoSuchRow}
use Rattle.record.specs.View.{View}
use Rattle.record.specs.Methods.{left_after, steps_in}
use Rattle.record.specs.Record.{Method}
use Rattle.record.specs.Answers.{◌⟫◌, the_method}
use Rattle.record.specs.Allowance.{count_of, method_work}
use Rattle.steps.specs.Counting.{Steps, Takes, left}
use Rattle.std.specs.Prelude.{Some}

module _ (v : View) (c m : ℕ) where
  pub method-counts : {i : ℕ} {k : Method} → the_method v c m ≡ value k → i ≡ left_after v c + m → count_of (method_work v c m) ≡ steps_in v c i
  unfolding method_work
  method-counts is at =
      ap (λ a. count_of (a ⟫ (λ _. value (steps_in v c (left_after v c + m))))) is ∙ sym (ap (steps_in v c) at)

  pub no-method-counts : the_method v c m ≡ refused_by NoSuchRow → count_of (method_work v c m) ≡ 0
  unfolding method_work
  no-method-counts is = ap (λ a. count_of (a ⟫ (λ _. value (steps_in v c (left_after v c + m))))) is

  pub method-takes : {i : ℕ} {k : Method} → the_method v c m ≡ value k → i ≡ left_after v c + m → {steps : ℕ} {r : Steps}
      → Takes (steps_in v c i) steps r → Takes (count_of (method_work v c m)) steps r
  method-takes is at {steps} {r} takes = subst (λ (n : ℕ). Takes n steps r) (sym (method-counts is at)) takes

  pub no-method-takes : the_method v c m ≡ refused_by NoSuchRow → (steps : ℕ) → Takes (count_of (method_work v c m)) steps (Some steps)
  no-method-takes is steps = left {rest = steps} (omega (arith, no-method-counts is))
