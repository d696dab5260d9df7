-- A question answered as a number or as a name is answered as it asks. Assumes nothing.
use mathlib.Core.Path.{◌≡◌, refl, sym, subst, ◌∙◌}
use mathlib.Core.List.{List}
use Prim.Native.Nat.{ℕ}
use native.Mathlib.Numerals.{unary_clauses}
use lib.ListN.{length, replicate}
use Rattle.buffers.specs.Replies.{Reply, cleared}
use Rattle.record.specs.View.{View}
use Rattle.record.specs.Allowance.{number_charged, name_charged, NumberedCharged, NamedCharged}
use Rattle.questions.specs.Questions.{number_call, name_call}
use Rattle.questions.specs.declared.NumberQuestion.{NumberQuestion}
use Rattle.questions.specs.declared.NameQuestion.{NameQuestion}
use Rattle.asks.specs.Asked.{Asked}
use Rattle.asks.specs.declared.Question.{Question}
use Rattle.asks.specs.declared.Question.TheVariants.{Number, Name}

all-cleared : (b : List ℕ) → cleared b 0 ≡ replicate (length b) 0
unfolding cleared
all-cleared b = simp unary_clauses refl

module _ (v : View) (steps : ℕ) (before after : List ℕ) {question : Question} {reply : Reply} {left : ℕ} where
  pub asked-number : {q : NumberQuestion} → question ≡ Number q → NumberedCharged (number_charged (number_call q) v steps) reply left
      → after ≡ cleared before 0 → Asked v question steps before after reply left
  asked-number e answered clear =
      subst (λ (x : Question). Asked v x steps before after reply left) (sym e) (answered, clear ∙ all-cleared before)

  pub asked-name : {q : NameQuestion} → question ≡ Name q → NamedCharged (name_charged (name_call q) v steps) before reply after left
      → Asked v question steps before after reply left
  asked-name e answered = subst (λ (x : Question). Asked v x steps before after reply left) (sym e) answered
