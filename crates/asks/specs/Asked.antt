-- What any question comes to, asked within an allowance of steps: its reply, the buffer, and what is left.
use Rattle.std.specs.Prelude.{◌≡◌, List, ℕ, length, replicate}
use Rattle.record.specs.View.{View}
use Rattle.record.specs.Allowance.{number_charged, name_charged, NumberedCharged, NamedCharged}
use Rattle.questions.specs.Questions.{number_call, name_call}
use Rattle.asks.specs.declared.Question.{Question}
use Rattle.asks.specs.declared.Question.TheVariants.{Number, Name}
use Rattle.buffers.specs.Replies.{Reply}

-- A number stands in the reply, and the buffer is then all zeros.
abbrev pub Asked : View → Question → ℕ → List ℕ → List ℕ → Reply → ℕ → Type 0
Asked v (Number q) steps before after reply left =
    NumberedCharged (number_charged (number_call q) v steps) reply left × (after ≡ replicate (length before) 0)
Asked v (Name q) steps before after reply left = NamedCharged (name_charged (name_call q) v steps) before reply after left
