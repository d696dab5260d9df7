-- What C asks, as the record answers it: the bits of the options, and the numbers of the questions in include/dotnet_tables.h.
use Rattle.std.specs.Prelude.{Bool, List, [], ◌∷◌, ℕ, ◌/◌, ◌%◌, eqb, Ok, Err}
use Rattle.std.proofs.Math.Option.{Option, none, some}
use Rattle.buffers.specs.Texts.{Text}
use Rattle.buffers.specs.Replies.{refused_by}
use Rattle.buffers.specs.declared.Refusal.{Refusal}
use Rattle.buffers.specs.declared.Refusal.TheVariants.{NoSuchRow}
use Rattle.header.specs.Stream.{Opened, base}
use Rattle.header.specs.declared.Options.{Options}
use Rattle.record.specs.View.{View}
use Rattle.record.specs.Types.{look}
use Rattle.record.specs.Answers.{NumberCall, ClassCount, ClassFlags, GenericCount, BaseCount, MethodCount, MethodFlags, MethodGenericCount, ParameterCount, ClassPacking, ClassSize}
use Rattle.record.specs.Answers.{NameCall, ClassName, GenericName, BaseName, MethodName, MethodGenericName, ReturnType, ParameterType, ParameterName}
use Rattle.record.specs.Allowance.{Charged, number_charged, name_charged}
use Rattle.questions.specs.Questions.{number_call, name_call}
use Rattle.questions.specs.declared.NumberQuestion.{NumberQuestion}
use Rattle.questions.specs.declared.NameQuestion.{NameQuestion}
use Rattle.std.specs.Prelude.{Some, None}
use Rattle.std.specs.declared.option.Option as std

-- Whether a set of bits has the bit of that value.
unfoldable pub has_bit : ℕ → ℕ → Bool
has_bit bits bit = eqb (bits / bit % 2) 1

-- The bits that have a meaning, DN_ and the option's name.
abbrev pub taker_bit : ℕ
taker_bit = 2

-- The options that a set of bits means: those of the base, and what its bits add. Bits without a meaning are ignored.
abbrev pub options_of : ℕ → Options
options_of bits = record { limit = base.limit; security = base.security; taker = has_bit bits taker_bit }

-- The calls by the numbers of their questions, DN_ASK_ and the call's name, with the call's arguments in its own order. One series: no
-- number means both a call for a number and a call for a name.
unfoldable pub number_questions : ℕ → ℕ → List (ℕ × Option NumberCall)
number_questions a b =
    (1, some ClassCount) ∷ (2, some (ClassFlags a)) ∷ (3, some (GenericCount a)) ∷ (4, some (BaseCount a)) ∷
    (5, some (MethodCount a)) ∷ (6, some (MethodFlags a b)) ∷ (7, some (MethodGenericCount a b)) ∷ (8, some (ParameterCount a b)) ∷
    (9, some (ClassPacking a)) ∷ (10, some (ClassSize a)) ∷
    []

unfoldable pub name_questions : ℕ → ℕ → ℕ → List (ℕ × Option NameCall)
name_questions a b c =
    (101, some (ClassName a)) ∷ (102, some (GenericName a b)) ∷ (103, some (BaseName a b)) ∷ (104, some (MethodName a b)) ∷
    (105, some (MethodGenericName a b c)) ∷ (106, some (ReturnType a b)) ∷ (107, some (ParameterType a b c)) ∷ (108, some (ParameterName a b c)) ∷
    []

abbrev pub number_asked : ℕ → ℕ → ℕ → Option NumberCall
number_asked question a b = look question (number_questions a b) none

abbrev pub name_asked : ℕ → ℕ → ℕ → ℕ → Option NameCall
name_asked question a b c = look question (name_questions a b c) none

-- No question has such a number: 4, after the refusals of opening.
abbrev pub no_question : Opened → Refusal
no_question (Err why) = why
no_question (Ok tt) = NoSuchRow

-- What a question is answered within an allowance. One that there is not takes nothing of it.
abbrev pub no_such : {A : Type 0} → View → ℕ → Charged A
no_such v allowance = record { answer = refused_by (no_question v.header.answer); left = allowance }

abbrev pub asked_number : Option NumberCall → View → ℕ → Charged ℕ
asked_number none v allowance = no_such v allowance
asked_number (some call) v allowance = number_charged call v allowance

abbrev pub asked_name : Option NameCall → View → ℕ → Charged Text
asked_name none v allowance = no_such v allowance
asked_name (some call) v allowance = name_charged call v allowance

-- What the code found a question number to mean.
abbrev pub number_meant : std.Option NumberQuestion → Option NumberCall
number_meant None = none
number_meant (Some q) = some (number_call q)

abbrev pub name_meant : std.Option NameQuestion → Option NameCall
name_meant None = none
name_meant (Some q) = some (name_call q)
