-- Calls on a stream and on an allowed rearrangement of it have one answer (record/proofs/Demand.antt), so their replies, their buffers and
-- what they leave of an allowance are the same. Assumes nothing.
use mathlib.Core.Path.{◌≡◌, sym, ap, ◌∙◌}
use mathlib.Core.List.{List, []}
use Prim.Native.Nat.{ℕ}
use lib.ListN.{length, replicate}
use Rattle.header.specs.declared.Options.{Options}
use Rattle.tables.specs.Extents.{walk_says, walk_of}
use Rattle.tables.specs.declared.Extents.{Extents}
use Rattle.tables.proofs.Outcome.{walk_same}
use Rattle.record.specs.View.{view}
use Rattle.record.specs.Rearrangement.{Rearranged}
use Rattle.record.specs.Answers.{NumberCall, NameCall}
use Rattle.record.specs.Allowance.{number_charged, name_charged, NumberedCharged, NamedCharged}
use Rattle.questions.specs.Questions.{number_call, name_call}
use Rattle.asks.specs.Asked.{Asked}
use Rattle.asks.specs.declared.Question.{Question}
use Rattle.asks.specs.declared.Question.TheVariants.{Number, Name}
use Rattle.record.proofs.Laws.{walk_is}
use Rattle.record.proofs.Demand.{rearrangement-survives}
use Rattle.buffers.specs.Replies.{Reply}

module _ {o : Options} {t u : List ℕ} (rearranged : Rearranged o t u) where
  pub number-alike : (strings blob : List ℕ) (call : NumberCall) (allowance : ℕ) {r r' : Reply} {left left' : ℕ}
      → NumberedCharged (number_charged call (view o t strings blob) allowance) r left
      → NumberedCharged (number_charged call (view o u strings blob) allowance) r' left' → (r' ≡ r) × (left' ≡ left)
  number-alike strings blob call allowance {r} {r'} {left} {left'} x y =
      (rearrangement-survives o t u strings blob rearranged).1.numbers-same call allowance r r' left left' x y

  pub name-alike : (strings blob : List ℕ) (call : NameCall) (allowance : ℕ) {b b' d d' : List ℕ} {r r' : Reply} {left left' : ℕ}
      → length b' ≡ length b
      → NamedCharged (name_charged call (view o t strings blob) allowance) b r d left
      → NamedCharged (name_charged call (view o u strings blob) allowance) b' r' d' left' → (r' ≡ r) × (d' ≡ d) × (left' ≡ left)
  name-alike strings blob call allowance {b} {b'} {d} {d'} {r} {r'} {left} {left'} l x y =
      (rearrangement-survives o t u strings blob rearranged).1.names_same call allowance b b' d d' r r' left left' l x y

  pub asked-alike : (strings blob : List ℕ) (question : Question) (allowance : ℕ) (b b' d d' : List ℕ) (r r' : Reply) (left left' : ℕ)
      → length b' ≡ length b → Asked (view o t strings blob) question allowance b d r left
      → Asked (view o u strings blob) question allowance b' d' r' left' → (r' ≡ r) × (d' ≡ d) × (left' ≡ left)
  asked-alike strings blob (Number q) allowance b b' d d' r r' left left' l x y =
      let same = number-alike strings blob (number_call q) allowance x.0 y.0 in
      (same.0, y.1 ∙ ap (λ (n : ℕ). replicate n 0) l ∙ sym x.1, same.1)
  asked-alike strings blob (Name q) allowance b b' d d' r r' left left' l x y = name-alike strings blob (name_call q) allowance l x y

  pub walk-alike : (w x : Extents) → walk_says w ≡ walk_of o t → walk_says x ≡ walk_of o u → x ≡ w
  walk-alike w x e f =
      walk_same x w (f ∙ sym (walk_is o u [] []) ∙ (rearrangement-survives o t u [] [] rearranged).1.walk_same ∙ walk_is o t [] [] ∙ sym e)
