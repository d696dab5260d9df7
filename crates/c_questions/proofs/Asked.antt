-- A question that is asked by its number, answered as the call that it means; and one that there is not. Assumes nothing.
use mathlib.Core.Path.{◌≡◌, refl, ap}
use mathlib.Core.List.{List}
use mathlib.Core.Option.{Option, none, some}
use Prim.Native.Nat.{ℕ}
use Rattle.buffers.specs.Replies.{Reply, refused_by, Named}
use Rattle.buffers.specs.declared.Refusal.{Refusal}
use Rattle.header.specs.Stream.{opened}
use Rattle.header.specs.declared.Options.{Options}
use Rattle.record.specs.View.{View, view, view_of}
use Rattle.record.specs.Answers.{NumberCall, NameCall}
use Rattle.record.specs.Allowance.{number_charged, name_charged, NumberedCharged, NamedCharged}
use Rattle.c_questions.specs.Asked.{no_question, asked_number, asked_name}
use Rattle.std.specs.Prelude.{Err}

module _ (v : View) (allowance : ℕ) where
  pub asked-number : {call : NumberCall} {asked : Option NumberCall} {r : Reply} {left : ℕ} → some call ≡ asked
      → NumberedCharged (number_charged call v allowance) r left → NumberedCharged (asked_number asked v allowance) r left
  asked-number e n = rw (← e) n

  pub asked-name : {call : NameCall} {asked : Option NameCall} {r : Reply} {b b' : List ℕ} {left : ℕ} → some call ≡ asked
      → NamedCharged (name_charged call v allowance) b r b' left → NamedCharged (asked_name asked v allowance) b r b' left
  asked-name e n = rw (← e) n

module _ (o : Options) (t strings blob : List ℕ) (allowance : ℕ) {why : Refusal} (e : why ≡ no_question (opened o t).answer) where
  pub no_number : {asked : Option NumberCall} → none ≡ asked
      → NumberedCharged (asked_number asked (view o t strings blob) allowance) (Err why) allowance
  unfolding view_of
  no_number f = rw (← f) (record { says = ap (λ (w : Refusal). refused_by w) e; leaves = refl })

  pub no_name : {asked : Option NameCall} {r : Reply} {b b' : List ℕ} → none ≡ asked → Named (refused_by why) b r b'
      → NamedCharged (asked_name asked (view o t strings blob) allowance) b r b' allowance
  unfolding view_of
  no_name f n = rw (← f) (record { named = rw (← e) n; leaves = refl })
