-- Demand 3 as the calls for C meet it: asked alike on a tables stream and on an allowed rearrangement of it, each gives the same reply, leaves
-- the same buffer and leaves as much of the steps. A call's contract promises one of the forms below; the raw lookup (`told_lookup`) does not read the tables.
use Rattle.std.specs.Prelude.{◌≡◌, List, ℕ, length}
use Rattle.std.proofs.Math.Option.{Option}
use Rattle.header.specs.declared.Options.{Options}
use Rattle.tables.specs.Extents.{walk_of}
use Rattle.record.specs.View.{view}
use Rattle.record.specs.Rearrangement.{Rearranged}
use Rattle.record.specs.Answers.{NumberCall, number_answer, NameCall, name_answer}
use Rattle.c_replies.specs.Told.{told, ToldName, ToldNumberCharged, ToldNameCharged, told_extent}
use Rattle.c_replies.specs.declared.DnReply.{DnReply}
use Rattle.c_questions.specs.Asked.{asked_number, asked_name}

-- The two tables streams, opened alike and with the same heaps, have the same replies and buffers: where the walk stops, what it says of
-- each kind, every call for a number, and every call for a name with buffers of equal length, however filled before. `none` is what a
-- question number means that there is not.
pub record SameReplies (o : Options) (t u strings blob : List ℕ) : Type 0 where
  pub stop-same : told (walk_of o u).stop ≡ told (walk_of o t).stop
  pub extents-same : (kind : ℕ) → told_extent (walk_of o u) kind ≡ told_extent (walk_of o t) kind
  pub numbers-same :
      (call : Option NumberCall) (allowance : ℕ) (r r' : DnReply) (left left' : ℕ)
      → ToldNumberCharged (asked_number call (view o t strings blob) allowance) r left
      → ToldNumberCharged (asked_number call (view o u strings blob) allowance) r' left'
      → (r' ≡ r) × (left' ≡ left)
  pub names_same :
      (call : Option NameCall) (allowance : ℕ) (before before' after after' : List ℕ) (r r' : DnReply) (left left' : ℕ)
      → length before' ≡ length before
      → ToldNameCharged (asked_name call (view o t strings blob) allowance) before r after left
      → ToldNameCharged (asked_name call (view o u strings blob) allowance) before' r' after' left'
      → (r' ≡ r) × (after' ≡ after) × (left' ≡ left)
  -- The calls that take no steps.
  pub plain-numbers-same :
      (call : NumberCall) → told (number_answer call (view o u strings blob)) ≡ told (number_answer call (view o t strings blob))
  pub plain-names-same :
      (call : NameCall) (before before' after after' : List ℕ) (r r' : DnReply) → length before' ≡ length before
      → ToldName (name_answer call (view o t strings blob)) before r after
      → ToldName (name_answer call (view o u strings blob)) before' r' after'
      → (r' ≡ r) × (after' ≡ after)

abbrev pub CallsAlike : Type 0
CallsAlike = (o : Options) (t u strings blob : List ℕ) → Rearranged o t u → SameReplies o t u strings blob
