-- A listing and its pieces are functions of the view, and so are the same of rearranged streams. Assumes nothing.
use mathlib.Core.Path.{◌≡◌, refl, sym, ap, ◌∙◌}
use mathlib.Core.List.{List}
use Prim.Native.Nat.{ℕ, ◌<◌}
use native.Mathlib.Omega.{arith}
use borrow.Author.Tests.{lt-leb}
use lib.ListN.{length, length-append}
use Rattle.numbers.proofs.Pick.{by-lt}
use Rattle.buffers.specs.Replies.{Answer, refused_by, value}
use Rattle.buffers.specs.declared.Refusal.TheVariants.{BadInput}
use Rattle.bundle.specs.Input.{Inputs, bundle_of, bundle_says, input_of}
use Rattle.bundle.proofs.Made.{opens}
use Rattle.header.specs.Stream.{base}
use Rattle.record.specs.View.{view}
use Rattle.record.specs.Rearrangement.{Rearranged}
use Rattle.record.specs.Answers.{◌⟫◌}
use Rattle.record.proofs.Demand.{rearrangement-survives}
use Rattle.lines.specs.Listing.{or_refused, listing, listing_of}
use Rattle.listing_steps.specs.Filling.{piece_of, answer_piece, input_piece}
use Rattle.listing_whole.specs.Alike.{ListingsAlike, PiecesAlike, InputsAlike}

pub listings-alike : ListingsAlike
listings-alike o t u strings blob r = (rearrangement-survives o t u strings blob r).1.all-else-same listing

pub pieces-alike : PiecesAlike
pieces-alike o t u strings blob r room c =
    (rearrangement-survives o t u strings blob r).1.all-else-same (λ v. piece_of v room c)

-- An input of more than 65,536 bytes is malformed.
too_long : (s : List ℕ) → 65536 < length s → bundle_says s (bundle_of s) ≡ refused_by BadInput
unfolding bundle_of
too_long s h = rw (lt-leb _ _ h) refl

module _ (t u strings blob : List ℕ) (r : Rearranged base t u) where
  abbrev with : List ℕ → Inputs
  with tables = record { tables = tables; strings = strings; blob = blob }

  abbrev said : List ℕ → Answer Inputs
  said tables = bundle_says (input_of (with tables)) (bundle_of (input_of (with tables)))

  one-length : length (input_of (with u)) ≡ length (input_of (with t))
  unfolding input_of
  one-length = simp (length-append, r.same_length)

  -- What is the same of the streams is the same of the input that they make.
  input-alike : {A : Type 0} (of : Answer Inputs → A) → of (value (with u)) ≡ of (value (with t)) → of (said u) ≡ of (said t)
  input-alike of same =
      by-lt 65536 (length (input_of (with t)))
      (λ long. ap of (too_long _ (omega (arith, one-length)) ∙ sym (too_long _ long)))
      (λ fits. ap of (opens.found (with u) (omega (arith, one-length))) ∙ same ∙ sym (ap of (opens.found (with t) fits)))

pub inputs-alike : InputsAlike
unfolding listing_of input_piece
inputs-alike t u strings blob r = (
  input-alike t u strings blob r (λ a. or_refused (a ⟫ λ i. value (listing (view base i.tables i.strings i.blob))))
      (listings-alike base t u strings blob r),
  λ room c. input-alike t u strings blob r (λ a. answer_piece a room c) (pieces-alike base t u strings blob r room c),
)
