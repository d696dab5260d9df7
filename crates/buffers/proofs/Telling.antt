-- Laws of what an answer came to.
--     told-name, told-missing, told-no-row    what each case says
--     told_same                               of an answer that is another
--     told-some, told_none, told_by_place     by what a text that may be missing came to
--     ends-name                               a call is ended by it
-- Assumes nothing.
use mathlib.Core.Path.{◌≡◌, ◌∙◌, ap}
use mathlib.Core.List.{List}
use mathlib.Core.Option.{Option, none, some}
use Prim.Native.Nat.{ℕ}
use Rattle.std.specs.Prelude.{Some, None, ok_or, Ok, Err}
use Rattle.buffers.specs.Texts.{Text}
use Rattle.buffers.specs.Writes.{Kept, Wrote, Said, Place, place_says}
use Rattle.buffers.specs.Replies.{Answer, refused_by, value, Reply, name_or_5, held, Named}
use Rattle.buffers.specs.Telling.{Told, ToldIs, name, missing, no_row}
use Rattle.buffers.specs.declared.Refusal.TheVariants.{NoSuchRow, NoName}
use Rattle.buffers.specs.declared.Reason.{Reason}
use Rattle.buffers.specs.declared.Reason.TheVariants.{Untold}
use Rattle.buffers.specs.declared.Unnamed.TheVariants.{Missing, NoRow}
use Rattle.buffers.proofs.Writing.{said-some, said-none}
use Rattle.buffers.proofs.Replies.{named-text}

-- The text of an answer that was written.
pub record NameTold (a : Answer Text) (b : List ℕ) (at : ℕ) (b' : List ℕ) (at' : ℕ) : Type 0 where
  pub text : Text
  pub is : a ≡ value text
  pub wrote : Wrote b at text b' at'

module _ {a : Answer Text} {b b' : List ℕ} {at : ℕ} where
  pub told-name : {at' : ℕ} → ToldIs a b at b' (Ok at') → NameTold a b at b' at'
  told-name (name t e w) = record { text = t; is = e; wrote = w }

  pub told-missing : {why : Reason} → ToldIs a b at b' (Err (Missing why)) → (a ≡ refused_by (NoName why)) × Kept b at b'
  told-missing (missing e k) = (e, k)

  pub told-no-row : ToldIs a b at b' (Err NoRow) → (a ≡ refused_by NoSuchRow) × Kept b at b'
  told-no-row (no_row e k) = (e, k)

  pub told_same : {a' : Answer Text} {r : Told} → a' ≡ a → ToldIs a b at b' r → ToldIs a' b at b' r
  told_same e (name t f w) = name t (e ∙ f) w
  told_same e (missing f k) = missing (e ∙ f) k
  told_same e (no_row f k) = no_row (e ∙ f) k

-- What a text that may be missing came to.
module _ {o : Option Text} {b b' : List ℕ} {at : ℕ} where
  pub told-some : {at' : ℕ} → Said b at b' o (some at') → ToldIs (name_or_5 o) b at b' (Ok at')
  told-some s = let there = said-some s in name there.text (ap name_or_5 there.is) there.wrote

  pub told_none : Said b at b' o none → ToldIs (name_or_5 o) b at b' (Err (Missing Untold))
  told_none s = let gone = said-none s in missing (ap name_or_5 gone.0) gone.1

  pub told_by_place : (p : Place) → Said b at b' o (place_says p) → ToldIs (name_or_5 o) b at b' (ok_or p (Missing Untold))
  told_by_place (Some at') s = told-some s
  told_by_place None s = told_none s

-- A call is ended by what its answer came to at the buffer's start.
module _ {a : Answer Text} {b b₁ b₂ : List ℕ} {r : Reply} where
  pub ends-name : {at : ℕ} → ToldIs a b 0 b₁ (Ok at) → Named (held b₁ at) b₁ r b₂ → Named a b r b₂
  ends-name (name t e w) n = rw e (named-text w n)
