-- Laws for the callers of `skip_run`: the definition of types obeys the three tags, and what is known of a run.
-- Assumes nothing.
use mathlib.Core.Path.{refl, ◌∙◌}
use mathlib.Core.List.{List}
use Prim.Native.Nat.{ℕ, suc}
use borrow.Author.Tests.{lt-ltb}
use lib.ListN.{length}
use Rattle.record.specs.Types.{Env, look, form, type}
use Rattle.record.proofs.Unfold.{type-is}
use Rattle.shapes.specs.Runs.{SameLevel, Plain, Leads, Stops, Skips, ran, broke}
use Rattle.std.specs.Prelude.{Ok, Err}

pub type-same-level : (e : Env) (l : ℕ) → SameLevel (type e (suc l))
unfolding form look
type-same-level e l = record {
  vector = λ s at lt b. type-is e l s at ∙ rw (lt-ltb at (length s) lt, b) refl;
  required = λ s at lt b. type-is e l s at ∙ rw (lt-ltb at (length s) lt, b) refl;
  optional = λ s at lt b. type-is e l s at ∙ rw (lt-ltb at (length s) lt, b) refl;
}

-- What a run says of the position at which it begins, by its case.
module _ {s : List ℕ} {pos : ℕ} where
  pub run-leads : {n next : ℕ} → Skips s pos (Ok (n, next)) → Leads s pos n next
  run-leads (ran l p) = l

  pub run-plain : {n next : ℕ} → Skips s pos (Ok (n, next)) → Plain s next
  run-plain (ran l p) = p

  pub run-stops : {next : ℕ} → Skips s pos (Err next) → Stops s pos next
  run-stops (broke l) = l
