-- What one question has learnt for the next.
use Rattle.std.specs.Prelude.{List, ℕ}
use Rattle.record.specs.View.{View}
use Rattle.places.specs.Places.{Owns}
use Rattle.method_signatures.specs.Known.{KnowsSignature}
use Rattle.bases.specs.Candidates.{KnowsBases}
use Rattle.answers.specs.declared.Known.{Known}

-- It is true of the view v, and of the blob heap in which signatures stand; whatever was asked before.
pub record Knows (v : View) (heap : List ℕ) (k : Known) : Type 0 where
  pub own : Owns v k.own
  pub signature : KnowsSignature v heap k.signature
  pub bases : KnowsBases v k.bases
