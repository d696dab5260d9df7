-- The one contract of everything that renders a part of a signature.
use Rattle.std.specs.Prelude.{◌≡◌, List, ℕ, Result, Ok, Err}
use Rattle.std.proofs.Math.Option.{none, some}
use Rattle.numbers.specs.Reading.{Res}
use Rattle.buffers.specs.Texts.{Text}
use Rattle.buffers.specs.Writes.{Kept, Wrote}

-- A rendering, as the code has it.
abbrev pub Rendering : Type 0
Rendering = Result (ℕ × ℕ) ℕ

-- From the buffer b to b', at a place, r is what the reading d comes to: its text was appended, or it has none and nothing before the
-- place changed; and the position after it is the reading's. Behind the place of a text that is missing there may be anything.
pub data Rendered (d : Res Text) (b : List ℕ) (at : ℕ) (b' : List ℕ) : Rendering → Type 0 where
  done : {at' next : ℕ} (t : Text) → d.got ≡ some t → d.next ≡ next → Wrote b at t b' at' → Rendered d b at b' (Ok (at', next))
  failed : {next : ℕ} → d.got ≡ none → d.next ≡ next → Kept b at b' → Rendered d b at b' (Err next)
