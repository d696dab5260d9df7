-- What an answer for a name comes to at a place of a buffer, before anyone judges its length.
use Rattle.std.specs.Prelude.{◌≡◌, List, ℕ, Result, Ok, Err}
use Rattle.buffers.specs.Texts.{Text}
use Rattle.buffers.specs.Writes.{Kept, Wrote}
use Rattle.buffers.specs.Replies.{Answer, refused_by, value}
use Rattle.buffers.specs.declared.Refusal.{Refusal}
use Rattle.buffers.specs.declared.Refusal.TheVariants.{NoSuchRow, NoName}
use Rattle.buffers.specs.declared.Reason.{Reason}
use Rattle.buffers.specs.declared.Unnamed.{Unnamed}
use Rattle.buffers.specs.declared.Unnamed.TheVariants.{Missing, NoRow}

-- What an answer for a name came to, as the code has it.
abbrev pub Told : Type 0
Told = Result ℕ Unnamed

-- The refusal of a call whose answer wrote no name.
abbrev pub unnamed : Unnamed → Refusal
unnamed (Missing why) = NoName why
unnamed NoRow = NoSuchRow

-- From the buffer b to b' the answer a came to that: its text was written at the place; or it has none, and nothing before the place
-- changed. Of streams that were opened there is no other refusal.
pub data ToldIs (a : Answer Text) (b : List ℕ) (at : ℕ) (b' : List ℕ) : Told → Type 0 where
  name : {at' : ℕ} (t : Text) → a ≡ value t → Wrote b at t b' at' → ToldIs a b at b' (Ok at')
  missing : {why : Reason} → a ≡ refused_by (NoName why) → Kept b at b' → ToldIs a b at b' (Err (Missing why))
  no_row : a ≡ refused_by NoSuchRow → Kept b at b' → ToldIs a b at b' (Err NoRow)
