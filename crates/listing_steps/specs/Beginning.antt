-- The line at a cursor, begun: its key is written, and what follows it is known; and of a name, what is beyond the ceiling.
use Rattle.std.specs.Prelude.{◌≡◌, Bool, List, ℕ, ◌≤◌, length}
use Rattle.buffers.specs.Texts.{Text}
use Rattle.buffers.specs.Writes.{Wrote, Kept}
use Rattle.record.specs.View.{View}
use Rattle.record.specs.Answers.{number_answer}
use Rattle.record.specs.Allowance.{name_work, is_over}
use Rattle.questions.specs.Questions.{number_call, name_call}
use Rattle.questions.specs.declared.NumberQuestion.{NumberQuestion}
use Rattle.questions.specs.declared.NameQuestion.{NameQuestion}
use Rattle.lines.specs.Lines.{longest_key}
use Rattle.lines.specs.Ceiling.{listed}
use Rattle.lines.specs.Cursors.{is_over_at, ShowsNumber, ShowsName}
use Rattle.lines.specs.declared.Place.TheVariants as place
use Rattle.lines.specs.declared.Cursor.{Cursor}
use Rattle.listing_steps.specs.declared.Line.{Line}
use Rattle.listing_steps.specs.declared.Line.TheVariants.{Stop, Number, Name, Done}

pub data Begun (v : View) (c : Cursor) (o : List ℕ) (at : ℕ) (o' : List ℕ) : Line → Type 0 where
  stop : c.place ≡ place.Stop → Kept o at o' → Begun v c o at o' Stop
  number : {start : ℕ} {question : NumberQuestion} {optional : Bool} {next : Cursor} (key : Text) → Wrote o at key o' start
      → ShowsNumber v c key optional (number_answer (number_call question) v) next → Begun v c o at o' (Number start question optional next)
  name : {start : ℕ} {question : NameQuestion} {more past : Cursor} (key : Text) → length key ≤ longest_key → Wrote o at key o' start
      → ShowsName v c key (listed (name_call question) v) more past → is_over (name_work (name_call question) v) ≡ is_over_at v c
      → Begun v c o at o' (Name start question more past)
  done : c.place ≡ place.Done → Kept o at o' → Begun v c o at o' Done
