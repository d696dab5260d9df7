-- From a line that has begun to a step of the listing. Assumes nothing.
use mathlib.Core.Path.{◌≡◌, sym, ◌∙◌, subst}
use mathlib.Core.Bool.{Bool, false, cond}
use mathlib.Core.List.{List}
use Prim.Native.Nat.{ℕ, ◌+◌, ◌≤◌}
use native.Mathlib.Omega.{arith}
use lib.ListN.{length}
use Rattle.buffers.specs.Texts.{Text}
use Rattle.buffers.specs.Writes.{Wrote, Kept}
use Rattle.buffers.proofs.Writing.{wrote-anew}
use Rattle.record.specs.View.{View}
use Rattle.record.specs.Answers.{number_answer}
use Rattle.record.specs.Allowance.{name_work, is_over}
use Rattle.questions.specs.Questions.{number_call, name_call}
use Rattle.questions.specs.declared.NumberQuestion.{NumberQuestion}
use Rattle.questions.specs.declared.NameQuestion.{NameQuestion}
use Rattle.lines.specs.Lines.{name_room, line_room, numbered_line, name_line, goes_on}
use Rattle.lines.specs.Ceiling.{listed}
use Rattle.lines.specs.Cursors.{cursor, line_at, next_at, is_over_at, Went, Stepped}
use Rattle.lines.specs.declared.Place.{Place}
use Rattle.lines.specs.declared.Place.TheVariants as place
use Rattle.lines.specs.declared.Cursor.{Cursor}
use Rattle.lines.specs.declared.Step.{Step}
use Rattle.lines.proofs.Stepping.{number-steps, name-steps}
use Rattle.listing_steps.specs.Beginning.{Begun, stop, number, name, done}
use Rattle.listing_steps.specs.declared.Line.{Line}
use Rattle.listing_steps.specs.declared.Line.TheVariants.{Stop, Number, Name, Done}

-- A cursor's step is known by its place, behind what was taken back.
at_place : (v : View) (c : Cursor) {p : Place} {o o' o'' : List ℕ} {at : ℕ} {s : Step} → c.place ≡ p → Kept o at o'
    → Stepped v (cursor p c.class.0 c.method c.i) o' at o'' s → Stepped v c o at o'' s
unfolding line_at next_at
at_place v c e k w = rw e (record { wrote = wrote-anew k w.wrote; goes = w.goes })

-- A step by a view that is equal.
at-view : {v w : View} → v ≡ w → (c : Cursor) {o o' : List ℕ} {at : ℕ} {s : Step} → Stepped v c o at o' s → Stepped w c o at o' s
at-view same c {o} {o'} {at} {s} g = subst (λ v. Stepped v c o at o' s) same g

-- The step of a line, by its case.
module _ (c : Cursor) {l : Line} {o o' o'' : List ℕ} {at : ℕ} {s : Step} (begun : (v : View) → Begun v c o at o' l) where
  stopped : (v : View) → Begun v c o at o' Stop → ((k m i : ℕ) → Stepped v (cursor place.Stop k m i) o' at o'' s) → Stepped v c o at o'' s
  stopped v (stop e k) w = at_place v c e k (w _ _ _)

  ended : (v : View) → Begun v c o at o' Done → ((k m i : ℕ) → Stepped v (cursor place.Done k m i) o' at o'' s) → Stepped v c o at o'' s
  ended v (done e k) w = at_place v c e k (w _ _ _)

  pub stop-next : (v : View) → l ≡ Stop → ((k m i : ℕ) → Stepped v (cursor place.Stop k m i) o' at o'' s) → Stepped v c o at o'' s
  stop-next v e w = stopped v (subst (Begun v c o at o') e (begun v)) w

  pub done_next : (v : View) → l ≡ Done → ((k m i : ℕ) → Stepped v (cursor place.Done k m i) o' at o'' s) → Stepped v c o at o'' s
  done_next v e w = ended v (subst (Begun v c o at o') e (begun v)) w

  module _ {start : ℕ} {question : NumberQuestion} {optional : Bool} {next : Cursor} where
    numbered : (v : View) → Begun v c o at o' (Number start question optional next)
        → ((o : List ℕ) (key : Text) → Wrote o at key o' start → Went (numbered_line optional key (number_answer (number_call question) v)) next o at o'' s)
        → Stepped v c o at o'' s
    numbered v (number key w h) f = number-steps h (f _ key w)

    pub number-next : {v w : View} → v ≡ w → l ≡ Number start question optional next
        → ((o : List ℕ) (key : Text) → Wrote o at key o' start → Went (numbered_line optional key (number_answer (number_call question) v)) next o at o'' s)
        → Stepped w c o at o'' s
    number-next {v} same e f = at-view same c (numbered v (subst (Begun v c o at o') e (begun v)) f)

  module _ {start : ℕ} {question : NameQuestion} {more past : Cursor} where
    named : (v : View) → Begun v c o at o' (Name start question more past)
        → ((o : List ℕ) (key : Text) → Wrote o at key o' start
        → Went (name_line key (listed (name_call question) v)) (cond (goes_on (listed (name_call question) v)) more past) o at o'' s)
        → Stepped v c o at o'' s
    named v (name key l w h n) f = name-steps h (f _ key w)

    pub name-next : {v w : View} → v ≡ w → l ≡ Name start question more past
        → ((o : List ℕ) (key : Text) → Wrote o at key o' start
        → Went (name_line key (listed (name_call question) v)) (cond (goes_on (listed (name_call question) v)) more past) o at o'' s)
        → Stepped w c o at o'' s
    name-next {v} same e f = at-view same c (named v (subst (Begun v c o at o') e (begun v)) f)

-- There is room for a name behind its key.
module _ {c : Cursor} {o o' : List ℕ} {at start : ℕ} {question : NameQuestion} {more past : Cursor} where
  room-behind : {v : View} → Begun v c o at o' (Name start question more past) → at + line_room ≤ length o → start + name_room ≤ length o'
  room-behind (name key l w h n) room = omega (arith, l, w.place, w.keeps.long)

  pub name-room : {v w : View} → v ≡ w → {l : Line} → ((v : View) → Begun v c o at o' l) → l ≡ Name start question more past
      → at + line_room ≤ length o → start + name_room ≤ length o'
  name-room {v} same b e room = room-behind (subst (Begun v c o at o') e (b v)) room

  -- It is within the ceiling where the line at its cursor is.
  within-so : {v : View} → Begun v c o at o' (Name start question more past) → is_over_at v c ≡ false → is_over (name_work (name_call question) v) ≡ false
  within-so (name key l w h n) within = n ∙ within

  pub name-within : {v w : View} → v ≡ w → {l : Line} → ((v : View) → Begun v c o at o' l) → l ≡ Name start question more past
      → is_over_at w c ≡ false → is_over (name_work (name_call question) v) ≡ false
  name-within {v} same b e within = within-so (subst (Begun v c o at o') e (b v)) (subst (λ (x : View). is_over_at x c ≡ false) (sym same) within)
