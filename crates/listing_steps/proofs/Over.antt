-- What a line counts, by its place, and the step where that is beyond the ceiling. Assumes nothing.
use mathlib.Core.Path.{◌≡◌, refl, sym, ◌∙◌, subst}
use mathlib.Core.Bool.{Bool, true, false, cond}
use mathlib.Core.List.{List, []}
use Prim.Native.Nat.{ℕ}
use borrow.Author.Tests.{ne_eqb}
use lib.Dec.{T}
use Rattle.buffers.specs.Texts.{Text, q}
use Rattle.buffers.specs.Writes.{Wrote}
use Rattle.buffers.specs.Replies.{value}
use Rattle.record.specs.View.{View}
use Rattle.record.specs.Answers.{NameCall, BaseName, ReturnType, ParameterType, ParameterName}
use Rattle.record.specs.Allowance.{name_work, is_over}
use Rattle.lines.specs.Lines.{spent_line, missing_line, name_line, goes_on}
use Rattle.lines.specs.Ceiling.{comes_first, listed}
use Rattle.lines.specs.Cursors.{cursor, next_number, place_work, is_over_at, counts_anew, ShowsName, Stepped}
use Rattle.lines.specs.declared.Place.{Place}
use Rattle.lines.specs.declared.Place.TheVariants.{Stop, Classes, Class, Flags, Generic, Base, Method, MethodFlags, MethodGeneric, Returns, ParamType, ParamName, Done, Packing, Size}
use Rattle.lines.specs.declared.Cursor.{Cursor}
use Rattle.lines.specs.declared.Step.{Step}
use Rattle.lines.proofs.Ceiling.{listed-beyond, counts-at, stays_within}
use Rattle.lines.proofs.Stepping.{base-shows, returns-shows, param-type-shows, param-name-shows}
use Rattle.listing_steps.specs.Filling.{is_done}

-- What is no base type, no return type, and no parameter either, counts nothing.
module _ (v : View) where
  nothing-over : (p : Place) (k m : ℕ) → (p ≡ Base → ⊥) → (p ≡ Returns → ⊥) → (p ≡ ParamType → ⊥) → (p ≡ ParamName → ⊥) → false ≡ is_over (place_work v p k m)
  unfolding is_over
  nothing-over Stop k m b r t n = refl
  nothing-over Classes k m b r t n = refl
  nothing-over Class k m b r t n = refl
  nothing-over Flags k m b r t n = refl
  nothing-over Packing k m b r t n = refl
  nothing-over Size k m b r t n = refl
  nothing-over Generic k m b r t n = refl
  nothing-over Base k m b r t n = absurd (b refl)
  nothing-over Method k m b r t n = refl
  nothing-over MethodFlags k m b r t n = refl
  nothing-over MethodGeneric k m b r t n = refl
  nothing-over Returns k m b r t n = absurd (r refl)
  nothing-over ParamType k m b r t n = absurd (t refl)
  nothing-over ParamName k m b r t n = absurd (n refl)
  nothing-over Done k m b r t n = refl

  pub not-over : (c : Cursor) → (c.place ≡ Base → ⊥) → (c.place ≡ Returns → ⊥) → (c.place ≡ ParamType → ⊥) → (c.place ≡ ParamName → ⊥) → false ≡ is_over_at v c
  not-over c b r t n = nothing-over c.place c.class.0 c.method b r t n ∙ counts-at v c refl

  -- By what a function that counts says of a place.
  pub over-is : (c : Cursor) {p : Place} {over : Bool} → c.place ≡ p → over ≡ is_over (place_work v p c.class.0 c.method) → over ≡ is_over_at v c
  over-is c e is = is ∙ counts-at v c e

  -- A listing that is done counts nothing.
  pub over-undone : (c : Cursor) → is_over_at v c ≡ true → is_done c.place ≡ false
  unfolding is_over_at is_over
  over-undone c over = go c.place over
    where
      go : (p : Place) → is_over (place_work v p c.class.0 c.method) ≡ true → is_done p ≡ false
      go Stop h = refl
      go Classes h = refl
      go Class h = refl
      go Flags h = refl
      go Packing h = refl
      go Size h = refl
      go Generic h = refl
      go Base h = refl
      go Method h = refl
      go MethodFlags h = refl
      go MethodGeneric h = refl
      go Returns h = refl
      go ParamType h = refl
      go ParamName h = refl
      go Done h = absurd (subst T (sym h) tt)

-- By a view that is equal.
pub over-here : {v w : View} (c : Cursor) {over b : Bool} → v ≡ w → over ≡ is_over_at v c → over ≡ b → is_over_at w c ≡ b
over-here c {b = b} same is e = subst (λ (x : View). is_over_at x c ≡ b) same (sym is ∙ e)

-- ---- Beyond the ceiling

-- The mark in the first line, no line after that, and the listing goes past both.
module _ (v : View) (call : NameCall) (over : is_over (name_work call v) ≡ true) where
  marked : comes_first call ≡ true → (key : Text) → name_line key (listed call v) ≡ spent_line key
  unfolding missing_line
  marked first key = rw (listed-beyond call v over, first)

  unmarked : comes_first call ≡ false → (key : Text) → name_line key (listed call v) ≡ []
  unfolding missing_line
  unmarked first key = rw (listed-beyond call v over, first)

  past-it : (b : Bool) → comes_first call ≡ b → (more past : Cursor) → cond (goes_on (listed call v)) more past ≡ past
  past-it true first more past = rw (listed-beyond call v over, first)
  past-it false first more past = rw (listed-beyond call v over, first)

module _ (v : View) (c : Cursor) (call : NameCall) {key : Text} {more past : Cursor} (shows : ShowsName v c key (listed call v) more past)
    (over : is_over (name_work call v) ≡ true) {o o' : List ℕ} {at end : ℕ} {next : Cursor} (goes : next ≡ past) where
  marks : comes_first call ≡ true → Wrote o at (spent_line key) o' end → Stepped v c o at o' (record { next = next; at = end })
  marks first w = record {
    wrote = subst (λ (t : Text). Wrote o at t o' end) (sym (shows.line ∙ marked v call over first key)) w;
    goes = goes ∙ sym (shows.next ∙ past-it v call over true first more past);
  }

  passes : comes_first call ≡ false → Wrote o at [] o' end → Stepped v c o at o' (record { next = next; at = end })
  passes first w = record {
    wrote = subst (λ (t : Text). Wrote o at t o' end) (sym (shows.line ∙ unmarked v call over first key)) w;
    goes = goes ∙ sym (shows.next ∙ past-it v call over false first more past);
  }

module _ (c : Cursor) {o o' : List ℕ} {at end : ℕ} {next : Cursor} where
  module _ (e : c.place ≡ Base) (goes : next ≡ cursor Method c.class.0 0 0) where
    pub base-marked : c.i ≡ 0 → Wrote o at (spent_line (q "base=")) o' end
        → (v : View) → is_over_at v c ≡ true → Stepped v c o at o' (record { next = next; at = end })
    base-marked first w v over = marks v c (BaseName c.class.0 c.i) (base-shows v c e refl refl refl) (counts-at v c e ∙ over) goes (rw first) w

    pub base-passed : (c.i ≡ 0 → ⊥) → Wrote o at [] o' end
        → (v : View) → is_over_at v c ≡ true → Stepped v c o at o' (record { next = next; at = end })
    base-passed other w v over = passes v c (BaseName c.class.0 c.i) (base-shows v c e refl refl refl) (counts-at v c e ∙ over) goes (ne_eqb c.i 0 other) w

  module _ (goes : next ≡ cursor Method c.class.0 (next_number c.method) 0) where
    pub returns-marked : c.place ≡ Returns → Wrote o at (spent_line (q "returns=")) o' end
        → (v : View) → is_over_at v c ≡ true → Stepped v c o at o' (record { next = next; at = end })
    returns-marked e w v over = marks v c (ReturnType c.class.0 c.method) (returns-shows v c e refl refl refl) (counts-at v c e ∙ over) goes refl w

    pub parameters-passed : (c.place ≡ Base → ⊥) → (c.place ≡ Returns → ⊥) → Wrote o at [] o' end
        → (v : View) → is_over_at v c ≡ true → Stepped v c o at o' (record { next = next; at = end })
    unfolding is_over
    parameters-passed b r w v over = go c.place refl
      where
        nothing : is_over (value 0) ≡ is_over_at v c → Stepped v c o at o' (record { next = next; at = end })
        nothing is = absurd (subst T (sym (is ∙ over)) tt)

        go : (p : Place) → c.place ≡ p → Stepped v c o at o' (record { next = next; at = end })
        go Stop e = nothing (counts-at v c e)
        go Classes e = nothing (counts-at v c e)
        go Class e = nothing (counts-at v c e)
        go Flags e = nothing (counts-at v c e)
        go Packing e = nothing (counts-at v c e)
        go Size e = nothing (counts-at v c e)
        go Generic e = nothing (counts-at v c e)
        go Base e = absurd (b e)
        go Method e = nothing (counts-at v c e)
        go MethodFlags e = nothing (counts-at v c e)
        go MethodGeneric e = nothing (counts-at v c e)
        go Returns e = absurd (r e)
        go ParamType e = passes v c (ParameterType c.class.0 c.method c.i) (param-type-shows v c e refl refl refl) (counts-at v c e ∙ over) goes refl w
        go ParamName e = passes v c (ParameterName c.class.0 c.method c.i) (param-name-shows v c e refl refl refl refl) (counts-at v c e ∙ over) goes refl w
        go Done e = nothing (counts-at v c e)

-- ---- Within it

-- The line after one that is within the ceiling, unless it counts something anew.
pub next-within : (v : View) (c : Cursor) {o o' : List ℕ} {at : ℕ} {s : Step} → Stepped v c o at o' s → is_over_at v c ≡ false
    → {anew : Bool} → anew ≡ counts_anew s.next.place s.next.i → anew ≡ false → is_over_at v s.next ≡ false
next-within v c w within is old =
    rw w.goes (stays_within v c within (subst (λ (d : Cursor). counts_anew d.place d.i ≡ false) w.goes (sym is ∙ old)))
