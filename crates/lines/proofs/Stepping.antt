-- From what the code does at a place to a step of the definition: one law for each place. Assumes nothing.
use mathlib.Core.Path.{◌≡◌, ap}
use mathlib.Core.Bool.{Bool, true, false, cond}
use mathlib.Core.List.{List, []}
use Prim.Native.Nat.{ℕ}
use Rattle.buffers.specs.Texts.{Text, q}
use Rattle.buffers.specs.Writes.{Wrote}
use Rattle.buffers.specs.Replies.{Reply, number, Answer, reply_says}
use Rattle.buffers.specs.declared.Refusal.{Refusal}
use Rattle.header.specs.declared.Options.{Options}
use Rattle.record.specs.View.{View, view_of, view}
use Rattle.record.specs.Answers.{class_count, class_flags, class_packing, class_size, method_flags}
use Rattle.record.specs.Answers.{ClassName, GenericName, BaseName, MethodName, MethodGenericName, ReturnType, ParameterType, ParameterName}
use Rattle.tables.specs.Extents.{walk_says, walk_of}
use Rattle.tables.specs.declared.Extents.{Extents}
use Rattle.lines.specs.Lines.{number_line, refused_line, numbered_line, name_line, goes_on}
use Rattle.record.specs.Allowance.{is_over}
use Rattle.lines.specs.Ceiling.{listed}
use Rattle.lines.specs.Cursors.{cursor, done, next_number, stop_line, after_stop, line_at, next_at, ShowsNumber, ShowsName, Went, Stepped}
use Rattle.lines.specs.declared.Place.TheVariants.{Stop, Classes, Class, Flags, Generic, Base, Method, MethodFlags, MethodGeneric, Returns, ParamType, ParamName, Done, Packing, Size}
use Rattle.lines.specs.declared.Cursor.{Cursor}
use Rattle.lines.specs.declared.Step.{Step}
use Rattle.std.specs.Prelude.{Ok, Err}

-- The first line.
module _ {r : Reply} {o o' : List ℕ} {at : ℕ} where
  pub stop-found : {n e : ℕ} {next : Cursor} → r ≡ Ok n → next ≡ cursor Classes 0 0 0 → Wrote o at (number_line (q "stop=") n) o' e
      → Went (stop_line (reply_says r)) (after_stop (reply_says r)) o at o' (record { next = next; at = e })
  stop-found f g w = rw f (record { wrote = w; goes = g })

  pub stop-refused : {why : Refusal} {s : Step} → r ≡ Err why → Went (refused_line (number why)) done o at o' s
      → Went (stop_line (reply_says r)) (after_stop (reply_says r)) o at o' s
  stop-refused f w = rw f w

pub stop_goes : (options : Options) (tables strings blob : List ℕ) (c m i : ℕ) (w : Extents) {o o' : List ℕ} {at : ℕ} {s : Step}
    → walk_says w ≡ walk_of options tables → Went (stop_line (reply_says w.answer)) (after_stop (reply_says w.answer)) o at o' s
    → Stepped (view options tables strings blob) (cursor Stop c m i) o at o' s
unfolding view_of line_at next_at
stop_goes options tables strings blob c m i w e g =
    let is : reply_says w.answer ≡ (walk_of options tables).stop = ap (λ x. x.stop) e in
    rw is at g

-- The other places.
module _ (v : View) (c : Cursor) where
  abbrev k : ℕ
  k = c.class.0

  pub classes-shows : {x : Cursor} → c.place ≡ Classes → x ≡ cursor Class 0 0 0 → ShowsNumber v c (q "classes=") false (class_count v) x
  unfolding line_at next_at
  classes-shows e f = record { line = rw e; next = rw (e, f) }

  pub class-shows : {x y : Cursor} → c.place ≡ Class → x ≡ cursor Flags k 0 0 → y ≡ done
      → ShowsName v c (q "class=") (listed (ClassName k) v) x y
  unfolding listed is_over line_at next_at
  class-shows e f g = record { line = rw e; next = rw (e, f, g) }

  pub flags-shows : {x : Cursor} → c.place ≡ Flags → x ≡ cursor Packing k 0 0 → ShowsNumber v c (q "flags=") false (class_flags v k) x
  unfolding line_at next_at
  flags-shows e f = record { line = rw e; next = rw (e, f) }

  pub packing-shows : {x : Cursor} → c.place ≡ Packing → x ≡ cursor Size k 0 0 → ShowsNumber v c (q "packing=") true (class_packing v k) x
  unfolding line_at next_at
  packing-shows e f = record { line = rw e; next = rw (e, f) }

  pub size-shows : {x : Cursor} → c.place ≡ Size → x ≡ cursor Generic k 0 0 → ShowsNumber v c (q "size=") true (class_size v k) x
  unfolding line_at next_at
  size-shows e f = record { line = rw e; next = rw (e, f) }

  pub generic-shows : {j : ℕ} {x y : Cursor} → c.place ≡ Generic → j ≡ next_number c.i → x ≡ cursor Generic k 0 j
      → y ≡ cursor Base k 0 0 → ShowsName v c (q "generic=") (listed (GenericName k c.i) v) x y
  unfolding listed is_over line_at next_at
  generic-shows e n f g = record { line = rw e; next = rw (e, f, g, n) }

  pub base-shows : {j : ℕ} {x y : Cursor} → c.place ≡ Base → j ≡ next_number c.i → x ≡ cursor Base k 0 j
      → y ≡ cursor Method k 0 0 → ShowsName v c (q "base=") (listed (BaseName k c.i) v) x y
  unfolding line_at next_at
  base-shows e n f g = record { line = rw e; next = rw (e, f, g, n) }

  pub method-shows : {j : ℕ} {x y : Cursor} → c.place ≡ Method → x ≡ cursor MethodFlags k c.method 0 → j ≡ next_number k
      → y ≡ cursor Class j 0 0 → ShowsName v c (q "method=") (listed (MethodName k c.method) v) x y
  unfolding listed is_over line_at next_at
  method-shows e f n g = record { line = rw e; next = rw (e, f, g, n) }

  pub method-flags-shows : {x : Cursor} → c.place ≡ MethodFlags → x ≡ cursor MethodGeneric k c.method 0
      → ShowsNumber v c (q "mflags=") false (method_flags v k c.method) x
  unfolding line_at next_at
  method-flags-shows e f = record { line = rw e; next = rw (e, f) }

  pub method-generic-shows : {j : ℕ} {x y : Cursor} → c.place ≡ MethodGeneric → j ≡ next_number c.i
      → x ≡ cursor MethodGeneric k c.method j → y ≡ cursor Returns k c.method 0
      → ShowsName v c (q "mgeneric=") (listed (MethodGenericName k c.method c.i) v) x y
  unfolding listed is_over line_at next_at
  method-generic-shows e n f g = record { line = rw e; next = rw (e, f, g, n) }

  pub returns-shows : {j : ℕ} {x y : Cursor} → c.place ≡ Returns → x ≡ cursor ParamType k c.method 0 → j ≡ next_number c.method
      → y ≡ cursor Method k j 0 → ShowsName v c (q "returns=") (listed (ReturnType k c.method) v) x y
  unfolding line_at next_at
  returns-shows e f n g = record { line = rw e; next = rw (e, f, g, n) }

  pub param-type-shows : {j : ℕ} {x y : Cursor} → c.place ≡ ParamType → x ≡ cursor ParamName k c.method c.i
      → j ≡ next_number c.method → y ≡ cursor Method k j 0
      → ShowsName v c (q "ptype=") (listed (ParameterType k c.method c.i) v) x y
  unfolding line_at next_at
  param-type-shows e f n g = record { line = rw e; next = rw (e, f, g, n) }

  pub param-name-shows : {i j : ℕ} {x y : Cursor} → c.place ≡ ParamName → i ≡ next_number c.i → x ≡ cursor ParamType k c.method i
      → j ≡ next_number c.method → y ≡ cursor Method k j 0
      → ShowsName v c (q "pname=") (listed (ParameterName k c.method c.i) v) x y
  unfolding line_at next_at
  param-name-shows e m f n g = record { line = rw e; next = rw (e, f, g, m, n) }

pub done-goes : (v : View) (c m i : ℕ) {o o' : List ℕ} {at : ℕ} {s : Step} → s.next ≡ done → Wrote o at [] o' s.at
    → Stepped v (cursor Done c m i) o at o' s
unfolding line_at next_at
done-goes v c m i e w = record { wrote = w; goes = e }

-- A step by what the line shows.
module _ {v : View} {c : Cursor} {key : Text} {o o' : List ℕ} {at : ℕ} {s : Step} where
  pub number-steps : {optional : Bool} {a : Answer ℕ} {to : Cursor} → ShowsNumber v c key optional a to → Went (numbered_line optional key a) to o at o' s
      → Stepped v c o at o' s
  number-steps h w = rw (h.line, h.next) w

  pub name-steps : {a : Answer Text} {more past : Cursor} → ShowsName v c key a more past
      → Went (name_line key a) (cond (goes_on a) more past) o at o' s → Stepped v c o at o' s
  name-steps h w = rw (h.line, h.next) w
