-- The listing line by line: where it is, the line there, and where it goes on. A cursor has a place, which says what the next line is
-- about, the class and the method that it is in, and the number of the item (generic parameter, base type, parameter) in these, all from
-- 0. No count is asked for: items are asked for in order until there is none. Beyond the ceiling a class goes on to its methods, and a method
-- to the next one; so it is at every cursor, whether it was handed out or made up.
use Rattle.std.specs.Prelude.{◌≡◌, Bool, true, false, cond, List, [], ◌++◌, ℕ, ◌+◌, min, eqb}
use Rattle.buffers.specs.Texts.{Text, q}
use Rattle.buffers.specs.Writes.{Wrote}
use Rattle.buffers.specs.Replies.{Answer, refused, value}
use Rattle.record.specs.View.{View}
use Rattle.record.specs.Answers.{walk_answer, class_count, class_flags, class_packing, class_size, class_name, generic_name, method_name, method_flags, method_generic_name}
use Rattle.record.specs.Answers.{BaseName, ReturnType, ParameterType, ParameterName}
use Rattle.record.specs.Allowance.{base_work, method_work, is_over}
use Rattle.lines.specs.Lines.{number_line, refused_line, answer_line, or_key_line, numbered_line, name_line, goes_on}
use Rattle.lines.specs.Ceiling.{listed}
use Rattle.lines.specs.declared.Place.{Place}
use Rattle.lines.specs.declared.Place.TheVariants.{Stop, Classes, Class, Flags, Generic, Base, Method, MethodFlags, MethodGeneric, Returns, ParamType, ParamName, Done, Packing, Size}
use Rattle.lines.specs.declared.Cursor.{Cursor}
use Rattle.lines.specs.declared.Step.{Step}

abbrev pub cursor : Place → ℕ → ℕ → ℕ → Cursor
cursor place class method i = record { place = place; class = record { 0 = class }; method = method; i = i }

abbrev pub first : Cursor
first = cursor Stop 0 0 0

abbrev pub done : Cursor
done = cursor Done 0 0 0

-- The number after n. A cursor can hold any 32 bits, and stays at the last number: no record has so many of anything.
abbrev pub next_number : ℕ → ℕ
next_number n = min (n + 1) 0xFFFF_FFFF

-- The first line: where the walk was left, or why the streams are refused; and where it goes on.
abbrev pub stop_line : Answer ℕ → Text
stop_line (value stop) = number_line (q "stop=") stop
stop_line (refused w) = refused_line w.number

abbrev pub after_stop : Answer ℕ → Cursor
after_stop (value stop) = cursor Classes 0 0 0
after_stop (refused w) = done

-- The line at a place of class c, method m and item i.
abbrev pub place_line : View → Place → ℕ → ℕ → ℕ → Text
place_line v Stop c m i = stop_line (walk_answer v).stop
place_line v Classes c m i = answer_line (q "classes=") (class_count v)
place_line v Class c m i = name_line (q "class=") (class_name v c)
place_line v Flags c m i = answer_line (q "flags=") (class_flags v c)
place_line v Packing c m i = or_key_line (q "packing=") (class_packing v c)
place_line v Size c m i = or_key_line (q "size=") (class_size v c)
place_line v Generic c m i = name_line (q "generic=") (generic_name v c i)
place_line v Base c m i = name_line (q "base=") (listed (BaseName c i) v)
place_line v Method c m i = name_line (q "method=") (method_name v c m)
place_line v MethodFlags c m i = answer_line (q "mflags=") (method_flags v c m)
place_line v MethodGeneric c m i = name_line (q "mgeneric=") (method_generic_name v c m i)
place_line v Returns c m i = name_line (q "returns=") (listed (ReturnType c m) v)
place_line v ParamType c m i = name_line (q "ptype=") (listed (ParameterType c m i) v)
place_line v ParamName c m i = name_line (q "pname=") (listed (ParameterName c m i) v)
place_line v Done c m i = []

-- Where it goes on.
abbrev pub place_next : View → Place → ℕ → ℕ → ℕ → Cursor
place_next v Stop c m i = after_stop (walk_answer v).stop
place_next v Classes c m i = cursor Class 0 0 0
place_next v Class c m i = cond (goes_on (class_name v c)) (cursor Flags c 0 0) done
place_next v Flags c m i = cursor Packing c 0 0
place_next v Packing c m i = cursor Size c 0 0
place_next v Size c m i = cursor Generic c 0 0
place_next v Generic c m i = cond (goes_on (generic_name v c i)) (cursor Generic c 0 (next_number i)) (cursor Base c 0 0)
place_next v Base c m i = cond (goes_on (listed (BaseName c i) v)) (cursor Base c 0 (next_number i)) (cursor Method c 0 0)
place_next v Method c m i = cond (goes_on (method_name v c m)) (cursor MethodFlags c m 0) (cursor Class (next_number c) 0 0)
place_next v MethodFlags c m i = cursor MethodGeneric c m 0
place_next v MethodGeneric c m i = cond (goes_on (method_generic_name v c m i)) (cursor MethodGeneric c m (next_number i)) (cursor Returns c m 0)
place_next v Returns c m i = cond (goes_on (listed (ReturnType c m) v)) (cursor ParamType c m 0) (cursor Method c (next_number m) 0)
place_next v ParamType c m i = cond (goes_on (listed (ParameterType c m i) v)) (cursor ParamName c m i) (cursor Method c (next_number m) 0)
place_next v ParamName c m i = cond (goes_on (listed (ParameterName c m i) v)) (cursor ParamType c m (next_number i)) (cursor Method c (next_number m) 0)
place_next v Done c m i = done

unfoldable pub line_at : View → Cursor → Text
line_at v c = place_line v c.place c.class.0 c.method c.i

unfoldable pub next_at : View → Cursor → Cursor
next_at v c = place_next v c.place c.class.0 c.method c.i

-- What the line at a place counts of the ceiling, and whether that is beyond it.
abbrev pub place_work : View → Place → ℕ → ℕ → Answer ℕ
place_work v Stop c m = value 0
place_work v Classes c m = value 0
place_work v Class c m = value 0
place_work v Flags c m = value 0
place_work v Packing c m = value 0
place_work v Size c m = value 0
place_work v Generic c m = value 0
place_work v Base c m = base_work v c
place_work v Method c m = value 0
place_work v MethodFlags c m = value 0
place_work v MethodGeneric c m = value 0
place_work v Returns c m = method_work v c m
place_work v ParamType c m = method_work v c m
place_work v ParamName c m = method_work v c m
place_work v Done c m = value 0

unfoldable pub is_over_at : View → Cursor → Bool
is_over_at v c = is_over (place_work v c.place c.class.0 c.method)

-- Whether the line at a place counts something that no line before it does: a class's first base type, and a method's return type.
abbrev pub counts_anew : Place → ℕ → Bool
counts_anew Stop i = false
counts_anew Classes i = false
counts_anew Class i = false
counts_anew Flags i = false
counts_anew Packing i = false
counts_anew Size i = false
counts_anew Generic i = false
counts_anew Base i = eqb i 0
counts_anew Method i = false
counts_anew MethodFlags i = false
counts_anew MethodGeneric i = false
counts_anew Returns i = true
counts_anew ParamType i = false
counts_anew ParamName i = false
counts_anew Done i = false

-- The line at a cursor shows the number that is an answer, behind a key, and goes on there. The number may be one that may be missing.
pub record ShowsNumber (v : View) (c : Cursor) (key : Text) (optional : Bool) (a : Answer ℕ) (to : Cursor) : Type 0 where
  pub line : line_at v c ≡ numbered_line optional key a
  pub next : next_at v c ≡ to

-- It shows the name that is an answer. Where it goes on depends on whether there is a line.
pub record ShowsName (v : View) (c : Cursor) (key : Text) (a : Answer Text) (more past : Cursor) : Type 0 where
  pub line : line_at v c ≡ name_line key a
  pub next : next_at v c ≡ cond (goes_on a) more past

-- What a step does with a lent buffer: a line is appended, and the next cursor handed out.
pub record Went (t : Text) (to : Cursor) (before : List ℕ) (at : ℕ) (after : List ℕ) (s : Step) : Type 0 where
  pub wrote : Wrote before at t after s.at
  pub goes : s.next ≡ to

abbrev pub Stepped : View → Cursor → List ℕ → ℕ → List ℕ → Step → Type 0
Stepped v c = Went (line_at v c) (next_at v c)

-- The steps from one cursor to another, and the text of their lines.
pub data Steps (v : View) : Cursor → Text → Cursor → Type 0 where
  here : {c : Cursor} → Steps v c [] c
  onward : {c d : Cursor} {t : Text} → Steps v (next_at v c) t d → Steps v c (line_at v c ++ t) d
