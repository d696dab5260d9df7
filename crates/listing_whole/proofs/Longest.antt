-- No line is longer than the longest: a key has at most nine bytes, a name that is shown at most 4,096, each of them written as three at
-- most, and a number ten digits, since none needs more than 32 bits. Assumes nothing.
use mathlib.Core.Path.{◌≡◌, refl}
use mathlib.Core.Bool.{◌||◌}
use mathlib.Core.List.{List, [], ◌∷◌, ◌++◌}
use mathlib.Core.Option.{Option, none, some}
use Prim.Native.Nat.{ℕ, zero, suc, ◌+◌, ◌-◌, ◌*◌, ◌/◌, ◌%◌, ◌^◌, ◌<◌, ◌≤◌}
use native.Mathlib.Omega.{arith}
use lib.Dec.{eqb, ltb}
use lib.ListN.{length, get_or, get_elem?, take, drop, length-append}
use lib.Seq.{get_or-drop}
use Rattle.numbers.specs.Parts.{part}
use Rattle.numbers.proofs.Fixed.{le-fits}
use Rattle.numbers.proofs.Pick.{pick, pick-lt, pick-le}
use Rattle.buffers.specs.Texts.{Text, q, digits, decimal}
use Rattle.buffers.specs.Replies.{number, Answer, refused, value}
use Rattle.buffers.specs.declared.Reason.TheVariants.{Untold}
use Rattle.buffers.specs.declared.Refusal.{Refusal}
use Rattle.buffers.specs.declared.Refusal.TheVariants.{ShortHeader, ShortCounts, TooManyRows, NoSuchRow, NoName, BufferTooSmall, NotFound, BadInput, BadRoot, NoTables, TooManySteps, Disorder, NestedTwice, StoppedEarly}
use Rattle.header.specs.Stream.{Opened, base, opened}
use Rattle.header.specs.Stream.{Opening}
use Rattle.layouts.specs.declared.IndexSizes.{IndexSizes}
use Rattle.layouts.specs.Kinds.{type_def, method_def, class_layout}
use Rattle.layouts.specs.Columns.{Two, columns_of, tables, width_in}
use Rattle.tables.specs.Extents.{passes, stop_from, stop_kind, walked, answered, walk_by, sizes_in, kept_rows}
use Rattle.record.specs.Columns.{column, layout_parent}
use Rattle.record.specs.Rows.{row_bytes, of_key}
use Rattle.record.specs.View.{ClassLayout, layout_in, View, view, view_of, place, other_row, is_side, side_row, side_rows}
use Rattle.record.specs.Names.{classes, sizes_of, number_in}
use Rattle.record.specs.Methods.{left_after}
use Rattle.record.specs.Record.{Method, Class, method, class, class_record}
use Rattle.record.specs.Answers.{◌⟫◌, ready, or_no_row, item, the_classes, the_class, the_method, the_layout, class_count, class_flags, class_packing, class_size, class_name, generic_name, method_name, method_flags, method_generic_name, BaseName, ReturnType, ParameterType, ParameterName}
use Rattle.escapes.specs.Escapes.{longest, shown}
use Rattle.escapes.proofs.Apart.{numbers-stand, three-at-most}
use Rattle.lines.specs.Lines.{line, number_line, answer_line, or_key_line, missing_line, name_line}
use Rattle.lines.specs.Ceiling.{listed}
use Rattle.lines.specs.Cursors.{stop_line, place_line, line_at}
use Rattle.lines.specs.declared.Place.{Place}
use Rattle.lines.specs.declared.Place.TheVariants as at
use Rattle.listing_whole.specs.Whole.{Bytes, longest_line, LinesFit}
use Rattle.listing_whole.proofs.Few.{tabulated, few-in}
use Rattle.std.specs.Prelude.{Ok, Err}

-- ---- A line by its value

abbrev Fits : Text → Type 0
Fits t = length t ≤ longest_line

abbrev Narrow : ℕ → Type 0
Narrow n = n < 2 ^ 32

digits-few : (k most n : ℕ) → n < 10 ^ suc k → length (digits most n) ≤ suc k
unfolding digits
digits-few k zero n h = omega arith
digits-few zero (suc most) n h = pick-lt (λ (t : Text). length t ≤ 1) n 10 (λ _. omega arith) (λ many. absurd (omega arith))
digits-few (suc k) (suc most) n h =
    let fewer : length (digits most (n / 10)) ≤ suc k = digits-few k most (n / 10) (omega arith) in
    pick-lt (λ (t : Text). length t ≤ suc (suc k)) n 10 (λ _. omega arith)
    (λ _. omega (arith, length-append (digits most (n / 10)) ((48 + n % 10) ∷ [])))

decimal-few : (n : ℕ) → Narrow n → length (decimal n) ≤ 10
unfolding decimal
decimal-few n h = digits-few 9 (suc n) n (omega arith)

module _ (key : Text) (short : length key ≤ 9) where
  line-fits : (t : Text) → length t ≤ 3 * longest → Fits (line key t)
  unfolding line
  line-fits t h = omega (arith, length-append key (t ++ (0x0A ∷ [])), length-append t (0x0A ∷ []))

  name-fits : (a : Answer Text) → Fits (name_line key a)
  unfolding shown missing_line
  name-fits (value t) =
      line-fits (shown t)
      (pick-le (λ (x : Text). length x ≤ 3 * longest) (length t) longest (λ h. omega (arith, three-at-most t)) (λ _. omega arith))
  name-fits (refused w) =
      pick Fits (eqb w.number (number (NoName Untold))) (λ _. line-fits [] (omega arith))
      (λ _. pick Fits (eqb w.number (number BufferTooSmall) || eqb w.number (number TooManySteps)) (λ _. line-fits (q "!") (omega arith)) (λ _. omega arith))

  number_fits : (n : ℕ) → Narrow n → Fits (number_line key n)
  number_fits n h = rw (numbers-stand n) (line-fits (decimal n) (omega (arith, decimal-few n h)))

-- ---- Where the walk stops, and refusals

refusal-narrow : (why : Refusal) → Narrow (number why)
refusal-narrow ShortHeader = omega arith
refusal-narrow ShortCounts = omega arith
refusal-narrow TooManyRows = omega arith
refusal-narrow NoSuchRow = omega arith
refusal-narrow (NoName why) = omega arith
refusal-narrow BufferTooSmall = omega arith
refusal-narrow (NotFound why) = omega arith
refusal-narrow BadInput = omega arith
refusal-narrow BadRoot = omega arith
refusal-narrow NoTables = omega arith
refusal-narrow TooManySteps = omega arith
refusal-narrow Disorder = omega arith
refusal-narrow NestedTwice = omega arith
refusal-narrow StoppedEarly = omega arith

module _ (size : ℕ → ℕ) (counts : List ℕ) (n first : ℕ) where
  stop-from : (m k : ℕ) → stop_from size counts n first m k ≤ k + m
  unfolding stop_from
  stop-from zero k = omega arith
  stop-from (suc m) k =
      pick (λ (x : ℕ). x ≤ k + suc m) (passes size counts n first k) (λ _. omega (arith, stop-from m (k + 1))) (λ _. omega arith)

  stop-narrow : Narrow (stop_kind size counts n first)
  unfolding stop_kind
  stop-narrow = omega (arith, stop-from 64 0)

stop-fits : (a : Opened) (w : IndexSizes) (h : Opening) (n : ℕ) → Fits (stop_line (answered a w h n).stop)
unfolding walked
stop-fits (Err why) w h n = number_fits (q "refused=") (omega arith) (number why) (refusal-narrow why)
stop-fits (Ok tt) w h n = number_fits (q "stop=") (omega arith) _ (stop-narrow _ _ _ _)

-- ---- The answer of a call, if it has a value

abbrev Each : {A : Type 0} → (A → Type 0) → Answer A → Type 0
Each P (refused w) = Unit {0}
Each P (value a) = P a

any : {A : Type 0} (a : Answer A) → Each (λ _. Unit {0}) a
any (refused w) = tt
any (value a) = tt

each-then : {A B : Type 0} (P : A → Type 0) (Q : B → Type 0) (a : Answer A) (f : A → Answer B) → Each P a → ((x : A) → P x → Each Q (f x))
    → Each Q (a ⟫ f)
each-then P Q (refused w) f h k = tt
each-then P Q (value a) f h k = k a h

each_item : {A : Type 0} (P : A → Type 0) (l : List A) → ((i : ℕ) (a : A) → get_elem? l i ≡ some a → P a) → (i : ℕ) → Each P (item l i)
each_item {A} P l h i = by-item (get_elem? l i) refl
  where
    by-item : (o : Option A) → get_elem? l i ≡ o → Each P (or_no_row o)
    by-item none e = tt
    by-item (some a) e = h i a e

answer-fits : (key : Text) → length key ≤ 9 → (a : Answer ℕ) → Each Narrow a → Fits (answer_line key a)
answer-fits key h (refused w) k = omega arith
answer-fits key h (value n) k = number_fits key h n k

or-key-fits : (key : Text) → length key ≤ 9 → (a : Answer ℕ) → Each Narrow a → Fits (or_key_line key a)
or-key-fits key h (refused w) k = pick Fits (eqb w.number (number NoSuchRow)) (λ _. line-fits key h [] (omega arith)) (λ _. omega arith)
or-key-fits key h (value n) k = number_fits key h n k

-- ---- What each row of a key says, and so the first of them

abbrev All : {B : Type 0} → (B → Type 0) → List B → Type 0
All P [] = Unit {0}
All P (x ∷ l) = P x × All P l

abbrev OrNone : {B : Type 0} → (B → Type 0) → Option B → Type 0
OrNone P none = Unit {0}
OrNone P (some b) = P b

module _ {B : Type 0} (P : B → Type 0) where
  all_end : (l : List B) (x : B) → All P l → P x → All P (l ++ x ∷ [])
  all_end [] x h p = (p, tt)
  all_end (y ∷ l) x h p = (h.0, all_end l x h.1 p)

  all-of-key : (key : List ℕ → ℕ) (say : List ℕ → B) (row : ℕ → List ℕ) (k : ℕ) → ((i : ℕ) → P (say (row i))) → (n : ℕ) → All P (of_key key say row n k)
  all-of-key key say row k h zero = tt
  all-of-key key say row k h (suc n) =
      let before = all-of-key key say row k h n in
      pick (All P) (eqb (key (row n)) k) (λ _. all_end (of_key key say row n k) (say (row n)) before (h n)) (λ _. before)

  first_of : (l : List B) → All P l → OrNone P (get_elem? l 0)
  first_of [] h = tt
  first_of (x ∷ l) h = h.0

  or-no-row : (o : Option B) → OrNone P o → Each P (or_no_row o)
  or-no-row none h = tt
  or-no-row (some b) h = h

-- ---- Parts of a list of bytes

bytes_take : (n : ℕ) (s : List ℕ) → Bytes s → Bytes (take n s)
bytes_take zero s h i = omega arith
bytes_take (suc n) [] h i = omega arith
bytes_take (suc n) (x ∷ s) h zero = h 0
bytes_take (suc n) (x ∷ s) h (suc i) = bytes_take n s (λ j. h (suc j)) i

pub bytes-part : (s : List ℕ) (start n : ℕ) → Bytes s → Bytes (part s start n)
bytes-part s start n h = bytes_take n (drop start s) (λ i. omega (arith, get_or-drop start s i 0, h (start + i)))

-- ---- Flags and counts, and all lines

abbrev NarrowMethod : Method → Type 0
NarrowMethod m = Narrow m.flags

abbrev NarrowLayout : ClassLayout → Type 0
NarrowLayout l = Narrow l.packing × Narrow l.size

record NarrowClass (k : Class) : Type 0 where
  flags : Narrow k.flags
  layout : OrNone NarrowLayout k.layout
  each : (i : ℕ) (m : Method) → get_elem? k.methods i ≡ some m → NarrowMethod m

module _ (t strings heap : List ℕ) (bytes : Bytes t) where
  abbrev v : View
  v = view base t strings heap

  abbrev NarrowIn : (k j : ℕ) → Option (List ℕ) → Type 0
  NarrowIn k j r = Narrow (number_in v (column k j) r)

  row-narrow : (k j i : ℕ) → width_in (sizes_of v) (get_or (columns_of k) j Two) ≤ 4 → Narrow (column k j (sizes_of v) (row_bytes (place base (opened base t) t k) t i))
  unfolding view_of column
  row-narrow k j i h =
      let e = place base (opened base t) t k in
      let start = e.start + i * e.size in
      le-fits (part t start e.size) _ _ _ refl (bytes-part t start e.size bytes) h

  column-narrow : (k j i : ℕ) → width_in (sizes_of v) (get_or (columns_of k) j Two) ≤ 4 → NarrowIn k j (v.row k i)
  unfolding view_of other_row
  column-narrow k j i h =
      pick (NarrowIn k j) (is_side k) (λ _. omega arith)
      (λ _. pick (NarrowIn k j) (ltb i (kept_rows base (opened base t) (length t) k))
      (λ _. row-narrow k j i h) (λ _. omega arith))

  layout-narrow : (c : ℕ) → OrNone NarrowLayout (v.layout c)
  unfolding view_of tables
  layout-narrow c =
      let h = opened base t in
      let w = sizes_in base h in
      let rows = side_row base h t class_layout in
      let n = side_rows base h t class_layout in
      first_of NarrowLayout (of_key (layout_parent w) (layout_in w) rows n c)
      (all-of-key NarrowLayout (layout_parent w) (layout_in w) rows c (λ i. (row-narrow class_layout 0 i (omega arith), row-narrow class_layout 1 i (omega arith))) n)

  method-narrow : (c m : ℕ) → NarrowMethod (method v c m)
  unfolding method tables
  method-narrow c m = column-narrow method_def 2 m (omega arith)

  class-narrow : (c : ℕ) → NarrowClass (class v c)
  unfolding class tables
  class-narrow c = record {
    flags = column-narrow type_def 0 (c + 1) (omega arith);
    layout = layout-narrow (c + 2);
    each = tabulated NarrowMethod (method v c) (left_after v c) (left_after v (c + 1) - left_after v c) (method-narrow c);
  }

  classes-are : Each (λ (l : List Class). l ≡ class_record v) (the_classes v)
  classes-are = each-then (λ _. Unit {0}) _ (ready v.header.answer) _ (any (ready v.header.answer)) (λ _ _. refl)

  a-class : (c : ℕ) → Each NarrowClass (the_class v c)
  unfolding class_record
  a-class c =
      each-then (λ (l : List Class). l ≡ class_record v) NarrowClass (the_classes v) (λ l. item l c) classes-are
      (λ l e. rw e (each_item NarrowClass (class_record v) (tabulated NarrowClass (class v) 0 (classes v) class-narrow) c))

  count-narrow : Each Narrow (class_count v)
  unfolding class_count
  count-narrow =
      each-then (λ (l : List Class). l ≡ class_record v) Narrow (the_classes v) (λ l. value (length l)) classes-are
      (λ l e. rw e (omega (arith, (few-in t strings heap).classes)))

  flags-narrow : (c : ℕ) → Each Narrow (class_flags v c)
  unfolding class_flags
  flags-narrow c = each-then NarrowClass Narrow (the_class v c) (λ k. value k.flags) (a-class c) (λ k n. n.flags)

  the-layout : (c : ℕ) → Each NarrowLayout (the_layout v c)
  the-layout c =
      each-then NarrowClass NarrowLayout (the_class v c) (λ k. or_no_row k.layout) (a-class c) (λ k n. or-no-row NarrowLayout k.layout n.layout)

  packing-narrow : (c : ℕ) → Each Narrow (class_packing v c)
  unfolding class_packing
  packing-narrow c = each-then NarrowLayout Narrow (the_layout v c) (λ l. value l.packing) (the-layout c) (λ l n. n.0)

  size-narrow : (c : ℕ) → Each Narrow (class_size v c)
  unfolding class_size
  size-narrow c = each-then NarrowLayout Narrow (the_layout v c) (λ l. value l.size) (the-layout c) (λ l n. n.1)

  method-flags-narrow : (c m : ℕ) → Each Narrow (method_flags v c m)
  unfolding method_flags
  method-flags-narrow c m =
      each-then NarrowMethod Narrow (the_method v c m) (λ k. value k.flags)
      (each-then NarrowClass NarrowMethod (the_class v c) (λ k. item k.methods m) (a-class c) (λ k n. each_item NarrowMethod k.methods n.each m))
      (λ k n. n)

  place-fits : (p : Place) (c m i : ℕ) → Fits (place_line v p c m i)
  unfolding walk_by
  place-fits at.Stop c m i = stop-fits v.header.answer v.sizes v.header v.size
  place-fits at.Classes c m i = answer-fits (q "classes=") (omega arith) (class_count v) count-narrow
  place-fits at.Class c m i = name-fits (q "class=") (omega arith) (class_name v c)
  place-fits at.Flags c m i = answer-fits (q "flags=") (omega arith) (class_flags v c) (flags-narrow c)
  place-fits at.Packing c m i = or-key-fits (q "packing=") (omega arith) (class_packing v c) (packing-narrow c)
  place-fits at.Size c m i = or-key-fits (q "size=") (omega arith) (class_size v c) (size-narrow c)
  place-fits at.Generic c m i = name-fits (q "generic=") (omega arith) (generic_name v c i)
  place-fits at.Base c m i = name-fits (q "base=") (omega arith) (listed (BaseName c i) v)
  place-fits at.Method c m i = name-fits (q "method=") (omega arith) (method_name v c m)
  place-fits at.MethodFlags c m i = answer-fits (q "mflags=") (omega arith) (method_flags v c m) (method-flags-narrow c m)
  place-fits at.MethodGeneric c m i = name-fits (q "mgeneric=") (omega arith) (method_generic_name v c m i)
  place-fits at.Returns c m i = name-fits (q "returns=") (omega arith) (listed (ReturnType c m) v)
  place-fits at.ParamType c m i = name-fits (q "ptype=") (omega arith) (listed (ParameterType c m i) v)
  place-fits at.ParamName c m i = name-fits (q "pname=") (omega arith) (listed (ParameterName c m i) v)
  place-fits at.Done c m i = omega arith

pub lines_fit : LinesFit
unfolding line_at
lines_fit tables strings blob c bytes = place-fits tables strings blob bytes c.place c.class.0 c.method c.i
