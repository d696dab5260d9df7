-- The ways through the leaves: a class's strings, its name, and the class that a NestedClass row puts around it. Assumes nothing.
use mathlib.Core.Path.{◌≡◌, refl, sym, ap, subst, ◌∙◌}
use mathlib.Core.Bool.{false}
use mathlib.Core.List.{List}
use mathlib.Core.Option.{Option, none, some}
use mathlib.Core.Logic.{⊎_elim}
use Prim.Native.Nat.{ℕ, ◌+◌, ◌-◌, ◌≤◌, ◌<◌}
use native.Mathlib.Omega.{arith}
use borrow.Author.Tests.{lt-ltb, le-ltb}
use lib.ListN.{length, take, drop, length-drop}
use lib.Seq.{length-take-le, take-take}
use Rattle.numbers.specs.Parts.{part}
use Rattle.buffers.specs.Texts.{Text}
use Rattle.heaps.specs.Lookups.{Part, before, string_at, string, is_there}
use Rattle.buffers.specs.declared.Reason.{Reason}
use Rattle.heaps.proofs.Lookups.{before-most, string-within, string-some, string-none}
use Rattle.layouts.specs.Kinds.{type_def}
use Rattle.tables.specs.Extents.{sizes_in, kept_rows}
use Rattle.record.specs.Missing.{over, and_then}
use Rattle.record.specs.Columns.{column, type_name}
use Rattle.record.specs.Rows.{row_bytes}
use Rattle.record.specs.Namespaces.{cut, class_at, name_of}
use Rattle.record.specs.View.{place, other_row}
use Rattle.layouts.specs.Read.{read_column}
use Rattle.rows.specs.Columns as columns
use Rattle.rows.specs.Layout.{options_in, header_in, rows_at, cell, Laid}
use Rattle.rows.specs.Held.{around}
use Rattle.rows.proofs.Laws.{rows-at, le-or-lt}
use Rattle.rows.proofs.Held.{around-low as low, around-other as other, around-out as out, around-in as in_row}
use Rattle.classes.specs.declared.TypeDefRow.{TypeDefRow}
use Rattle.names.specs.Naming.{Around, Name, name_text, NameInside, Shows, class_string, name_in, around_in, around_says, LastAround}
use Rattle.std.specs.Prelude.{Some, None, Ok, Err}
use Rattle.std.specs.Result.{result_ok}

-- What is known of a name that was found.
pub shown-at : {s : List ℕ} {d : Option Text} {p : Name} {start n : ℕ} → Shows s d p → p ≡ Some (record { start = start; len = n }) → (d ≡ some (part s start n)) × (start + n ≤ length s)
shown-at {s} h e = (sym h.is ∙ ap (name_text s) e, subst (NameInside s) e h.inside)

pub shown-missing : {s : List ℕ} {d : Option Text} {p : Name} → Shows s d p → p ≡ None → d ≡ none
shown-missing {s} h e = sym h.is ∙ ap (name_text s) e

-- A missing text.
pub shows-none : {s : List ℕ} {d : Option Text} → d ≡ none → Shows s d None
shows-none e = record { is = sym e; inside = tt }

-- The string of a class, by the row that is asked for.
module _ (t l strings : List ℕ) (c r : ℕ) where
  pub class_low : r < 2 → Shows strings (class_string t l strings c r) None
  unfolding class_string
  class_low h = shows-none (rw (lt-ltb r 2 h))

  module _ (laid : Laid t l) (k : c < columns.count) (e : (read_column c).kind ≡ type_def) (h : 2 ≤ r) where
    kept : rows_at l c ≡ kept_rows (options_in l) (header_in t l) (length t) type_def
    kept = rows-at laid c k ∙ ap (kept_rows (options_in l) (header_in t l) (length t)) e

    pub class-past : rows_at l c < r → Shows strings (class_string t l strings c r) None
    unfolding class_string other_row
    class-past p =
        shows-none (rw (le-ltb r 2 h, le-ltb (r - 1) (kept_rows (options_in l) (header_in t l) (length t) type_def) (omega (arith, kept))))

    there : r ≤ rows_at l c → class_string t l strings c r ≡ string strings (cell t l c (r - 1))
    unfolding class_string other_row
    there p =
        rw (le-ltb r 2 h, lt-ltb (r - 1) (kept_rows (options_in l) (header_in t l) (length t) type_def) (omega (arith, kept)))
        (ap (λ (j : ℕ). string strings (column j (read_column c).place (sizes_in (options_in l) (header_in t l)) (row_bytes (place (options_in l) (header_in t l) t j) t (r - 1)))) (sym e))

    -- The string was looked up.
    module _ (n : r ≤ rows_at l c) {p : Part} (q : p ≡ string_at strings (cell t l c (r - 1))) where
      pub class-found : {start len : ℕ} → p ≡ Ok (record { start = start; len = len }) → Shows strings (class_string t l strings c r) (Some (record { start = start; len = len }))
      class-found f =
          let at = sym f ∙ q in
          record { is = sym (there n ∙ string-some strings (cell t l c (r - 1)) at); inside = string-within strings (cell t l c (r - 1)) at }

      pub class-absent : {why : Reason} → p ≡ Err why → Shows strings (class_string t l strings c r) None
      class-absent f = shows-none (there n ∙ string-none strings (cell t l c (r - 1)) (sym f ∙ q))

    pub class-looked : (n : r ≤ rows_at l c) (p : Part) → p ≡ string_at strings (cell t l c (r - 1)) → {o : Name} → o ≡ result_ok p
        → Shows strings (class_string t l strings c r) o
    class-looked n (Ok span) q f = rw f (class-found n q refl)
    class-looked n (Err why) q f = rw f (class-absent n q refl)

-- The name of a class is the string of its name column, cut at the first back-quote.
module _ (t l strings : List ℕ) (r : ℕ) where
  own_name : name_in t l strings r ≡ over cut (class_string t l strings columns.type_name r)
  unfolding name_in name_of class_string
  own_name = go (class_at (sizes_in (options_in l) (header_in t l)) strings (other_row (options_in l) (header_in t l) t) r)
    where
      go : (o : Option (List ℕ))
          → and_then o (λ bytes. over cut (string strings (type_name (sizes_in (options_in l) (header_in t l)) bytes)))
          ≡ over cut (and_then o (λ bytes. string strings (type_name (sizes_in (options_in l) (header_in t l)) bytes)))
      go none = refl
      go (some bytes) = refl

  pub own-missing : {p : Name} → Shows strings (class_string t l strings columns.type_name r) p → p ≡ None → Shows strings (name_in t l strings r) None
  own-missing s e = shows-none (own_name ∙ ap (over cut) (sym s.is ∙ ap (name_text strings) e))

-- Whether it is there is whether the string is.
pub over-there : {A B : Type 0} (f : A → B) (o : Option A) → is_there (over f o) ≡ is_there o
over-there f none = refl
over-there f (some a) = refl

module _ (t l strings : List ℕ) (r : ℕ) where
  own-there : {o : Option Text} → class_string t l strings columns.type_name r ≡ o → is_there (name_in t l strings r) ≡ is_there o
  own-there {o} e = ap is_there (own_name t l strings r ∙ ap (over cut) e) ∙ over-there cut o

  pub own-low : r < 2 → is_there (name_in t l strings r) ≡ false
  own-low h = own-there (sym (class_low t l strings columns.type_name r h).is)

  module _ (laid : Laid t l) (h : 2 ≤ r) where
    pub own-past : rows_at l columns.type_name < r → is_there (name_in t l strings r) ≡ false
    own-past p = own-there (sym (class-past t l strings columns.type_name r laid (omega arith) refl h p).is)

    pub own-found : r ≤ rows_at l columns.type_name → is_there (name_in t l strings r) ≡ is_there (string strings (cell t l columns.type_name (r - 1)))
    own-found p = own-there (there t l strings columns.type_name r laid (omega arith) refl h p)

-- The part of a string up to its first back-quote.
pub cut-part : (s : List ℕ) (start len n : ℕ) → start + len ≤ length s → n ≡ before 0x60 (part s start len)
    → (cut (part s start len) ≡ part s start n) × (start + n ≤ length s)
unfolding cut
cut-part s start len n inside e =
    let size = length-take-le len (drop start s) (omega (arith, length-drop start s)) in
    let most = before-most 0x60 (part s start len) in
    (ap (λ (k : ℕ). take k (part s start len)) (sym e) ∙ take-take n len (drop start s) (omega arith), omega arith)

pub own_at : (t l strings : List ℕ) (r : ℕ) {p : Name} {start len n : ℕ} → Shows strings (class_string t l strings columns.type_name r) p → p ≡ Some (record { start = start; len = len })
    → n ≡ before 0x60 (part strings start len) → Shows strings (name_in t l strings r) (Some (record { start = start; len = n }))
own_at t l strings r {start = start} {len} {n} s e f =
    let short = cut-part strings start len n (subst (NameInside strings) e s.inside) f in
    record {
      is = sym (own_name t l strings r ∙ ap (over cut) (sym s.is ∙ ap (name_text strings) e) ∙ ap some short.0);
      inside = short.1;
    }

-- The class that a NestedClass row puts around another, by the row's two numbers.
module _ (t l : List ℕ) (i r : ℕ) where
  abbrev inner : ℕ → ℕ
  inner = cell t l columns.nested

  abbrev outer : ℕ → ℕ
  outer = cell t l columns.enclosing

  pub around-is : around inner outer i r ≡ around_in t l i r
  unfolding around_in around
  around-is = refl

  pub around-low : inner i < 2 → none ≡ around_in t l i r
  around-low h = low inner outer i r h ∙ around-is

  pub around-other : (inner i ≡ r → ⊥) → none ≡ around_in t l i r
  around-other h = other inner outer i r h ∙ around-is

  pub around-out : outer i < 2 → none ≡ around_in t l i r
  around-out h = out inner outer i r h ∙ around-is

  pub around-in : 1 < inner i → 1 < outer i → inner i ≡ r → some (outer i) ≡ around_in t l i r
  around-in h k e = in_row inner outer i r h k e ∙ around-is

-- The search for the last row that puts a class around another: from row i up to the end none does.
pub record Looking (t l : List ℕ) (end r i : ℕ) : Type 0 where
  pub within : i ≤ end
  pub none-acts : (j : ℕ) → i ≤ j → j < end → none ≡ around_in t l j r

module _ (t l : List ℕ) (end r : ℕ) where
  pub look-start : Looking t l end r end
  look-start = record { within = omega arith; none-acts = λ j lo hi. absurd (omega arith) }

  pub look-end : {i : ℕ} → Looking t l end r i → i ≤ 0 → LastAround t l end r None
  look-end k h j hi = k.none-acts j (omega arith) hi

  module _ {i : ℕ} (k : Looking t l end r i) (z : 0 < i) {a : Around} (says : around_says a ≡ around_in t l (i - 1) r) where
    pub look-on : a ≡ None → Looking t l end r (i - 1)
    look-on e =
        record {
          within = omega (arith, k.within);
          none-acts = λ j lo hi.
              ⊎_elim (λ m. k.none-acts j m hi)
              (λ m. let one : i - 1 ≡ j = omega arith in sym (ap around_says e) ∙ says ∙ ap (λ (x : ℕ). around_in t l x r) one) (le-or-lt i j);
        }

    pub look-found : {e : TypeDefRow} → a ≡ Some e → LastAround t l end r (Some (e, (i - 1)))
    look-found e = (omega (arith, k.within), sym (ap around_says e) ∙ says, λ j lo hi. k.none-acts j (omega arith) hi)
