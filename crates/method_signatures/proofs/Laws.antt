-- What reading a method's signature relies on: the types behind a position, a class's reading step by step, and the scan for the class whose
-- reading stands. Assumes nothing.
use mathlib.Core.Path.{◌≡◌, refl, sym, ap, subst, ◌∙◌}
use mathlib.Core.Bool.{Bool, true, false, cond, ◌&&◌, ◌||◌}
use mathlib.Core.List.{List, [], ◌∷◌, map}
use mathlib.Core.Option.{Option, none, some}
use Prim.Native.Nat.{ℕ, zero, suc, ◌+◌, ◌-◌, ◌*◌, ◌≤◌, ◌<◌}
use mathlib.Core.Logic.{◌⊎◌, inl, inr, ⊎_elim}
use native.Mathlib.Nat.{eq-zero-or-pos}
use native.Mathlib.Omega.{arith}
use borrow.Author.Tests.{eq-eqb, ne_eqb, le-leb, lt-leb, lt-ltb, le-ltb}
use lib.Dec.{T, eqb, leb, ltb, leb→le, ltb→lt}
use lib.ListN.{length}
use Rattle.numbers.specs.Lists.{tabulate}
use Rattle.numbers.specs.Reading.{Res, Reader, some_at, none_at}
use Rattle.numbers.specs.Compressed.{Uint, uint_says}
use Rattle.numbers.specs.Parts.{part}
use Rattle.buffers.specs.Texts.{Text}
use Rattle.buffers.specs.Writes.{Kept, Wrote}
use Rattle.buffers.proofs.Writing.{kept_same}
use Rattle.heaps.specs.Lookups.{Part, blob_at, blob}
use Rattle.buffers.specs.declared.Reason.{Reason}
use Rattle.heaps.proofs.Lookups.{blob-within}
use Rattle.layouts.specs.Kinds.{method_def}
use Rattle.layouts.proofs.Reaches.{and_left, and_right}
use Rattle.classes.specs.Numbering.{class_at}
use Rattle.classes.specs.declared.ClassNumber.{ClassNumber}
use Rattle.record.specs.Missing.{and_then, first_there}
use Rattle.record.specs.Readings.{in_blob}
use Rattle.record.specs.Columns.{method_list, method_signature}
use Rattle.record.specs.View.{View, view_of}
use Rattle.record.specs.Types.{Env, method_start, type}
use Rattle.record.specs.Names.{rows_in, sizes_of, number_in, classes, class_row, env, levels, class_generics, method_generics}
use Rattle.record.specs.Methods.{Signature, tries, signature, signature_blob, reading, read_by, method_lists, end_before, reads, readers_among, readers_from, signature_of, signature_in}
use Rattle.record.proofs.Read.{method-row}
use Rattle.rows.specs.Columns as columns
use Rattle.rows.specs.Layout.{Laid, Ascends, rows_at, is_marked, cell, options_in, view_in}
use Rattle.rows.proofs.Laws.{rows-at, rows-narrow, marked-ascends}
use Rattle.rows.proofs.Classes.{classes-are, methods-are, list_at}
use Rattle.rendering.specs.Rendered.{Rendering, Rendered}
use Rattle.rendering.proofs.Laws.{rendered-done, rendered-failed}
use Rattle.sig_leaves.proofs.Specs.{blob-some, blob-absent}
use Rattle.signatures.specs.Environment.{env_in}
use Rattle.method_signatures.specs.Signatures.{ClassReader, types_from, behind, ReadFrom, PastMethod, ReaderIs, FirstIn, NextIn, ReadingIs, read, missing}
use Rattle.method_signatures.specs.declared.Reading.{Reading}
use Rattle.std.specs.declared.option.Option as std
use Rattle.std.specs.Option.{is_some}
use Rattle.std.specs.Result.{result_ok}
use Rattle.std.specs.Prelude.{Result}
use Rattle.std.proofs.lemmas.Option.{none-some, same_Some}
use Rattle.std.specs.Prelude.{Some, None, Ok, Err}

-- ---- Results of which the value is kept

module _ {A E : Type 0} where
  pub value-there : (r : Result A E) {x : A} → result_ok r ≡ Some x → r ≡ Ok x
  value-there (Ok y) {x} e = ap Ok (same_Some y x e)
  value-there (Err w) {x} e = absurd (none-some x e)

  pub value-gone : (r : Result A E) → result_ok r ≡ None → {P : Type 0} → ((w : E) → r ≡ Err w → P) → P
  value-gone (Ok x) e k = absurd (none-some x (sym e))
  value-gone (Err w) e k = k w refl

-- The position behind a rendering, whether it has a text or not.
pub rendered-next : {d : Res Text} {b b' : List ℕ} {at next : ℕ} {r : Rendering} → Rendered d b at b' r
    → ((end : ℕ) × (r ≡ Ok (end, next))) ⊎ (r ≡ Err next) → d.next ≡ next
rendered-next h (inl e) = (rendered-done h e.1).on
rendered-next h (inr e) = (rendered-failed h e).on

-- ---- The types of parameters

module _ (type : Reader Text) where
  types-tried : (n : ℕ) (s : List ℕ) (at : ℕ) → (tries n type s at).got ≡ some (types_from type n s at)
  unfolding tries types_from
  types-tried zero s at = refl
  types-tried (suc n) s at = rw (types-tried n s (type s at).next)

  -- One more is passed.
  pub behind_more : (s : List ℕ) {n k at next : ℕ} → n ≡ suc k → (type s at).next ≡ next → behind type n s at ≡ behind type k s next
  unfolding behind
  behind_more s e f = rw (e, f)

  pub behind-none : (s : List ℕ) {n : ℕ} (at : ℕ) → n ≡ 0 → behind type n s at ≡ at
  unfolding behind
  behind-none s at e = rw e

  pub types-length : (n : ℕ) (s : List ℕ) (at : ℕ) → length (types_from type n s at) ≡ n
  unfolding types_from
  types-length zero s at = refl
  types-length (suc n) s at = ap suc (types-length n s (type s at).next)

-- ---- A class's reading

-- A method's row, counted from 1, fits a word.
pub method-narrow : {t l : List ℕ} → Laid t l → (m : ℕ) → m < rows_at l columns.method_signature → m + 1 < 4294967296
method-narrow laid m h = omega (arith, rows-narrow laid columns.method_signature (omega arith))

module _ (e : Env) (s : List ℕ) where
  signature-read : {n first next : ℕ} {t : Text} → some_at n first ≡ method_start s 0 → (type e levels s first).got ≡ some t → (type e levels s first).next ≡ next
      → (signature e s 0).got ≡ some (record { returns = t; parameters = types_from (type e levels) n s next })
  unfolding signature
  signature-read {n} {first} {next} a b c = rw (← a, b, c, types-tried (type e levels) n s next)

  signature-unread : {n first : ℕ} → some_at n first ≡ method_start s 0 → (type e levels s first).got ≡ none → (signature e s 0).got ≡ none
  unfolding signature
  signature-unread a b = rw (← a, b)

  signature-cut : {next : ℕ} → none_at next ≡ method_start s 0 → (signature e s 0).got ≡ none
  unfolding signature
  signature-cut a = rw (← a)

module _ {t l : List ℕ} (laid : Laid t l) (strings heap : List ℕ) (m c : ℕ) (h : m < rows_at l columns.method_signature) where
  abbrev v : View
  v = view_in t l strings heap

  abbrev e : Env
  e = env v (class_generics v c) (method_generics v m)

  by-class : reading v m c ≡ in_blob (signature e) (blob heap (cell t l columns.method_signature m))
  unfolding reading signature_blob view_of
  by-class =
      ap (λ (r : Option (List ℕ)). in_blob (signature e) (and_then r (λ row. blob heap (method_signature (sizes_of v) row))))
      (method-row (options_in l) t strings heap m (omega (arith, rows-at laid columns.method_signature (omega arith))))

  module _ {p : Part} {i : ℕ} (told : i ≡ cell t l columns.method_signature m) (looked : p ≡ blob_at heap i) where
    looked-at : p ≡ blob_at heap (cell t l columns.method_signature m)
    looked-at = looked ∙ ap (blob_at heap) told

    pub unread-blob : {why : Reason} → p ≡ Err why → reading v m c ≡ none_at 0
    unread-blob f = by-class ∙ ap (in_blob (signature e)) (blob-absent heap (cell t l columns.method_signature m) (sym f ∙ looked-at))

    pub no-blob : (b : List ℕ) (at : ℕ) {why : Reason} → p ≡ Err why → ReadingIs v heap m (read_by v m c) b at b None
    unfolding read_by
    no-blob b at f = missing (ap (λ (d : Res Signature). d.got) (unread-blob f)) (kept_same b at)

    module _ {start len : ℕ} (f : p ≡ Ok (record { start = start; len = len })) where
      pub inside : start + len ≤ length heap
      inside = blob-within heap (cell t l columns.method_signature m) (sym f ∙ looked-at)

      pub read-part : reading v m c ≡ signature e (part heap start len) 0
      read-part = by-class ∙ ap (in_blob (signature e)) (blob-some heap (cell t l columns.method_signature m) (sym f ∙ looked-at))

      of_part : read_by v m c ≡ (signature e (part heap start len) 0).got
      unfolding read_by
      of_part = ap (λ (d : Res Signature). d.got) read-part

      module _ {sig : List ℕ} (is : sig ≡ part heap start len) (u : Uint) (counted : uint_says u ≡ method_start sig 0) where
        start-at : uint_says u ≡ method_start (part heap start len) 0
        start-at = rw is at counted

        pub no_start : (b : List ℕ) (at : ℕ) {next : ℕ} → u ≡ Err next → ReadingIs v heap m (read_by v m c) b at b None
        no_start b at g = missing (of_part ∙ signature-cut e (part heap start len) (ap uint_says (sym g) ∙ start-at)) (kept_same b at)

        module _ {n first : ℕ} (g : u ≡ Ok (n, first)) {owner : ℕ} (its : owner ≡ 2 * (c + 2)) {b b' : List ℕ} {at : ℕ} {r : Rendering}
            (rendered : Rendered (type (env_in t l strings heap (Some owner) (Some (2 * (m + 1) + 1))) levels sig first) b at b' r) where
          here : Rendered (type e levels (part heap start len) first) b at b' r
          unfolding env_in
          here = rw (is, its) at rendered

          pub no-type : {next : ℕ} → r ≡ Err next → ReadingIs v heap m (read_by v m c) b at b' None
          no-type k =
              let x = rendered-failed here k in
              missing (of_part ∙ signature-unread e (part heap start len) (ap uint_says (sym g) ∙ start-at) x.got) x.keeps

          pub signature-there : {end next : ℕ} → r ≡ Ok (end, next)
              → ReadingIs v heap m (read_by v m c) b at b' (Some (record { owner = owner; start = start; len = len; next = next; count = n; end = end }))
          signature-there k =
              let x = rendered-done here k in
              rw its (read x.text inside (of_part ∙ signature-read e (part heap start len) (ap uint_says (sym g) ∙ start-at) x.got x.on) x.wrote)

-- ---- Readings that were made

-- What is kept twice is kept.
pub kept-twice : {b₀ b b' : List ℕ} {at : ℕ} → Kept b₀ at b → Kept b at b' → Kept b₀ at b'
kept-twice k n = record {
  long = n.long ∙ k.long;
  kept = λ i lt in_b. n.kept i lt (omega (arith, k.long)) ∙ k.kept i lt in_b;
}

-- A text that was written behind what was kept.
wrote-behind : {b₀ b b' : List ℕ} {at end : ℕ} {t : Text} → Kept b₀ at b → Wrote b at t b' end → Wrote b₀ at t b' end
wrote-behind k w = record {
  keeps = kept-twice k w.keeps;
  place = omega (arith, w.place, k.long);
  text = λ fits. w.text (omega (arith, k.long));
}

module _ {v : View} {heap : List ℕ} {m : ℕ} {d : Option Signature} {b b' : List ℕ} {at : ℕ} where
  -- What was kept before it is kept after it.
  pub reading-behind : {b₀ : List ℕ} {r : std.Option Reading} → Kept b₀ at b → ReadingIs v heap m d b at b' r → ReadingIs v heap m d b₀ at b' r
  reading-behind k (read t i q w) = read t i q (wrote-behind k w)
  reading-behind k (missing q n) = missing q (kept-twice k n)

  pub reading-missed : ReadingIs v heap m d b at b' None → (d ≡ none) × Kept b at b'
  reading-missed (missing e n) = (e, n)

  -- By what the code tests.
  pub reading-lost : {r : std.Option Reading} → ReadingIs v heap m d b at b' r → is_some r ≡ false → (d ≡ none) × Kept b at b'
  reading-lost (read t i e w) f = absurd (subst T f tt)
  reading-lost (missing e n) f = (e, n)

  -- A reading that succeeded is whatever it stands for.
  pub reading-stands : {r : std.Option Reading} {d' : Option Signature} → ((s : Signature) → d ≡ some s → d' ≡ some s)
      → ReadingIs v heap m d b at b' r → is_some r ≡ true → ReadingIs v heap m d' b at b' r
  reading-stands f (read t i e w) g = read t i (f _ e) w
  reading-stands f (missing e n) g = absurd (subst T (sym g) tt)

-- ---- Within a class's methods

-- The classes that read method m, where class c has the methods from its first up to an end, and these others read it.
unfoldable pub within : ℕ → ℕ → ℕ → ℕ → List ℕ → List ℕ
within m c first end others = cond (leb first m && ltb m end) (c ∷ others) others

module _ (m c first end : ℕ) (others : List ℕ) where
  within-before : m < first → within m c first end others ≡ others
  unfolding within
  within-before h = rw (lt-leb first m h)

  within-inside : first ≤ m → m < end → within m c first end others ≡ c ∷ others
  unfolding within
  within-inside h k = rw (le-leb first m h, lt-ltb m end k)

  -- By what the code tests.
  module _ {b : Bool} (e : b ≡ (leb first m && ltb m end)) where
    within_none : b ≡ false → within m c first end others ≡ others
    unfolding within
    within_none f = rw (sym e ∙ f)

    within_has : b ≡ true → within m c first end others ≡ c ∷ others
    unfolding within
    within_has f = rw (sym e ∙ f)

-- ---- The scan for the classes that read a method

not-read : (z b : Bool) (c : ℕ) (others : List ℕ) → cond (cond z false (b && false)) (c ∷ others) others ≡ others
not-read true b c others = refl
not-read false true c others = refl
not-read false false c others = refl

-- A class that reads a method has a first one, and its methods end behind it.
reads-some : (m col end : ℕ) → reads m col end ≡ true → (0 < col) × (m < end)
unfolding reads
reads-some m zero end e = absurd (subst T (sym e ∙ ap (λ z. cond z false (leb (0 - 1) m && ltb m end)) (eq-eqb 0 0 refl)) tt)
reads-some m (suc k) end e =
    let some : eqb (suc k) 0 ≡ false = ne_eqb (suc k) 0 (λ z. absurd (omega (arith, z))) in
    let both : ◌≡◌ {A = Bool} (leb (suc k - 1) m && ltb m end) true = sym (ap (λ z. cond z false (leb (suc k - 1) m && ltb m end)) some) ∙ e in
    (omega arith, ltb→lt m end (and_right (leb (suc k - 1) m) (ltb m end) (subst T (sym both) tt)))

module _ (v : View) (m : ℕ) where
  -- The classes from i on: which read the method, and where the methods end of the class before them.
  abbrev later : ℕ → List ℕ
  later i = readers_from v m i

  unfoldable pub ending : ℕ → ℕ
  ending i = end_before (rows_in v method_def) (method_lists v i (classes v - i))

  -- The classes l are the one in hand, which has the methods from first on, if it reads the method, and those from i on.
  abbrev pub Standing : List ℕ → ℕ → ℕ → ℕ → Type 0
  Standing l i c first = l ≡ within m c first (ending i) (later i)

  pub stand-from : (i c : ℕ) → Standing (later i) i c (m + 1)
  stand-from i c = sym (within-before m c (m + 1) (ending i) (later i) (omega arith))

  module _ (i : ℕ) (h : i < classes v) {col : ℕ} (read : col ≡ number_in v method_list (class_row v i)) where
    one_more : classes v - i ≡ suc (classes v - (i + 1))
    one_more = omega arith

    ending-step : ending i ≡ cond (eqb col 0) (ending (i + 1)) (col - 1)
    unfolding ending end_before tabulate
    ending-step = rw (one_more, read)

    later-step : later i ≡ cond (reads m col (ending (i + 1))) (i ∷ later (i + 1)) (later (i + 1))
    unfolding readers_from readers_among ending tabulate
    later-step = rw (one_more, read)

    -- By whether the class reads the method.
    unread : reads m col (ending (i + 1)) ≡ false → later i ≡ later (i + 1)
    unread f = later-step ∙ rw f

    read_here : reads m col (ending (i + 1)) ≡ true → later i ≡ i ∷ later (i + 1)
    read_here f = later-step ∙ rw f

    -- A class whose methods end at or below m does not read it.
    passed_over : ending (i + 1) ≤ m → later i ≡ later (i + 1)
    unfolding reads
    passed_over e = later-step ∙ rw (le-ltb m (ending (i + 1)) e) (not-read (eqb col 0) (leb (col - 1) m) i (later (i + 1)))

    -- Nor does one that begins past it.
    begins-past : m + 1 < col → later i ≡ later (i + 1)
    unfolding reads
    begins-past e = later-step ∙ rw (ne_eqb col 0 (λ z. omega arith), lt-leb (col - 1) m (omega arith))

    module _ (z : col ≡ 0) where
      ending_skip : ending i ≡ ending (i + 1)
      ending_skip = ending-step ∙ rw (eq-eqb col 0 z)

      later-skip : later i ≡ later (i + 1)
      unfolding reads
      later-skip = later-step ∙ rw (eq-eqb col 0 z)

    module _ (z : col ≡ 0 → ⊥) where
      ending-met : ending i ≡ col - 1
      ending-met = ending-step ∙ rw (ne_eqb col 0 z)

      later-met : later i ≡ within m i (col - 1) (ending (i + 1)) (later (i + 1))
      unfolding reads within
      later-met = later-step ∙ rw (ne_eqb col 0 z)

    module _ (l : List ℕ) (c first : ℕ) (inv : Standing l i c first) where
      pub stand-skip : col ≡ 0 → Standing l (i + 1) c first
      stand-skip z = rw (ending_skip z, later-skip z) at inv

      module _ (z : col ≡ 0 → ⊥) {b : Bool} (has : b ≡ (leb first m && ltb m (col - 1))) where
        met : l ≡ within m c first (col - 1) (later i)
        met = inv ∙ ap (λ (end : ℕ). within m c first end (later i)) (ending-met z)

        pub stand_read : b ≡ true → l ≡ c ∷ later i
        stand_read e = met ∙ within_has m c first (col - 1) (later i) has e

        pub stand-next : b ≡ false → Standing l (i + 1) i (col - 1)
        stand-next e = met ∙ within_none m c first (col - 1) (later i) has e ∙ later-met z

  -- A class does not read the method if the next one begins at or below m, or if neither begins.
  from_next : (i : ℕ) → i + 1 < classes v → {x y : ℕ} → x ≡ number_in v method_list (class_row v i) → y ≡ number_in v method_list (class_row v (i + 1))
      → x ≤ y → y < m + 2 → ReadFrom v m i → ReadFrom v m (i + 1)
  from_next i h {x} {y} ex ey up lo from =
      ⊎_elim (λ z. from ∙ later-skip i (omega arith) ex (omega arith))
      (λ z.
      let begins : ending (i + 1) ≡ y - 1 = ending-met (i + 1) h ey (λ e. omega arith) in
      from ∙ passed_over i (omega arith) ex (omega arith))
      (eq-zero-or-pos y)

  -- Behind the last class.
  module _ (i : ℕ) (h : classes v ≤ i) where
    none_left : classes v - i ≡ 0
    none_left = omega arith

    ending-last : ending i ≡ rows_in v method_def
    unfolding ending end_before tabulate
    ending-last = rw none_left

    pub later_last : later i ≡ []
    unfolding readers_from readers_among tabulate
    later_last = rw none_left

    module _ (l : List ℕ) (c first : ℕ) (inv : Standing l i c first) where
      pub end_read : first ≤ m → m < rows_in v method_def → l ≡ c ∷ later i
      end_read lo hi = inv ∙ within-inside m c first (ending i) (later i) lo (omega (arith, ending-last))

      pub end_none : m < first → l ≡ []
      end_none hi = inv ∙ within-before m c first (ending i) (later i) hi ∙ later_last

-- The columns that the scan reads.
module _ {t l : List ℕ} (laid : Laid t l) (strings heap : List ℕ) where
  -- A turn of the scan, at a row of TypeDef from 0: the class there has the number before it.
  module _ (m : ℕ) {row : ℕ} (z : 0 < row) (h : row < rows_at l columns.method_list) {col : ℕ} (read : col ≡ cell t l columns.method_list row) (s : List ℕ) (c first : ℕ)
      (inv : Standing (view_in t l strings heap) m s (row - 1) c first) where
    abbrev w : View
    w = view_in t l strings heap

    is-class : row - 1 < classes w
    is-class = omega (arith, classes-are laid strings heap columns.method_list (omega arith) refl)

    its-list : col ≡ number_in w method_list (class_row w (row - 1))
    its-list =
        let one : row ≡ row - 1 + 1 = omega arith in
        read ∙ ap (cell t l columns.method_list) one ∙ sym (list_at laid strings heap (row - 1) is-class)

    next_row : row - 1 + 1 ≡ row + 1 - 1
    next_row = omega arith

    pub turn-skip : col ≡ 0 → Standing w m s (row + 1 - 1) c first
    turn-skip e = subst (λ (i : ℕ). Standing w m s i c first) next_row (stand-skip w m (row - 1) is-class its-list s c first inv e)

    module _ (n : col ≡ 0 → ⊥) {b : Bool} (has : b ≡ (leb first m && ltb m (col - 1))) where
      pub turn-read : b ≡ true → s ≡ c ∷ readers_from w m (row - 1)
      turn-read e = stand_read w m (row - 1) is-class its-list s c first inv n has e

      pub turn-next : b ≡ false → {next : ClassNumber} → next ≡ class_at row → Standing w m s (row + 1 - 1) next.0 (col - 1)
      turn-next e is =
          rw is (subst (λ (i : ℕ). Standing w m s i (row - 1) (col - 1)) next_row (stand-next w m (row - 1) is-class its-list s c first inv n has e))

  module _ (up : Ascends (cell t l columns.method_list) (rows_at l columns.method_list)) (m : ℕ) where
    -- Where MethodList ascends: no class reads the method before one that begins at or below m.
    pub from-begun : (c : ℕ) → c + 1 < rows_at l columns.method_list → cell t l columns.method_list (c + 1) < m + 2 → ReadFrom (view_in t l strings heap) m c
    from-begun zero h lo = refl
    from-begun (suc c) h lo =
        let one : suc c ≡ c + 1 = omega arith in
        let all = classes-are laid strings heap columns.method_list (omega arith) refl in
        let here = list_at laid strings heap c (omega arith) in
        let next = list_at laid strings heap (c + 1) (omega arith) in
        let below = up (c + 1) (omega arith) in
        let low : cell t l columns.method_list (c + 1 + 1) < m + 2 = rw (← one) lo in
        subst (ReadFrom (view_in t l strings heap) m) (sym one)
        (from_next (view_in t l strings heap) m c (omega arith) (sym here) (sym next) below low (from-begun c (omega arith) (omega arith)))

    -- And none from one on that begins past it: n classes follow.
    past_all : (n c : ℕ) → n ≡ classes (view_in t l strings heap) - c → PastMethod (view_in t l strings heap) m c → readers_from (view_in t l strings heap) m c ≡ []
    past_all zero c e past = later_last (view_in t l strings heap) m c (omega arith)
    past_all (suc n) c e past =
        let all = classes-are laid strings heap columns.method_list (omega arith) refl in
        let inside : c < classes (view_in t l strings heap) = omega arith in
        let here = list_at laid strings heap c inside in
        let next : PastMethod (view_in t l strings heap) m (c + 1) =
        λ h. omega (arith, past inside, here, list_at laid strings heap (c + 1) h, up (c + 1) (omega arith)) in
        begins-past (view_in t l strings heap) m c inside refl (past inside) ∙ past_all n (c + 1) (omega arith) next

    pub past-none : (c : ℕ) → PastMethod (view_in t l strings heap) m c → readers_from (view_in t l strings heap) m c ≡ []
    past-none c = past_all _ c refl

    -- So at most one class reads the method: n classes follow.
    abbrev seen : View
    seen = view_in t l strings heap

    abbrev begins : ℕ → ℕ
    begins c = number_in seen method_list (class_row seen c)

    few-step : (c : ℕ) (inside : c < classes seen) → length (readers_from seen m (c + 1)) ≤ 1 → (b : Bool)
        → reads m (begins c) (ending seen m (c + 1)) ≡ b → length (readers_from seen m c) ≤ 1
    few-step c inside few false f = omega (arith, few, ap length (unread seen m c inside refl f))
    few-step c inside few true f =
        let here = list_at laid strings heap c inside in
        let is = reads-some m (begins c) (ending seen m (c + 1)) f in
        let all = classes-are laid strings heap columns.method_list (omega arith) refl in
        let next : PastMethod seen m (c + 1) =
        λ h.
        let begun = list_at laid strings heap (c + 1) h in
        let risen = up (c + 1) (omega arith) in
        let ends = ending-met seen m (c + 1) h refl (λ z. omega (arith, is.0, here, begun, risen)) in
        omega (arith, is.1, ends) in
        omega (arith, ap length (read_here seen m c inside refl f ∙ ap (λ (k : List ℕ). c ∷ k) (past-none (c + 1) next)))

    few-from : (n c : ℕ) → n ≡ classes seen - c → length (readers_from seen m c) ≤ 1
    few-from zero c e = omega (arith, ap length (later_last seen m c (omega arith)))
    few-from (suc n) c e = few-step c (omega arith) (few-from n (c + 1) (omega arith)) _ refl

    pub few-readers : length (readers_from seen m 0) ≤ 1
    few-readers = few-from _ 0 refl

  -- What the scan from a class on answers.
  module _ (m from : ℕ) (class : ClassNumber) (first row : ℕ)
      (inv : Standing (view_in t l strings heap) m (readers_from (view_in t l strings heap) m from) (row - 1) class.0 first) where
    abbrev u : View
    u = view_in t l strings heap

    pub read-last : m < rows_at l columns.method_signature → first ≤ m → from + 1 < row → row ≡ rows_at l columns.method_list → {next : ClassNumber} → next ≡ class_at row
        → ReaderIs u m from (Some (class, next))
    read-last h lo f e is =
        let all = classes-are laid strings heap columns.method_list (omega arith) refl in
        rw is (
          omega arith,
          omega arith,
          end_read u m (row - 1) (omega arith) _ class.0 first inv lo (omega (arith, methods-are laid strings heap columns.method_signature (omega arith) refl)),
          λ k. absurd (omega arith),
        )

    pub read-nobody : m < first → rows_at l columns.method_list ≤ row → ReaderIs u m from None
    read-nobody hi e = end_none u m (row - 1) (omega (arith, classes-are laid strings heap columns.method_list (omega arith) refl)) _ class.0 first inv hi

    module _ (f : first ≤ m → from + 1 < row) (h : row < rows_at l columns.method_list) {col : ℕ} (read : col ≡ cell t l columns.method_list row)
        (n : col ≡ 0 → ⊥) {b : Bool} (has : b ≡ (leb first m && ltb m (col - 1))) where
      pub read-met : b ≡ true → 0 < row → {next : ClassNumber} → next ≡ class_at row → ReaderIs u m from (Some (class, next))
      read-met e z is =
          let both : T (leb first m && ltb m (col - 1)) = rw (sym has ∙ e) tt in
          let lo : first ≤ m = leb→le first m (and_left (leb first m) (ltb m (col - 1)) both) in
          let hi : m < col - 1 = ltb→lt m (col - 1) (and_right (leb first m) (ltb m (col - 1)) both) in
          let after = f lo in
          rw is (
            omega arith,
            omega (arith, classes-are laid strings heap columns.method_list (omega arith) refl),
            turn-read m z h read _ class.0 first inv n has e,
            λ k. subst (λ (x : ℕ). m + 1 < x) (its-list m z h read _ class.0 first inv) (omega arith),
          )

-- ---- Who reads a method, by the mode

-- The classes from c on that read method m: in the mode of the taker class c alone.
unfoldable pub readers_in : View → ℕ → ℕ → List ℕ
readers_in v m c = cond v.taker (c ∷ []) (readers_from v m c)

-- Those behind the first of them, where the others are from class c on.
unfoldable pub others_in : View → ℕ → ℕ → List ℕ
others_in v m c = cond v.taker [] (readers_from v m c)

-- By what the code tests.
module _ (v : View) (m : ℕ) {mode : Bool} (e : mode ≡ v.taker) where
  not-both : {A : Type 0} → v.taker ≡ true → v.taker ≡ false → A
  not-both f g = absurd (subst T (sym f ∙ g) tt)

  pub first-taker : mode ≡ true → (c : ℕ) → FirstIn v c m c
  first-taker f c = (λ _. refl, λ g. not-both (sym e ∙ f) g)

  pub first_any : mode ≡ false → (c : ℕ) {first : ℕ} → ReadFrom v m first → FirstIn v c m first
  first_any f c from = (λ g. not-both g (sym e ∙ f), λ _. from)

  pub next-taker : mode ≡ true → (class : ClassNumber) → NextIn v m class (Some (class, class))
  next-taker f class = (λ _. refl, λ g. not-both (sym e ∙ f) g)

  pub next-any : mode ≡ false → {class : ClassNumber} {r : ClassReader} → ReaderIs v m class.0 r → NextIn v m class r
  next-any f is = (λ g. not-both g (sym e ∙ f), λ _. is)

module _ (v : View) (m : ℕ) where
  module _ (e : v.taker ≡ true) (c : ℕ) where
    pub itself : readers_in v m c ≡ c ∷ []
    unfolding readers_in
    itself = rw e

    no-others : others_in v m c ≡ []
    unfolding others_in
    no-others = rw e

  module _ (e : v.taker ≡ false) (c : ℕ) where
    pub each : readers_in v m c ≡ readers_from v m c
    unfolding readers_in
    each = rw e

    others : others_in v m c ≡ readers_from v m c
    unfolding others_in
    others = rw e

  pub read_next : {class reader after : ClassNumber} → NextIn v m class (Some (reader, after)) → readers_in v m class.0 ≡ reader.0 ∷ others_in v m after.0
  read_next {class} {reader} {after} next = by_mode v.taker refl
    where
      by_mode : (b : Bool) → v.taker ≡ b → readers_in v m class.0 ≡ reader.0 ∷ others_in v m after.0
      by_mode true e =
          let same : reader ≡ class = ap (λ (p : ClassNumber × ClassNumber). p.0) (same_Some _ _ (next.0 e)) in
          rw (itself e class.0, no-others e after.0, same)
      by_mode false e = rw (each e class.0, others e after.0) (next.1 e).2

  pub read-by-none : {class : ClassNumber} → NextIn v m class None → readers_in v m class.0 ≡ []
  read-by-none {class} next = by_mode v.taker refl
    where
      by_mode : (b : Bool) → v.taker ≡ b → readers_in v m class.0 ≡ []
      by_mode true e = absurd (none-some _ (next.0 e))
      by_mode false e = each e class.0 ∙ next.1 e

-- Whether it is known that one class at most reads the method.
module _ {t l : List ℕ} (laid : Laid t l) (strings heap : List ℕ) (m : ℕ)
    {once : Bool} (is-once : once ≡ ((view_in t l strings heap).taker || is_marked l columns.method_list)) where
  abbrev x : View
  x = view_in t l strings heap

  module _ (more : once ≡ false) where
    none-takes : x.taker ≡ false
    none-takes = by_mode x.taker refl
      where
        by_mode : (b : Bool) → x.taker ≡ b → x.taker ≡ false
        by_mode true e = absurd (subst T (sym (rw e at is-once) ∙ more) tt)
        by_mode false e = e

    pub others-on : (c : ℕ) → others_in x m c ≡ readers_in x m c
    others-on c = others x m none-takes c ∙ sym (each x m none-takes c)

  module _ {class reader after : ClassNumber} (next : NextIn x m class (Some (reader, after))) where
    pub reads_on : once ≡ false → (class.0 < after.0) × (after.0 ≤ classes x)
    reads_on more = let found = next.1 (none-takes more) in (found.0, found.1)

    pub alone-reads : once ≡ true → others_in x m after.0 ≡ []
    alone-reads sure = by_mode x.taker refl
      where
        by_mode : (b : Bool) → x.taker ≡ b → others_in x m after.0 ≡ []
        by_mode true e = no-others x m e after.0
        by_mode false e =
            let up = marked-ascends laid columns.method_list (omega arith) (rw e at is-once) sure in
            others x m e after.0 ∙ past-none laid strings heap up m after.0 (next.1 e).3

-- ---- Whose reading stands

-- The first of these classes whose reading succeeds: one that fails leaves it to those behind.
unfoldable pub standing : View → ℕ → List ℕ → Option Signature
standing v m l = first_there (map (read_by v m) l)

module _ (v : View) (m : ℕ) where
  -- The last of them stands or fails for all.
  last-stands : {A : Type 0} (o : Option A) → first_there (o ∷ []) ≡ o
  last-stands none = refl
  last-stands (some a) = refl

  taker-reads : v.taker ≡ true → (c : ℕ) → signature_in v c m ≡ read_by v m c
  unfolding signature_in
  taker-reads e c = rw e

  any-reads : v.taker ≡ false → (c : ℕ) → signature_in v c m ≡ signature_of v m
  unfolding signature_in
  any-reads e c = rw e

  signature-stands : (c first : ℕ) → FirstIn v c m first → signature_in v c m ≡ standing v m (readers_in v m first)
  unfolding signature_of standing
  signature-stands c first is = by_mode v.taker refl
    where
      by_mode : (b : Bool) → v.taker ≡ b → signature_in v c m ≡ standing v m (readers_in v m first)
      by_mode true e = taker-reads e c ∙ rw (itself v m e first, is.0 e) (sym (last-stands (read_by v m c)))
      by_mode false e = any-reads e c ∙ rw (each v m e first, ← (is.1 e))

  pub nobody-stands : {l : List ℕ} → l ≡ [] → standing v m l ≡ none
  unfolding standing
  nobody-stands e = rw e

  module _ {l : List ℕ} {reader : ℕ} {others : List ℕ} (is : l ≡ reader ∷ others) where
    pub reader-stands : (s : Signature) → read_by v m reader ≡ some s → standing v m l ≡ some s
    unfolding standing
    reader-stands s e = rw (is, e)

    pub reader-fails : read_by v m reader ≡ none → standing v m l ≡ standing v m others
    unfolding standing
    reader-fails e = rw (is, e)

    pub alone-stands : others ≡ [] → standing v m l ≡ read_by v m reader
    unfolding standing
    alone-stands e = rw (is, e) (last-stands (read_by v m reader))

-- A reading by all of them is that of the method, which class c takes.
pub reading-in : {v : View} {heap : List ℕ} {m : ℕ} (c : ℕ) {first : ℕ} → FirstIn v c m first → {b b' : List ℕ} {at : ℕ} {r : std.Option Reading}
    → ReadingIs v heap m (standing v m (readers_in v m first)) b at b' r → ReadingIs v heap m (signature_in v c m) b at b' r
reading-in {v} {heap} {m} c {first} is {b} {b'} {at} {r} = subst (λ (s : Option Signature). ReadingIs v heap m s b at b' r) (sym (signature-stands v m c first is))
