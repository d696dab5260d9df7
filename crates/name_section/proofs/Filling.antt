-- The pass over the classes, from slot to slot, and its ends. Assumes nothing.
use mathlib.Core.Path.{◌≡◌, refl, sym, ◌∙◌, ap, ap₂, subst}
use mathlib.Core.Bool.{true, false}
use mathlib.Core.List.{List, [], ◌++◌, append-nil}
use mathlib.Core.Logic.{⊎_elim}
use mathlib.Core.Option.{Option, none, some}
use Prim.Native.Nat.{ℕ, zero, suc, ◌+◌, ◌-◌, ◌%◌, ◌≤◌, ◌<◌}
use native.Mathlib.Nat.{eq-or-lt_of_le, sub-zero}
use native.Mathlib.Omega.{arith}
use lib.ListN.{length, get_or, set, take, drop, replicate, length-set, length-take, length-map, length-drop, drop_of_length-le}
use lib.Seq.{ext_get_or, get_or-take, get_or-set_same, get_or-set_other, take_all, length-take-le}
use Rattle.numbers.proofs.Pick.{by-lt}
use Rattle.numbers.specs.Lists.{tabulate}
use Rattle.buffers.specs.Texts.{Text}
use Rattle.buffers.specs.Writes.{Wrote, Said}
use Rattle.buffers.specs.Replies.{Answer, refused_by, value, cleared}
use Rattle.buffers.specs.declared.Refusal.{Refusal}
use Rattle.buffers.specs.declared.Refusal.TheVariants.{BufferTooSmall}
use Rattle.buffers.specs.declared.Reason.{Reason}
use Rattle.buffers.proofs.Writing.{wrote_none, wrote-past, wrote_then, wrote-anew, said-some, said-none}
use Rattle.buffers.proofs.Replies.{wrote-take}
use Rattle.heaps.specs.Lookups.{text_of}
use Rattle.classes.specs.Numbering.{row_of}
use Rattle.classes.specs.declared.ClassNumber.{ClassNumber}
use Rattle.classes.specs.declared.TypeDefRow.{TypeDefRow}
use Rattle.header.specs.Stream.{Opened, opened}
use Rattle.header.specs.declared.Options.{Options}
use Rattle.places.proofs.Laws.{row_low, row_is}
use Rattle.record.specs.View.{View, view, view_of}
use Rattle.record.specs.Names.{classes, class_full_name, named, class_named}
use Rattle.record.specs.Record.{Class, class, class_record}
use Rattle.record.specs.Answers.{◌⟫◌, ready}
use Rattle.record.proofs.Laws.{record-length}
use Rattle.rows.specs.Columns as columns
use Rattle.rows.specs.Layout.{Laid, rows_at, view_in}
use Rattle.rows.proofs.Laws.{rows-narrow}
use Rattle.rows.proofs.Classes.{classes-are}
use Rattle.name_section.specs.Section.{alignment, slot, section, offsets_from, names_of, names, most_offset, fits, section_reply, section_buffer, offset_buffer, Sectioned}
use Rattle.name_section.specs.declared.Section.{Section}
use Rattle.name_section.proofs.Slots.{section-more, section-grows, offset_at, offsets-length, narrow-all, narrow-not, fit_all, fit-bytes, fit-offsets}
use Rattle.std.specs.Prelude.{Result, Ok, Err}

-- ---- The names of the record, by number

names-length : (v : View) → length (names_of (class_record v)) ≡ classes v
names-length v = length-map (class_record v) (λ (k : Class). text_of k.name) ∙ record-length v

table-names : (v : View) (i n c : ℕ) → c < n → get_or (names_of (tabulate (class v) i n)) c none ≡ text_of (class_named v (i + c))
unfolding tabulate class
table-names v i zero c h = absurd (omega arith)
table-names v i (suc n) zero h = let e : i ≡ i + 0 = omega arith in ap (λ (k : ℕ). text_of (class_named v k)) e
table-names v i (suc n) (suc c) h =
    let e : i + 1 + c ≡ i + suc c = omega arith in
    table-names v (i + 1) n c (omega arith) ∙ ap (λ (k : ℕ). text_of (class_named v k)) e

name-at : (v : View) (c : ℕ) → c < classes v → get_or (names_of (class_record v)) c none ≡ text_of (class_named v c)
unfolding class_record
name-at v c h = let e : 0 + c ≡ c = omega arith in table-names v 0 (classes v) c h ∙ ap (λ (k : ℕ). text_of (class_named v k)) e

-- So many as the layout's rows say, and no number is too large for a row.
module _ {t l : List ℕ} (laid : Laid t l) {n : ℕ} (are : n ≡ rows_at l columns.type_name - 1) where
  pub number_small : (c : ℕ) → c < n → c + 2 < columns.word
  number_small c h = omega (arith, rows-narrow laid columns.type_name (omega arith))

  module _ (strings blob : List ℕ) where
    counted : n ≡ classes (view_in t l strings blob)
    counted = are ∙ sym (classes-are laid strings blob columns.type_name (omega arith) refl)

    pub names-counted : n ≡ length (names_of (class_record (view_in t l strings blob)))
    names-counted = counted ∙ sym (names-length (view_in t l strings blob))

    pub name_of : (c : ℕ) → c < n → get_or (names_of (class_record (view_in t l strings blob))) c none ≡ text_of (class_named (view_in t l strings blob) c)
    name_of c h = name-at (view_in t l strings blob) c (omega (arith, counted))

-- The text of a class's name is its full name.
named-text : (o : Option Text) (why : Reason) → text_of (named o why) ≡ o
named-text none why = refl
named-text (some t) why = refl

class-text : (v : View) (c r : ℕ) → r ≡ c + 2 → text_of (class_named v c) ≡ class_full_name v r
unfolding class_named
class-text v c r e = named-text (class_full_name v (c + 2)) _ ∙ ap (class_full_name v) (sym e)

-- The row of a class whose number is small enough for one.
pub row-known : (c : ClassNumber) {r : TypeDefRow} → r ≡ row_of c → c.0 + 2 < columns.word → r.0 ≡ c.0 + 2
row-known c {r} e h = by-lt r.0 2 (λ low. absurd (omega (arith, row_low c e low))) (λ high. row_is c e high)

-- ---- A slot

pub zeros-few : (n : ℕ) → n ≤ alignment → take n (replicate {A = ℕ} alignment 0) ≡ replicate n 0
zeros-few zero h = refl
zeros-few (suc zero) h = refl
zeros-few (suc (suc zero)) h = refl
zeros-few (suc (suc (suc zero))) h = refl
zeros-few (suc (suc (suc (suc zero)))) h = refl
zeros-few (suc (suc (suc (suc (suc n))))) h = absurd (omega arith)

module _ (v : View) (c r : ℕ) (row : r ≡ c + 2) {b b₁ : List ℕ} {at : ℕ} where
  -- A name, and the zeros behind it.
  pub slot-name : {end at₂ : ℕ} {b₂ : List ℕ} → Said b at b₁ (class_full_name v r) (some end) → end ≤ length b₁
      → Wrote b₁ end (replicate (alignment - (end - at) % alignment) 0) b₂ at₂ → Wrote b at (slot (text_of (class_named v c))) b₂ at₂
  unfolding slot
  slot-name {end} said in_b w =
      let there = said-some said in
      let e : end - at ≡ length there.text = omega (arith, there.wrote.place, there.wrote.keeps.long) in
      rw (class-text v c r row, there.is) (wrote_then there.wrote (rw e at w))

  -- It ends behind where it began.
  pub name-ends : {end : ℕ} → Said b at b₁ (class_full_name v r) (some end) → end ≤ length b₁ → at ≤ end
  name-ends said in_b = let there = said-some said in omega (arith, there.wrote.place, there.wrote.keeps.long)

  -- A name that does not fit.
  pub slot-over : {end : ℕ} → Said b at b₁ (class_full_name v r) (some end) → length b₁ < end → Wrote b at (slot (text_of (class_named v c))) b₁ end
  unfolding slot
  slot-over said past =
      let there = said-some said in
      rw (class-text v c r row, there.is)
      (wrote_then there.wrote (wrote-past b₁ _ _ past (omega (arith, there.wrote.place, there.wrote.keeps.long))))

  -- A name that is missing.
  pub slot-missing : {at₂ : ℕ} {b₂ : List ℕ} → Said b at b₁ (class_full_name v r) none → Wrote b₁ at (replicate alignment 0) b₂ at₂
      → Wrote b at (slot (text_of (class_named v c))) b₂ at₂
  unfolding slot
  slot-missing said w = let gone = said-none said in rw (class-text v c r row, gone.0) (wrote-anew gone.1 w)

-- ---- The pass: of the names l the first c have their slots and offsets, from the buffers s₀ and o₀ on

pub record Filling (l : List (Option Text)) (s₀ o₀ s o : List ℕ) (c at : ℕ) : Type 0 where
  pub most : c ≤ length l
  pub inside : at ≤ length s₀
  pub wrote : Wrote s₀ 0 (section (take c l)) s at
  pub long : length o ≡ length o₀
  pub offsets : (i : ℕ) → i < c → get_or o i 0 ≡ get_or (offsets_from 0 l) i 0
  pub small : (i : ℕ) → i < c → get_or (offsets_from 0 l) i 0 ≤ most_offset

pub fill_start : (l : List (Option Text)) (s o : List ℕ) → Filling l s o s o 0 0
unfolding section
fill_start l s o =
    record {
      most = omega arith;
      inside = omega arith;
      wrote = wrote_none s 0 0 (omega arith);
      long = refl;
      offsets = λ i h. absurd (omega arith);
      small = λ i h. absurd (omega arith);
    }

module _ {l : List (Option Text)} {s₀ o₀ s o : List ℕ} {c at : ℕ} (f : Filling l s₀ o₀ s o c at) where
  -- The place is behind the slots that stand.
  place_is : at ≡ length (section (take c l))
  place_is = omega (arith, f.wrote.place, f.inside)

  -- The next slot, of the name n, begins there.
  module _ (more : c < length l) where
    begins : get_or (offsets_from 0 l) c 0 ≡ at
    begins = omega (arith, offset_at 0 l c more, place_is)

    pub fill-far : most_offset < at → fits l (length s₀) (length o₀) ≡ false
    fill-far far =
        fit-offsets l (length s₀) (length o₀) (narrow-not (offsets_from 0 l) c (omega (arith, offsets-length 0 l)) (omega (arith, begins)))

    module _ {n : Option Text} (is : get_or l c none ≡ n) {s₁ : List ℕ} {at₁ : ℕ} (w : Wrote s at (slot n) s₁ at₁) where
      wrote_on : Wrote s₀ 0 (section (take (c + 1) l)) s₁ at₁
      wrote_on = rw (section-more l c more, is) (wrote_then f.wrote w)

      pub fill-over : length s₁ < at₁ → fits l (length s₀) (length o₀) ≡ false
      fill-over over =
          fit-bytes l (length s₀) (length o₀) (omega (arith, wrote_on.place, wrote_on.keeps.long, section-grows l (c + 1)))

      pub fill-turn : c < length o → at ≤ most_offset → at₁ ≤ length s₁ → Filling l s₀ o₀ s₁ (set o c at) (c + 1) at₁
      fill-turn room near in-s =
          record {
            most = omega arith;
            inside = omega (arith, wrote_on.keeps.long);
            wrote = wrote_on;
            long = length-set o c at ∙ f.long;
            offsets = λ i h.
                ⊎_elim (λ q. ap (λ (x : ℕ). get_or (set o c at) x 0) q ∙ get_or-set_same o c at 0 room ∙ sym begins ∙ ap (λ (x : ℕ). get_or (offsets_from 0 l) x 0) (sym q))
                (λ d. get_or-set_other o c i at 0 (λ q. omega arith) ∙ f.offsets i d) (eq-or-lt_of_le {n = i} {m = c} (omega arith));
            small = λ i h.
                ⊎_elim (λ q. let e : get_or (offsets_from 0 l) i 0 ≡ at = ap (λ (x : ℕ). get_or (offsets_from 0 l) x 0) q ∙ begins in omega arith)
                (λ d. f.small i d) (eq-or-lt_of_le {n = i} {m = c} (omega arith));
          }

  -- All have: what stands, and that it fits.
  module _ (all : length l ≤ c) where
    wrote-all : Wrote s₀ 0 (section l) s at
    wrote-all = rw (take_all c l all) at f.wrote

    fit : length l ≤ length o₀ → fits l (length s₀) (length o₀) ≡ true
    fit room =
        fit_all l (length s₀) (length o₀) room (omega (arith, wrote-all.place, f.inside))
        (narrow-all (offsets_from 0 l) (λ i h. f.small i (omega (arith, offsets-length 0 l))))

    pub fill_done : {n : ℕ} {s₁ o₁ : List ℕ} → n ≡ length l → n ≤ length o → s₁ ≡ cleared s at → o₁ ≡ cleared o n
        → Sectioned (value l) s₀ o₀ (Ok (record { bytes = at; classes = n })) s₁ o₁
    unfolding section_reply section_buffer offset_buffer cleared
    fill_done {n} e room is are =
        let size : at ≡ length (section l) = omega (arith, wrote-all.place, f.inside) in
        let yes = fit (omega (arith, f.long)) in
        let text : take at s ≡ section l = wrote-take s₀ s (section l) at wrote-all (omega arith) in
        let same : length s ≡ length s₀ = wrote-all.keeps.long in
        record {
          reply = rw yes (ap value (ap₂ (λ (x y : ℕ). record { bytes = x; classes = y }) size e));
          bytes = is ∙ rw (yes, text, same, size);
          places = are ∙ rw (yes, e, f.long, front (omega (arith, f.long)));
        }
      where
        front : length l ≤ length o → take (length l) o ≡ offsets_from 0 l
        front h =
            ext_get_or 0 (take (length l) o) (offsets_from 0 l) (length-take-le (length l) o h ∙ sym (offsets-length 0 l))
            (λ i lt.
            let less : i < length l = omega (arith, length-take (length l) o) in
            get_or-take (length l) o i 0 less ∙ f.offsets i (omega arith))

-- ---- The names, by what opening found

module _ (o : Options) (t strings blob : List ℕ) {s p s' p' : List ℕ} {r : Result Section Refusal} where
  pub of-refused : (why : Refusal) → (opened o t).answer ≡ Err why → Sectioned (refused_by why) s p r s' p'
      → Sectioned (names (view o t strings blob)) s p r s' p'
  unfolding view_of
  of-refused why e x = rw e x

  pub of-ready : (opened o t).answer ≡ (Ok tt) → Sectioned (value (names_of (class_record (view o t strings blob)))) s p r s' p'
      → Sectioned (names (view o t strings blob)) s p r s' p'
  unfolding view_of
  of-ready e x =
      let v = view o t strings blob in
      subst (λ (a : Answer (List (Option Text))). Sectioned a s p r s' p')
      (sym (ap (λ (a : Opened). ready a ⟫ (λ _. value (class_record v)) ⟫ (λ (l : List Class). value (names_of l))) e)) x

-- ---- Zeros behind the offsets

pub tail-zeros : (o m : List ℕ) (n : ℕ) → m ≡ replicate (length (take (length o - n) (drop n o))) 0
    → take n o ++ (m ++ drop (length o - n) (drop n o)) ≡ cleared o n
unfolding cleared
tail-zeros o m n e =
    let k : length (drop n o) ≡ length o - n = length-drop n o in
    let all : length (take (length o - n) (drop n o)) ≡ length o - n = length-take-le (length o - n) (drop n o) (omega arith) in
    let none : drop (length o - n) (drop n o) ≡ [] = drop_of_length-le (drop n o) {i = length o - n} (omega arith) in
    ap (λ (x : List ℕ). take n o ++ x) (rw none (append-nil m ∙ e ∙ ap (λ (x : ℕ). replicate x 0) all))

pub no-tail : (o : List ℕ) (n : ℕ) → length o < n → o ≡ cleared o n
unfolding cleared
no-tail o n h =
    let none : length o - n ≡ 0 = omega arith in
    rw (take_all n o (omega arith), none) (sym (append-nil o))

-- ---- A call that is refused

pub refuse-all : {s o s₁ o₁ : List ℕ} (why : Refusal) → s₁ ≡ cleared s 0 → o₁ ≡ cleared o 0 → Sectioned (refused_by why) s o (Err why) s₁ o₁
unfolding section_reply section_buffer offset_buffer cleared
refuse-all why e f = record { reply = refl; bytes = e ∙ rw sub-zero refl; places = f ∙ rw sub-zero refl }

-- The names do not fit.
pub unfit : {l : List (Option Text)} {s₀ o₀ s o s₁ o₁ : List ℕ} {r : Result Section Refusal} → length s ≡ length s₀ → length o ≡ length o₀
    → fits l (length s₀) (length o₀) ≡ false → Sectioned (refused_by BufferTooSmall) s o r s₁ o₁ → Sectioned (value l) s₀ o₀ r s₁ o₁
unfolding section_reply section_buffer offset_buffer
unfit e f differ x =
    record { reply = x.reply ∙ rw differ; bytes = x.bytes ∙ rw (differ, e); places = x.places ∙ rw (differ, f) }
