-- Reading a slot up to its first zero returns the name. Assumes nothing.
use mathlib.Core.Path.{◌≡◌, refl, sym, ◌∙◌, ap, subst}
use mathlib.Core.Bool.{Bool, true, false, cond}
use mathlib.Core.List.{List, [], ◌∷◌, ◌++◌, append_assoc}
use mathlib.Core.Option.{Option, none, some}
use Prim.Native.Nat.{ℕ, zero, suc, ◌+◌, ◌-◌, ◌%◌, ◌<◌}
use native.Mathlib.Omega.{arith}
use lib.ListN.{length, get_or, take, drop, replicate, length-append, get_or-append}
use lib.Seq.{drop-append-add}
use Rattle.numbers.specs.Lists.{tabulate}
use Rattle.buffers.specs.Texts.{Text}
use Rattle.buffers.specs.Replies.{Answer, refused_by, value}
use Rattle.buffers.specs.declared.Refusal.TheVariants.{BufferTooSmall}
use Rattle.buffers.specs.declared.Reason.{Reason}
use Rattle.heaps.specs.Lookups.{before, text_of}
use Rattle.header.specs.declared.Options.{Options}
use Rattle.record.specs.Missing.{or_default}
use Rattle.record.specs.View.{view}
use Rattle.record.specs.Names.{classes, class_full_name, named, class_named}
use Rattle.record.specs.Record.{Class, class, class_record}
use Rattle.record.specs.Answers.{◌⟫◌, ready}
use Rattle.name_section.specs.Section.{slot, section, offsets_from, names_of, fits, Used, section_reply, section_buffer, offset_buffer}
use Rattle.name_section.specs.Claims.{ReadsName}
use Rattle.name_section.proofs.Slots.{offset_at, offsets-length}
use Rattle.name_section.proofs.Zeroless.{Nonzero, Clean, names-clean}
use Rattle.std.specs.Prelude.{Ok, Err}
use Rattle.header.specs.Stream.{Opened}

-- A text without zeros in front of a zero.
front : (t z : Text) → Nonzero t → take (before 0 (t ++ 0 ∷ z)) (t ++ 0 ∷ z) ≡ t
unfolding before
front [] z h = refl
front (b ∷ t) z h = rw h.0 (ap (λ (u : Text). b ∷ u) (front t z h.1))

-- A slot begins with its name and a zero.
zeros : (t : Text) → replicate {A = ℕ} (4 - length t % 4) 0 ≡ 0 ∷ replicate (3 - length t % 4) 0
zeros t = let e : 4 - length t % 4 ≡ suc (3 - length t % 4) = omega arith in ap (λ (n : ℕ). replicate {A = ℕ} n 0) e

slot-reads : (n : Option Text) (z : Text) → Nonzero (or_default [] n) → take (before 0 (slot n ++ z)) (slot n ++ z) ≡ or_default [] n
unfolding slot
slot-reads n z h =
    let t = or_default [] n in
    let e : (t ++ replicate (4 - length t % 4) 0) ++ z ≡ t ++ 0 ∷ (replicate (3 - length t % 4) 0 ++ z) =
    append_assoc t (replicate (4 - length t % 4) 0) z ∙ ap (λ (u : Text). t ++ (u ++ z)) (zeros t) in
    rw e (front t (replicate (3 - length t % 4) 0 ++ z) h)

abbrev AllClean : List (Option Text) → Type 0
AllClean [] = Unit {0}
AllClean (n ∷ l) = Clean n × AllClean l

clean-default : (n : Option Text) → Clean n → Nonzero (or_default [] n)
clean-default none h = tt
clean-default (some t) h = h

-- The slot at a place, by its offset.
section-reads : (l : List (Option Text)) (z : Text) (c : ℕ) → AllClean l → c < length l
    → let rest = drop (length (section (take c l))) (section l ++ z) in take (before 0 rest) rest ≡ or_default [] (get_or l c none)
unfolding section
section-reads [] z c a h = absurd (omega arith)
section-reads (n ∷ l) z zero a h = rw (append_assoc (slot n) (section l) z) (slot-reads n (section l ++ z) (clean-default n a.0))
section-reads (n ∷ l) z (suc c) a h =
    let less : c < length l = omega arith in
    rw (length-append (slot n) (section (take c l)), append_assoc (slot n) (section l) z, drop-append-add (slot n) (section l ++ z) (length (section (take c l))))
    (section-reads l z c a.1 less)

-- The names of the record are without zeros.
clean-named : (o : Option Text) (why : Reason) → Clean o → Clean (text_of (named o why))
clean-named none why h = tt
clean-named (some t) why h = h

record-clean : (o : Options) (tables strings blob : List ℕ) (i n : ℕ) → AllClean (names_of (tabulate (class (view o tables strings blob)) i n))
unfolding tabulate class class_named
record-clean o tables strings blob i zero = tt
record-clean o tables strings blob i (suc n) =
    (clean-named (class_full_name (view o tables strings blob) (i + 2)) _ (names-clean o tables strings blob (i + 2)), record-clean o tables strings blob (i + 1) n)

ready-names : (a : Opened) (k : List Class) {l : List (Option Text)} → (ready a ⟫ (λ _. value k) ⟫ (λ (l : List Class). value (names_of l))) ≡ value l → names_of k ≡ l
ready-names (Err why) k e = let z : ◌≡◌ {A = ℕ} 0 1 = cc in absurd (omega arith)
ready-names (Ok tt) k e = cc

-- A section was written, so the names fit.
written-fits : (l : List (Option Text)) (room places : ℕ) {u : Used} → section_reply (value l) room places ≡ value u → fits l room places ≡ true
unfolding section_reply
written-fits l room places e = go (fits l room places) _ e
  where
    go : (b : Bool) (v : Used) {u : Used} → cond b (value v) (refused_by BufferTooSmall) ≡ value u → b ≡ true
    go true v e = refl
    go false v e = let z : ◌≡◌ {A = ℕ} 0 1 = cc in absurd (omega arith)

-- What a run leaves of the names l, where they fit.
left-reads : (l : List (Option Text)) (c room places : ℕ) → AllClean l → fits l room places ≡ true → c < length l
    → let rest = drop (get_or (offset_buffer (value l) room places) c 0) (section_buffer (value l) room places) in
    take (before 0 rest) rest ≡ or_default [] (get_or l c none)
unfolding section_buffer offset_buffer
left-reads l c room places clean f h =
    let kept = get_or-append (offsets_from 0 l) (replicate (places - length l) 0) 0 c (omega (arith, offsets-length 0 l)) in
    let at : get_or (offsets_from 0 l) c 0 ≡ length (section (take c l)) = omega (arith, offset_at 0 l c h) in
    rw (f, kept, at) (section-reads l (replicate (room - length (section l)) 0) c clean h)

pub reads-name : ReadsName
unfolding class_record
reads-name o tables strings blob s p s' p' r u l c run wrote is h =
    let v = view o tables strings blob in
    let same : names_of (class_record v) ≡ l = ready-names v.header.answer (class_record v) is in
    let clean : AllClean l = subst AllClean same (record-clean o tables strings blob 0 (classes v)) in
    let a : section_reply (value l) (length s) (length p) ≡ value u =
    ap (λ (x : Answer (List (Option Text))). section_reply x (length s) (length p)) (sym is) ∙ sym run.reply ∙ wrote in
    let b : s' ≡ section_buffer (value l) (length s) (length p) =
    run.bytes ∙ ap (λ (x : Answer (List (Option Text))). section_buffer x (length s) (length p)) is in
    let q : p' ≡ offset_buffer (value l) (length s) (length p) =
    run.places ∙ ap (λ (x : Answer (List (Option Text))). offset_buffer x (length s) (length p)) is in
    rw (b, q) (left-reads l c (length s) (length p) clean (written-fits l (length s) (length p) a) h)
