-- Laws of pieces, and the loop that fills a buffer. Assumes nothing.
use mathlib.Core.Path.{◌≡◌, refl, sym, ◌∙◌, ap, subst}
use mathlib.Core.Bool.{Bool, true, false, cond}
use mathlib.Core.List.{List, [], ◌++◌}
use Prim.Native.Nat.{ℕ, zero, suc, ◌+◌, ◌-◌, ◌<◌, ◌≤◌, min}
use native.Mathlib.Nat.{zero-add}
use native.Mathlib.Omega.{arith}
use borrow.Author.Tests.{le-leb, lt-leb}
use lib.ListN.{length, length-append}
use Rattle.numbers.proofs.Pick.{pick, pick-le, by-lt}
use Rattle.numbers.specs.Parts.{part}
use Rattle.buffers.specs.Texts.{Text}
use Rattle.buffers.specs.Writes.{Wrote}
use Rattle.buffers.proofs.Writing.{wrote_none, wrote_then, kept-wrote}
use Rattle.buffers.specs.Replies.{Reply, number, Named, held}
use Rattle.buffers.proofs.Replies.{wrote-take, named-text}
use Rattle.buffers.specs.declared.Refusal.TheVariants.{BadInput}
use Rattle.bundle.specs.Input.{bundle_of}
use Rattle.bundle.specs.declared.Bundle.{Bundle}
use Rattle.std.specs.Prelude.{Some, None}
use Rattle.header.specs.Stream.{base}
use Rattle.header.specs.declared.Options.{Options}
use Rattle.record.specs.View.{View, view}
use Rattle.lines.specs.Lines.{line_room, refused_line}
use Rattle.lines.specs.Cursors.{done, line_at, next_at, Went, Stepped}
use Rattle.lines.specs.declared.Cursor.{Cursor}
use Rattle.lines.specs.declared.Step.{Step}
use Rattle.answers.specs.declared.Known.{Known}
use Rattle.listing_steps.specs.declared.Reached.{Reached}
use Rattle.listing_steps.specs.Filling.{is_done, Piece, piece_from, most_steps, piece_of, input_piece, Pieced, Going, Advances, Filled}

-- One step of a piece.
either_same : (b : Bool) (p : Piece) → cond b p p ≡ p
either_same true p = refl
either_same false p = refl

module _ (v : View) (room : ℕ) (t : Text) (c : Cursor) where
  abbrev ends : Piece
  ends = record { text = t; next = c }

  no_steps : (n : ℕ) → n ≤ 0 → piece_from v room n t c ≡ ends
  unfolding piece_from
  no_steps zero h = refl
  no_steps (suc n) h = absurd (omega arith)

  pub is-done : (n : ℕ) → is_done c.place ≡ true → piece_from v room n t c ≡ ends
  unfolding piece_from
  is-done zero e = refl
  is-done (suc n) e = rw e

  pub is-full : (n : ℕ) → room < length (t ++ line_at v c) → piece_from v room n t c ≡ ends
  unfolding piece_from
  is-full zero h = refl
  is-full (suc n) h = rw (lt-leb _ _ h) (either_same (is_done c.place) ends)

  pub goes_on : (n : ℕ) → 0 < n → is_done c.place ≡ false → length (t ++ line_at v c) ≤ room
      → piece_from v room n t c ≡ piece_from v room (n - 1) (t ++ line_at v c) (next_at v c)
  unfolding piece_from
  goes_on zero l e h = absurd (omega arith)
  goes_on (suc n) l e h = let one : suc n - 1 ≡ n = omega arith in rw (e, le-leb _ _ h, one)

-- A text that stands in the buffer, and what is left.
pub going_start : (v : View) (b : List ℕ) (c : Cursor) (steps : ℕ) → Going v (piece_from v (length b) steps [] c) b b c 0 steps
going_start v b c steps = record { text = []; wrote = wrote_none b 0 0 (omega arith); fits = omega arith; rest = refl }

stands : {p q : Piece} {b b' : List ℕ} {at : ℕ} → p ≡ q → Wrote b 0 p.text b' at → Pieced q b b' (record { next = p.next; at = at })
stands {p} {q} {b} {b'} {at} e w =
    subst (λ (x : Piece). Pieced x b b' (record { next = p.next; at = at })) e (record { wrote = w; goes = refl })

module _ {v : View} {p : Piece} {b b' : List ℕ} {c : Cursor} {at steps : ℕ} (g : Going v p b b' c at steps) where
  pub going-out : steps ≤ 0 → Pieced p b b' (record { next = c; at = at })
  going-out h = stands (sym (no_steps v (length b) g.text c steps h) ∙ g.rest) g.wrote

  -- Nothing is left where the listing is done.
  pub going_done : {x : Bool} → x ≡ is_done c.place → x ≡ true → Going v p b b' c at 0
  going_done e k = record {
    text = g.text;
    wrote = g.wrote;
    fits = g.fits;
    rest = no_steps v (length b) g.text c 0 (omega arith) ∙ sym (is-done v (length b) g.text c steps (sym e ∙ k)) ∙ g.rest;
  }

  pub going-inside : at ≤ length b'
  going-inside = omega (arith, g.wrote.place, g.wrote.keeps.long, g.fits)

  module _ {b'' : List ℕ} {s : Step} (w : Stepped v c b' at b'' s) where
    -- The line is too long for the room: it is taken back.
    pub going-full : length b'' < s.at → Going v p b b'' c at 0
    going-full h =
        let over : length b < length (g.text ++ line_at v c) =
        omega (arith, length-append g.text (line_at v c), w.wrote.place, w.wrote.keeps.long, g.wrote.place, g.wrote.keeps.long, g.fits) in
        record {
          text = g.text;
          wrote = kept-wrote g.wrote w.wrote.keeps;
          fits = g.fits;
          rest = no_steps v (length b) g.text c 0 (omega arith) ∙ sym (is-full v (length b) g.text c steps over) ∙ g.rest;
        }

    pub going_on : {x : Bool} → 0 < steps → x ≡ is_done c.place → x ≡ false → s.at ≤ length b''
        → Going v p b b'' s.next s.at (steps - 1)
    going_on l e k h =
        let in-room : length (g.text ++ line_at v c) ≤ length b =
        omega (arith, length-append g.text (line_at v c), w.wrote.place, w.wrote.keeps.long, g.wrote.place, g.wrote.keeps.long, g.fits) in
        record {
          text = g.text ++ line_at v c;
          wrote = wrote_then g.wrote w.wrote;
          fits = in-room;
          rest =
              ap (piece_from v (length b) (steps - 1) (g.text ++ line_at v c)) w.goes
              ∙ sym (goes_on v (length b) g.text c steps l (sym e ∙ k) in-room)
              ∙ g.rest;
        }

-- One step that was taken in a space of its own: its line was made there, or is longer than that space, and so than what is left.
module _ {v : View} {c : Cursor} {k : Known} {sure : Bool} {s s' : List ℕ} {r : Reached}
    (one : Advances v (record { step = record { next = c; at = 0 }; known = k; within = sure; left = 1 }) s s' r) (long : line_room ≤ length s) where
  abbrev now-at : ℕ
  now-at = r.step.at

  pieced : Pieced (piece_from v (length s) 1 [] c) s s' (record { next = r.step.next; at = r.step.at })
  pieced = going-out (one.going _ s (going_start v s c 1)) (omega (arith, one.fewer (omega arith) (omega (arith, long))))

  pub made-long : length s' ≡ length s
  made-long = (one.going _ s (going_start v s c 1)).wrote.keeps.long

  made : is_done c.place ≡ false → length (line_at v c) ≤ length s → Pieced (record { text = line_at v c; next = next_at v c }) s s' r.step
  made undone h =
      let is : piece_from v (length s) 1 [] c ≡ record { text = line_at v c; next = next_at v c } =
      goes_on v (length s) [] c 1 (omega arith) undone h ∙ no_steps v (length s) (line_at v c) (next_at v c) (1 - 1) (omega arith) in
      subst (λ (p : Piece). Pieced p s s' r.step) is pieced

  not_made : length s < length (line_at v c) → Pieced (record { text = []; next = c }) s s' r.step
  not_made h = subst (λ (p : Piece). Pieced p s s' r.step) (is-full v (length s) [] c 1 h) pieced

  pub made_inside : is_done c.place ≡ false → 0 + now-at ≤ length s'
  made_inside undone =
      by-lt (length s) (length (line_at v c)) (λ h. omega (arith, (not_made h).wrote.place))
      (λ h. omega (arith, (made undone h).wrote.place, (made undone h).wrote.keeps.long))

  -- It is moved behind the text that stands in the buffer, where there is less room.
  module _ {p : Piece} {b b' : List ℕ} {at left : ℕ} (g : Going v p b b' c at left) (short : length b < at + line_room)
      (undone : is_done c.place ≡ false) {u : Text} (is : u ≡ part s' 0 now-at) {b'' : List ℕ} {end : ℕ} (w : Wrote b' at u b'' end) where
    stepped : (h : length (line_at v c) ≤ length s) → Stepped v c b' at b'' (record { next = r.step.next; at = end })
    stepped h = record {
      wrote =
          subst (λ (x : Text). Wrote b' at x b'' end) (is ∙ wrote-take s s' (line_at v c) now-at (made undone h).wrote h) w;
      goes = (made undone h).goes;
    }

    nothing : (h : length s < length (line_at v c)) → Wrote b' at [] b'' end
    nothing h = subst (λ (x : Text). Wrote b' at x b'' end) (is ∙ wrote-take s s' [] now-at (not_made h).wrote (omega arith)) w

    too_long : length s < length (line_at v c) → length b < length (g.text ++ line_at v c)
    too_long h = omega (arith, length-append g.text (line_at v c), long, g.wrote.place, g.fits)

    pub moved-full : length b'' < end → Going v p b b'' c at 0
    moved-full f =
        by-lt (length s) (length (line_at v c))
        (λ h. absurd (omega (arith, (nothing h).place, (nothing h).keeps.long, going-inside g)))
        (λ h. going-full g (stepped h) f)

    pub moved_on : {x : Bool} → 0 < left → x ≡ is_done c.place → x ≡ false → end ≤ length b'' → Going v p b b'' r.step.next end (left - 1)
    moved_on l e k f =
        by-lt (length s) (length (line_at v c))
        (λ h.
        let same : end ≡ at = omega (arith, (nothing h).place, (nothing h).keeps.long, going-inside g) in
        let here : r.step.next ≡ c = (not_made h).goes in
        rw (same, here) (record {
          text = g.text;
          wrote = kept-wrote g.wrote (nothing h).keeps;
          fits = g.fits;
          rest = is-full v (length b) g.text c (left - 1) (too_long h) ∙ sym (is-full v (length b) g.text c left (too_long h)) ∙ g.rest;
        }))
        (λ h. going_on g (stepped h) l e k f)

    pub moved-short : length b < end + line_room
    moved-short = omega (arith, w.place, short, w.keeps.long, going-inside g, g.wrote.keeps.long)

-- A piece that was appended, and then zeros.
pub piece-ended : {p : Piece} {b b₁ b₂ : List ℕ} {s : Step} {r : Reply} → Pieced p b b₁ s → Named (held b₁ s.at) b₁ r b₂ → Filled p b b₂ s
piece-ended {p} {b} w n = record {
  used = w.wrote.place ∙ ap (λ (k : ℕ). min k (length b + 1)) (zero-add (length p.text));
  buffer = (named-text w.wrote n).buffer;
  goes = w.goes;
}

-- A piece fits its room.
module _ (v : View) (room : ℕ) where
  from-fits : (n : ℕ) (t : Text) (c : Cursor) → length t ≤ room → length (piece_from v room n t c).text ≤ room
  unfolding piece_from
  from-fits zero t c h = h
  from-fits (suc n) t c h =
      pick (λ (p : Piece). length p.text ≤ room) (is_done c.place) (λ _. h)
      (λ _. pick-le (λ (p : Piece). length p.text ≤ room) (length (t ++ line_at v c)) room
      (λ fits. from-fits n (t ++ line_at v c) (next_at v c) fits) (λ _. h))

  pub piece-fits : (c : Cursor) → length (piece_of v room c).text ≤ room
  piece-fits c = from-fits most_steps [] c (omega arith)

-- A program's whole input.
module _ (s : List ℕ) (room : ℕ) (from : Cursor) {b b' : List ℕ} {r : Step} where
  pub input-malformed : None ≡ bundle_of s → Went (refused_line (number BadInput)) done b 0 b' r → Pieced (input_piece s room from) b b' r
  unfolding input_piece
  input-malformed e w = rw (← e) (record { wrote = w.wrote; goes = w.goes })

  pub input-streams : {i : Bundle} {tables strings blob : List ℕ} {o : Options} → Some i ≡ bundle_of s
      → tables ≡ part s i.tables.at i.tables.len → strings ≡ part s i.strings.at i.strings.len → blob ≡ part s i.blob.at i.blob.len → o ≡ base
      → Filled (piece_of (view o tables strings blob) room from) b b' r → Filled (input_piece s room from) b b' r
  unfolding input_piece
  input-streams e f g k q w = rw (← e, ← f, ← g, ← k, ← q) w
