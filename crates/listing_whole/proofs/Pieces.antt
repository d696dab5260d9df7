-- The proof that what is written line by line and piece by piece is the listing. A piece is made of steps, and all steps from the first
-- cursor on are a beginning of those to the end; and a piece that does not stay where it is comes a step nearer to the end. Assumes
-- nothing.
use mathlib.Core.Path.{◌≡◌, refl, sym, ◌∙◌, ap, ap₂, subst}
use mathlib.Core.Bool.{Bool, true, false}
use mathlib.Core.List.{List, [], ◌++◌, append_assoc, append-nil}
use Prim.Native.Nat.{ℕ, zero, suc, ◌*◌, ◌-◌, ◌<◌, ◌≤◌}
use native.Mathlib.Omega.{arith}
use lib.Dec.{leb}
use lib.ListN.{length}
use Rattle.numbers.proofs.Pick.{pick, by-lt}
use Rattle.buffers.specs.Texts.{Text}
use Rattle.buffers.specs.Replies.{number, Refused, refusal_says, Answer, refused, value}
use Rattle.buffers.specs.declared.Refusal.TheVariants.{BadInput}
use Rattle.bundle.specs.Input.{Inputs, bundle_of, bundle_says}
use Rattle.bundle.specs.declared.Bundle.{Bundle}
use Rattle.std.specs.Prelude.{Option, Some, None}
use Rattle.header.specs.Stream.{base}
use Rattle.record.specs.View.{View, view}
use Rattle.record.specs.Answers.{◌⟫◌}
use Rattle.lines.specs.Lines.{refused_line}
use Rattle.lines.specs.Listing.{or_refused, listing, listing_of}
use Rattle.lines.specs.Cursors.{first, done, line_at, next_at}
use Rattle.lines.specs.declared.Place.{Place}
use Rattle.lines.specs.declared.Place.TheVariants.{Stop, Classes, Class, Flags, Generic, Base, Method, MethodFlags, MethodGeneric, Returns, ParamType, ParamName, Done, Packing, Size}
use Rattle.lines.specs.declared.Cursor.{Cursor}
use Rattle.listing_steps.specs.Filling.{is_done, Piece, piece_from, piece_of, most_steps, answer_piece, input_piece}
use Rattle.listing_steps.proofs.Filling.{is-done, is-full, goes_on, piece-fits}
use Rattle.listing_whole.specs.Whole.{Whole, written, PiecesFit, Begun, WrittenBegins, Bytes, longest_line, most_pieces, Ended, WrittenWhole, PiecesWhole, Stays, LongLineStays, WrittenStays}
use Rattle.listing_whole.proofs.Whole.{Within, stay, go, the-steps, fewer, then, FewIn, listing_steps, listed}
use Rattle.listing_whole.proofs.Few.{few-in}
use Rattle.listing_whole.proofs.Longest.{bytes-part, lines_fit}

-- ---- At the end there is nothing more

is-end : (p : Place) → is_done p ≡ true → p ≡ Done
is-end Stop e = let z : ◌≡◌ {A = Bool} false true = e in cc
is-end Classes e = let z : ◌≡◌ {A = Bool} false true = e in cc
is-end Class e = let z : ◌≡◌ {A = Bool} false true = e in cc
is-end Flags e = let z : ◌≡◌ {A = Bool} false true = e in cc
is-end Packing e = let z : ◌≡◌ {A = Bool} false true = e in cc
is-end Size e = let z : ◌≡◌ {A = Bool} false true = e in cc
is-end Generic e = let z : ◌≡◌ {A = Bool} false true = e in cc
is-end Base e = let z : ◌≡◌ {A = Bool} false true = e in cc
is-end Method e = let z : ◌≡◌ {A = Bool} false true = e in cc
is-end MethodFlags e = let z : ◌≡◌ {A = Bool} false true = e in cc
is-end MethodGeneric e = let z : ◌≡◌ {A = Bool} false true = e in cc
is-end Returns e = let z : ◌≡◌ {A = Bool} false true = e in cc
is-end ParamType e = let z : ◌≡◌ {A = Bool} false true = e in cc
is-end ParamName e = let z : ◌≡◌ {A = Bool} false true = e in cc
is-end Done e = refl

module _ (v : View) (c : Cursor) (e : c.place ≡ Done) where
  end_line : line_at v c ≡ []
  unfolding line_at
  end_line = rw e

  end-next : (next_at v c).place ≡ Done
  unfolding next_at
  end-next = rw e

module _ {v : View} where
  no_more : {n : ℕ} {c d : Cursor} {t : Text} → Within v n c t d → c.place ≡ Done → t ≡ []
  no_more stay e = refl
  no_more (go {c = c} s) e = ap₂ (λ (x y : Text). x ++ y) (end_line v c e) (no_more s (end-next v c e))

  -- Steps are a beginning of those to the end.
  begins : {m n : ℕ} {c d e : Cursor} {t u : Text} → Within v m c t d → Within v n c u e → e.place ≡ Done
      → Begun u (record { text = t; next = d })
  begins {c = c} {u = u} stay r e = record { rest = u; is = refl; all = λ f. no_more r (is-end c.place f) }
  begins (go s) stay e = record { rest = []; is = append-nil _ ∙ no_more (go s) e; all = λ _. refl }
  begins (go {c = c} {t = t} s) (go r) e =
      let b = begins s r e in
      record { rest = b.rest; is = append_assoc (line_at v c) t b.rest ∙ ap (λ (x : Text). line_at v c ++ x) b.is; all = b.all }

-- ---- A piece is made of steps

record Grown (v : View) (n : ℕ) (t : Text) (c : Cursor) (p : Piece) : Type 0 where
  more : Text
  is : p.text ≡ t ++ more
  steps : Within v n c more p.next

module _ (v : View) (room : ℕ) where
  abbrev piece : Cursor → Piece
  piece = piece_of v room

  stands : (n : ℕ) (t : Text) (c : Cursor) → Grown v n t c (record { text = t; next = c })
  stands n t c = record { more = []; is = sym (append-nil t); steps = stay }

  longer : (n : ℕ) (t : Text) (c : Cursor) {p : Piece} → Grown v n (t ++ line_at v c) (next_at v c) p → Grown v (suc n) t c p
  longer n t c g = record { more = line_at v c ++ g.more; is = g.is ∙ append_assoc t (line_at v c) g.more; steps = go g.steps }

  grown : (n : ℕ) (t : Text) (c : Cursor) → Grown v n t c (piece_from v room n t c)
  unfolding piece_from
  grown zero t c = stands zero t c
  grown (suc n) t c =
      pick (Grown v (suc n) t c) (is_done c.place) (λ _. stands (suc n) t c)
      (λ _. pick (Grown v (suc n) t c) (leb (length (t ++ line_at v c)) room)
      (λ _. longer n t c (grown n (t ++ line_at v c) (next_at v c))) (λ _. stands (suc n) t c))

  piece-steps : (c : Cursor) → Within v most_steps c (piece c).text (piece c).next
  piece-steps c =
      let g = grown most_steps [] c in
      subst (λ (t : Text). Within v most_steps c t (piece c).next) (sym g.is) g.steps

  written-steps : (n : ℕ) (c : Cursor) → Within v (n * most_steps) c (written piece n c).text (written piece n c).next
  unfolding written
  written-steps zero c = stay
  written-steps (suc n) c =
      pick (λ (p : Piece). Within v (suc n * most_steps) c p.text p.next) (is_done c.place) (λ _. stay)
      (λ _. fewer (omega arith) (then (piece-steps c) (written-steps n (piece c).next)))

  view-begins : FewIn v → (n : ℕ) → Begun (listing v) (written piece n first)
  view-begins few n = begins (written-steps n first) (listed v few) refl

  -- ---- Pieces come to the end, or to a line that does not fit

  abbrev Rests : Cursor → Type 0
  Rests c = is_done c.place ≡ false → room < length (line_at v c)

  at-end : (c : Cursor) → is_done c.place ≡ true → Rests c
  at-end c e f = let z : ◌≡◌ {A = ℕ} 0 1 = cc in absurd (omega arith)

  -- From there on the listing stays where it is.
  rests-on : (c : Cursor) → Rests c → (m : ℕ) → Rests (written piece m c).next
  unfolding written
  rests-on c r zero = r
  rests-on c r (suc m) =
      pick (λ (p : Piece). Rests p.next) (is_done c.place) (λ _. r)
      (λ e. subst (λ (p : Piece). Rests (written piece m p.next).next) (sym (is-full v room [] c most_steps (r e))) (rests-on c r m))

  -- n pieces, or more, bring it there: from a cursor on, and from wherever a piece that goes past the cursor may end.
  abbrev Settles : ℕ → Cursor → Type 0
  Settles n c = (m : ℕ) → n ≤ m → Rests (written piece m c).next

  abbrev Nears : ℕ → Cursor → Type 0
  Nears n c = (k : ℕ) (t : Text) → Settles n (piece_from v room k t c).next

  module _ (n : ℕ) (c : Cursor) (near : Nears n (next_at v c)) where
    moves : length (line_at v c) ≤ room → Settles (suc n) c
    unfolding written
    moves fits zero h = absurd (omega arith)
    moves fits (suc m) h =
        pick (λ (p : Piece). Rests p.next) (is_done c.place) (λ e. at-end c e)
        (λ e. subst (λ (p : Piece). Rests (written piece m p.next).next) (sym (goes_on v room [] c most_steps (omega arith) e fits))
        (near (most_steps - 1) (line_at v c) m (omega arith)))

    settles : Settles (suc n) c
    settles m h = by-lt room (length (line_at v c)) (λ long. rests-on c (λ _. long) m) (λ fits. moves fits m h)

    nearer : Nears (suc n) c
    unfolding piece_from
    nearer zero t = settles
    nearer (suc k) t =
        pick (λ (p : Piece). Settles (suc n) p.next) (is_done c.place) (λ _. settles)
        (λ _. pick (λ (p : Piece). Settles (suc n) p.next) (leb (length (t ++ line_at v c)) room)
        (λ _ m h. near k (t ++ line_at v c) m (omega arith)) (λ _. settles))

  near-end : (n : ℕ) (c : Cursor) → is_done c.place ≡ true → Nears n c
  near-end n c e k t m h = rw (is-done v room t c k e) (rests-on c (at-end c e) m)

  nears : {n : ℕ} {c d : Cursor} {t : Text} → Within v n c t d → d.place ≡ Done → Nears n c
  nears (stay {n} {c}) e = near-end n c (ap is_done e)
  nears (go {n} {c} s) e = nearer n c (nears s e)

  settled : FewIn v → Settles listing_steps first
  unfolding piece_from
  settled few = nears (listed v few) refl 0 []

pub long-line-stays : LongLineStays
long-line-stays v room c h = is-full v room [] c most_steps h

-- ---- A program's input: the streams in it, or the refusal of a malformed one, which is one piece

module _ (w : Refused) (room : ℕ) where
  abbrev refusal : Cursor → Piece
  refusal = answer_piece (refused w) room

  none_after : (m : ℕ) → written refusal m done ≡ record { text = []; next = done }
  unfolding written
  none_after zero = refl
  none_after (suc m) = refl

  refused-once : (m : ℕ) → 0 < m → written refusal m first ≡ record { text = refused_line w.number; next = done }
  unfolding written
  refused-once zero h = absurd (omega arith)
  refused-once (suc m) h = rw (none_after m, append-nil (refused_line w.number))

  refused-begins : (m : ℕ) → Begun (refused_line w.number) (written refusal m first)
  unfolding written
  refused-begins zero = record { rest = refused_line w.number; is = refl; all = λ e. let z : ◌≡◌ {A = Bool} false true = e in cc }
  refused-begins (suc m) =
      subst (Begun (refused_line w.number)) (sym (refused-once (suc m) (omega arith)))
      (record { rest = []; is = append-nil (refused_line w.number); all = λ _. refl })

abbrev view_in : Inputs → View
view_in i = view base i.tables i.strings i.blob

few-there : (i : Inputs) → FewIn (view_in i)
few-there i = few-in i.tables i.strings i.blob

begins-by : (a : Answer Inputs) (room m : ℕ)
    → Begun (or_refused (a ⟫ λ i. value (listing (view_in i)))) (written (answer_piece a room) m first)
begins-by (refused w) room m = refused-begins w room m
begins-by (value i) room m = view-begins (view_in i) room (few-there i) m

-- Where the program's last piece ends.
abbrev last : (Cursor → Piece) → Cursor
last piece = (written piece most_pieces first).next

refused_over : (w : Refused) (room : ℕ) → is_done (last (refusal w room)).place ≡ true
refused_over w room = ap (λ (p : Piece). is_done p.next.place) (refused-once w room most_pieces (omega arith))

rests-last : (i : Inputs) (room : ℕ) → Rests (view_in i) room (last (piece_of (view_in i) room))
rests-last i room = settled (view_in i) room (few-there i) most_pieces (omega arith)

fits-over : (i : Inputs) (room : ℕ) → Bytes i.tables → longest_line ≤ room → is_done (last (piece_of (view_in i) room)).place ≡ true
fits-over i room bytes h = by_end (is_done (last (piece_of (view_in i) room)).place) refl
  where
    by_end : (b : Bool) → is_done (last (piece_of (view_in i) room)).place ≡ b → b ≡ true
    by_end true e = refl
    by_end false e =
        absurd (omega (arith, rests-last i room e, lines_fit i.tables i.strings i.blob (last (piece_of (view_in i) room)) bytes))

over_by : (s : List ℕ) (b : Option Bundle) (room : ℕ) → Bytes s → longest_line ≤ room → is_done (last (answer_piece (bundle_says s b) room)).place ≡ true
over_by s None room bytes h = refused_over (refusal_says BadInput) room
over_by s (Some b) room bytes h = fits-over _ room (bytes-part s b.tables.at b.tables.len bytes) h

stays_by : (a : Answer Inputs) (room : ℕ) → let piece = answer_piece a room in is_done (last piece).place ≡ false → Stays piece (last piece)
stays_by (refused w) room e = let f = refused_over w room in let z : ◌≡◌ {A = ℕ} 0 1 = cc in absurd (omega arith)
stays_by (value i) room e = long-line-stays (view_in i) room (last (piece_of (view_in i) room)) (rests-last i room e)

held_by : (s : List ℕ) (b : Option Bundle) (room : ℕ) (c : Cursor) → length (refused_line (number BadInput)) ≤ room
    → length (answer_piece (bundle_says s b) room c).text ≤ room
held_by s None room c h = h
held_by s (Some b) room c h = piece-fits _ room c

-- What is begun and done is all there.
ended : {whole : Text} {p : Piece} → Begun whole p → is_done p.next.place ≡ true → Ended whole p
ended {whole} {p} b e = record { over = e; is = sym (append-nil p.text) ∙ ap (λ (x : Text). p.text ++ x) (sym (b.all e)) ∙ b.is }

pub whole : Whole
whole tables strings blob = the-steps (listed (view base tables strings blob) (few-in tables strings blob))

pub pieces-fit : PiecesFit
unfolding input_piece
pieces-fit s room c h = held_by s (bundle_of s) room c h

pub written-begins : WrittenBegins
unfolding input_piece listing_of
written-begins s room n = begins-by (bundle_says s (bundle_of s)) room n

pub written-whole : WrittenWhole
unfolding input_piece
written-whole s room bytes h = ended (written-begins s room most_pieces) (over_by s (bundle_of s) room bytes h)

pub pieces_whole : PiecesWhole
pieces_whole tables strings blob room bytes h =
    let i : Inputs = record { tables = tables; strings = strings; blob = blob } in
    ended (view-begins (view_in i) room (few-there i) most_pieces) (fits-over i room bytes h)

pub written-stays : WrittenStays
unfolding input_piece
written-stays s room e = stays_by (bundle_says s (bundle_of s)) room e
