-- Pieces of the listing: as many whole lines as a lent buffer holds, from a cursor on.
use Rattle.std.specs.Prelude.{◌≡◌, Bool, true, false, cond, List, [], ◌++◌, ℕ, zero, suc, ◌+◌, ◌<◌, ◌≤◌, min, leb, length}
use Rattle.buffers.specs.Texts.{Text}
use Rattle.buffers.specs.Writes.{Wrote}
use Rattle.buffers.specs.Replies.{Answer, refused, value, name_buffer}
use Rattle.bundle.specs.Input.{Inputs, bundle_of, bundle_says}
use Rattle.header.specs.Stream.{base}
use Rattle.record.specs.View.{View, view}
use Rattle.lines.specs.Lines.{line_room, refused_line}
use Rattle.lines.specs.Cursors.{done, line_at, next_at, is_over_at}
use Rattle.lines.specs.declared.Place.{Place}
use Rattle.lines.specs.declared.Place.TheVariants.{Stop, Classes, Class, Flags, Generic, Base, Method, MethodFlags, MethodGeneric, Returns, ParamType, ParamName, Done, Packing, Size}
use Rattle.lines.specs.declared.Cursor.{Cursor}
use Rattle.lines.specs.declared.Step.{Step}
use Rattle.listing_steps.specs.declared.Reached.{Reached}

abbrev pub is_done : Place → Bool
is_done Stop = false
is_done Classes = false
is_done Class = false
is_done Flags = false
is_done Packing = false
is_done Size = false
is_done Generic = false
is_done Base = false
is_done Method = false
is_done MethodFlags = false
is_done MethodGeneric = false
is_done Returns = false
is_done ParamType = false
is_done ParamName = false
is_done Done = true

-- A text, and where the listing goes on after it.
pub record Piece : Type 0 where
  pub text : Text
  pub next : Cursor

-- The text so far and the lines from a cursor on, in so many steps, until the listing is done or a line does not fit into the room.
unfoldable pub piece_from : View → ℕ → ℕ → Text → Cursor → Piece
piece_from v room zero t c = record { text = t; next = c }
piece_from v room (suc steps) t c =
    let more = t ++ line_at v c in
    cond (is_done c.place) (record { text = t; next = c })
    (cond (leb (length more) room) (piece_from v room steps more (next_at v c)) (record { text = t; next = c }))

-- A piece takes at most this many steps, some of which add no line.
abbrev pub most_steps : ℕ
most_steps = 65_536

abbrev pub piece_of : View → ℕ → Cursor → Piece
piece_of v room c = piece_from v room most_steps [] c

-- A piece of the listing of a program's whole input: of a malformed one, the refusal.
abbrev pub answer_piece : Answer Inputs → ℕ → Cursor → Piece
answer_piece (value i) room c = piece_of (view base i.tables i.strings i.blob) room c
answer_piece (refused w) room c = record { text = refused_line w.number; next = done }

unfoldable pub input_piece : List ℕ → ℕ → Cursor → Piece
input_piece s room c = answer_piece (bundle_says s (bundle_of s)) room c

-- A piece was appended to an empty buffer, and the next cursor is handed out.
pub record Pieced (p : Piece) (before after : List ℕ) (s : Step) : Type 0 where
  pub wrote : Wrote before 0 p.text after s.at
  pub goes : s.next ≡ p.next

-- A text stands in the buffer, and what is left to do from the cursor on gives the whole piece p.
pub record Going (v : View) (p : Piece) (b b' : List ℕ) (c : Cursor) (at steps : ℕ) : Type 0 where
  pub text : Text
  pub wrote : Wrote b 0 text b' at
  pub fits : length text ≤ length b
  pub rest : piece_from v (length b) steps text c ≡ p

-- Steps were taken from where others had come: whatever piece was going on there goes on; there are fewer to take, if there was room for any
-- name as it stands; and what is told of the line there is so.
pub record Advances (v : View) (from : Reached) (b b' : List ℕ) (r : Reached) : Type 0 where
  pub going : (p : Piece) (o : List ℕ) → Going v p o b from.step.next from.step.at from.left → Going v p o b' r.step.next r.step.at r.left
  pub fewer : 0 < from.left → from.step.at + line_room ≤ length b → r.left < from.left
  pub within : r.within ≡ true → is_over_at v r.step.next ≡ false

-- Some of the steps of a piece were taken, as long as there was room for any name as it stands.
pub record Reaches (v : View) (c : Cursor) (b b' : List ℕ) (r : Reached) : Type 0 where
  pub going : Going v (piece_of v (length b) c) b b' r.step.next r.step.at r.left
  pub room : 0 < r.left → length b < r.step.at + line_room
  pub within : r.within ≡ true → is_over_at v r.step.next ≡ false

-- What a call for a piece does with a lent buffer: it holds the text and then zeros, or zeros alone where the text does not fit; and the
-- bytes of the text are told, or one more than the buffer has.
pub record Filled (p : Piece) (before after : List ℕ) (s : Step) : Type 0 where
  pub used : s.at ≡ min (length p.text) (length before + 1)
  pub buffer : after ≡ name_buffer (value p.text) (length before)
  pub goes : s.next ≡ p.next
