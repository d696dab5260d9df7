-- A piece of the listing as C asks for it and takes it: a cursor is four numbers.
use Rattle.std.specs.Prelude.{◌≡◌, cond, List, [], ◌∷◌, ℕ, length}
use Rattle.buffers.specs.Replies.{value, name_buffer}
use Rattle.record.specs.Types.{look}
use Rattle.lines.specs.Cursors.{cursor}
use Rattle.lines.specs.declared.Place.{Place}
use Rattle.lines.specs.declared.Place.TheVariants.{Stop, Classes, Class, Flags, Generic, Base, Method, MethodFlags, MethodGeneric, Returns, ParamType, ParamName, Done, Packing, Size}
use Rattle.lines.specs.declared.Cursor.{Cursor}
use Rattle.lines.specs.declared.Step.{Step}
use Rattle.listing_steps.specs.Filling.{is_done, Piece}
use Rattle.c_listing.specs.declared.DnCursor.{DnCursor}
use Rattle.c_listing.specs.declared.DnPiece.{DnPiece}

-- The number of each place, which never changes once given.
abbrev pub place_number : Place → ℕ
place_number Stop = 0
place_number Classes = 1
place_number Class = 2
place_number Flags = 3
place_number Generic = 4
place_number Base = 5
place_number Method = 6
place_number MethodFlags = 7
place_number MethodGeneric = 8
place_number Returns = 9
place_number ParamType = 10
place_number ParamName = 11
place_number Done = 12
place_number Packing = 13
place_number Size = 14

-- The place that a number means: any other number is the end.
unfoldable pub numbered_places : List (ℕ × Place)
numbered_places =
    (0, Stop) ∷ (1, Classes) ∷ (2, Class) ∷ (3, Flags) ∷ (4, Generic) ∷ (5, Base) ∷ (6, Method) ∷ (7, MethodFlags) ∷
    (8, MethodGeneric) ∷ (9, Returns) ∷ (10, ParamType) ∷ (11, ParamName) ∷ (13, Packing) ∷ (14, Size) ∷
    []

abbrev pub place_of : ℕ → Place
place_of n = look n numbered_places Done

abbrev pub cursor_of : DnCursor → Cursor
cursor_of c = cursor (place_of c.place) c.class_number c.method c.item

abbrev pub told_cursor : Cursor → DnCursor
told_cursor c = record { place = place_number c.place; class_number = c.class.0; method = c.method; item = c.i }

-- A cursor that was told means, asked with again, the cursor that it was: so a listing goes on where its last piece ended.
abbrev pub CursorsReturn : Type 0
CursorsReturn = (c : Cursor) → cursor_of (told_cursor c) ≡ c

-- What a step through the listing says.
abbrev pub told_step : Step → DnPiece
told_step s = record { used = s.at; done = cond (is_done s.next.place) 1 0; next = told_cursor s.next }

-- A piece: how many bytes its text has, whether the listing is done with it, and where it goes on.
abbrev pub told_piece : Piece → DnPiece
told_piece p = record { used = length p.text; done = cond (is_done p.next.place) 1 0; next = told_cursor p.next }

-- The promise of the call: the entire reply and the entire final buffer, which holds the piece's text and then zeros.
pub record ToldPiece (p : Piece) (before : List ℕ) (r : DnPiece) (after : List ℕ) : Type 0 where
  pub reply : r ≡ told_piece p
  pub buffer : after ≡ name_buffer (value p.text) (length before)
