-- The listing line by line is the listing: the steps from the first cursor to the end have the lines of `listing` and no others. And so
-- have the pieces that a program writes one after the other, which come to an end where the buffer holds the longest line.
use Rattle.std.specs.Prelude.{◌≡◌, true, false, cond, List, [], ◌++◌, ℕ, zero, suc, ◌+◌, ◌*◌, ◌≤◌, ◌<◌, length, get_or}
use Rattle.buffers.specs.Texts.{Text, q}
use Rattle.buffers.specs.Replies.{number}
use Rattle.buffers.specs.declared.Refusal.TheVariants.{BadInput}
use Rattle.header.specs.Stream.{base}
use Rattle.record.specs.View.{View, view}
use Rattle.escapes.specs.Escapes.{longest}
use Rattle.lines.specs.Lines.{refused_line}
use Rattle.lines.specs.Listing.{listing, listing_of}
use Rattle.lines.specs.Cursors.{first, done, line_at, Steps}
use Rattle.lines.specs.declared.Cursor.{Cursor}
use Rattle.listing_steps.specs.Filling.{is_done, Piece, piece_of, input_piece}

-- Line by line.
abbrev pub Whole : Type 0
Whole = (tables strings blob : List ℕ) → let v = view base tables strings blob in Steps v first (listing v) done

-- Piece by piece: what a program has written that asks for n pieces from a cursor on, or for fewer if the listing is done before, and
-- where the listing goes on.
unfoldable pub written : (Cursor → Piece) → ℕ → Cursor → Piece
written piece zero c = record { text = []; next = c }
written piece (suc n) c =
    let p = piece c in
    let later = written piece n p.next in
    cond (is_done c.place) (record { text = []; next = c }) (record { text = p.text ++ later.text; next = later.next })

-- A room for the refusal of a malformed input, 10 bytes, holds every piece, so that the buffer's bytes before the place that is handed out
-- are the piece's text (`Wrote`). In a smaller one that refusal is a piece all the same, and no byte of it is promised.
abbrev pub PiecesFit : Type 0
PiecesFit =
    (input : List ℕ) (room : ℕ) (c : Cursor) → length (refused_line (number BadInput)) ≤ room → length (input_piece input room c).text ≤ room

-- In any room, what is written is a beginning of the listing, and all of it once the listing is done.
pub record Begun (whole : Text) (p : Piece) : Type 0 where
  pub rest : Text
  pub is : p.text ++ rest ≡ whole
  pub all : is_done p.next.place ≡ true → rest ≡ []

abbrev pub WrittenBegins : Type 0
WrittenBegins = (input : List ℕ) (room n : ℕ) → Begun (listing_of input) (written (input_piece input room) n first)

-- The input is a list of bytes, as that of every call is.
abbrev pub Bytes : List ℕ → Type 0
Bytes s = (i : ℕ) → get_or s i 0 < 256

-- The longest line, 12,298 bytes: the longest key, the longest value with each of its bytes written as three, and the byte 0x0A.
abbrev pub longest_line : ℕ
longest_line = length (q "mgeneric=") + 3 * longest + 1

abbrev pub LinesFit : Type 0
LinesFit = (tables strings blob : List ℕ) (c : Cursor) → Bytes tables → length (line_at (view base tables strings blob) c) ≤ longest_line

-- The turns of the program's loop.
abbrev pub most_pieces : ℕ
most_pieces = 0xFFFF_FFFF_FFFF_FFFF

-- In a room for the longest line the pieces end within that number, and are the listing.
pub record Ended (whole : Text) (p : Piece) : Type 0 where
  pub over : is_done p.next.place ≡ true
  pub is : p.text ≡ whole

abbrev pub WrittenWhole : Type 0
WrittenWhole =
    (input : List ℕ) (room : ℕ) → Bytes input → longest_line ≤ room
    → Ended (listing_of input) (written (input_piece input room) most_pieces first)

-- The same of any streams, however long: what a program has written that asks for pieces by the streams, as one in C does.
abbrev pub PiecesWhole : Type 0
PiecesWhole =
    (tables strings blob : List ℕ) (room : ℕ) → Bytes tables → longest_line ≤ room
    → let v = view base tables strings blob in Ended (listing v) (written (piece_of v room) most_pieces first)

-- In a smaller room the pieces may come to a line that does not fit. From there on a piece has no line and stays where it is. Within the
-- same number of pieces the listing is done, or has come to such a place.
abbrev pub Stays : (Cursor → Piece) → Cursor → Type 0
Stays piece c = piece c ≡ record { text = []; next = c }

abbrev pub LongLineStays : Type 0
LongLineStays = (v : View) (room : ℕ) (c : Cursor) → room < length (line_at v c) → Stays (piece_of v room) c

abbrev pub WrittenStays : Type 0
WrittenStays =
    (input : List ℕ) (room : ℕ)
    → let piece = input_piece input room in
    let at = (written piece most_pieces first).next in
    is_done at.place ≡ false → Stays piece at
