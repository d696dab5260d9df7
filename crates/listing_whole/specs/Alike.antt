-- Demand 3 as those who read a listing meet it: rearranged side tables change no byte of it, nor where a piece of it ends.
use Rattle.std.specs.Prelude.{◌≡◌, List, ℕ}
use Rattle.bundle.specs.Input.{input_of}
use Rattle.header.specs.Stream.{base}
use Rattle.header.specs.declared.Options.{Options}
use Rattle.record.specs.View.{view}
use Rattle.record.specs.Rearrangement.{Rearranged}
use Rattle.lines.specs.Listing.{listing, listing_of}
use Rattle.lines.specs.declared.Cursor.{Cursor}
use Rattle.listing_steps.specs.Filling.{piece_of, input_piece}

-- The whole listing.
abbrev pub ListingsAlike : Type 0
ListingsAlike =
    (o : Options) (t u strings blob : List ℕ) → Rearranged o t u
    → listing (view o u strings blob) ≡ listing (view o t strings blob)

-- Every piece, in any room and from any cursor: its text, and where the listing goes on.
abbrev pub PiecesAlike : Type 0
PiecesAlike =
    (o : Options) (t u strings blob : List ℕ) → Rearranged o t u → (room : ℕ) (c : Cursor)
    → piece_of (view o u strings blob) room c ≡ piece_of (view o t strings blob) room c

-- Both of the programs' input that the streams make, one of more than 65,536 bytes too, which is refused.
abbrev pub InputsAlike : Type 0
InputsAlike =
    (t u strings blob : List ℕ) → Rearranged base t u
    → let old = input_of (record { tables = t; strings = strings; blob = blob }) in
    let new = input_of (record { tables = u; strings = strings; blob = blob }) in
    (listing_of new ≡ listing_of old) × ((room : ℕ) (c : Cursor) → input_piece new room c ≡ input_piece old room c)
