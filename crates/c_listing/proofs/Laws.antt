-- A piece that fits the buffer is told as it is: its bytes are those that were used. And a cursor that was told returns. Assumes nothing.
use mathlib.Core.Path.{◌≡◌, refl, ap, ◌∙◌}
use mathlib.Core.List.{List}
use Prim.Native.Nat.{ℕ, ◌≤◌}
use native.Mathlib.Omega.{arith}
use lib.ListN.{length}
use Rattle.header.specs.declared.Options.{Options}
use Rattle.record.specs.View.{view}
use Rattle.record.specs.Types.{look}
use Rattle.lines.specs.Cursors.{cursor}
use Rattle.lines.specs.declared.Place.{Place}
use Rattle.lines.specs.declared.Place.TheVariants.{Stop, Classes, Class, Flags, Generic, Base, Method, MethodFlags, MethodGeneric, Returns, ParamType, ParamName, Done, Packing, Size}
use Rattle.lines.specs.declared.Cursor.{Cursor}
use Rattle.lines.specs.declared.Step.{Step}
use Rattle.listing_steps.specs.Filling.{Piece, piece_of, Filled}
use Rattle.listing_steps.proofs.Filling.{piece-fits}
use Rattle.c_listing.specs.Told.{place_number, numbered_places, place_of, CursorsReturn, told_step, ToldPiece}
use Rattle.c_listing.specs.declared.DnPiece.{DnPiece}

told-filled : {p : Piece} {b b' : List ℕ} {s : Step} {r : DnPiece} → length p.text ≤ length b → Filled p b b' s → r ≡ told_step s
    → ToldPiece p b r b'
told-filled {p} {b} {b'} {s} fits f e =
    let used : s.at ≡ length p.text = omega (arith, f.used, fits) in
    record { reply = e ∙ rw (used, f.goes); buffer = f.buffer }

pub told-piece : {o p : Options} {from to : Cursor} (t strings blob : List ℕ) {b b' : List ℕ} {s : Step} {r : DnPiece} → o ≡ p → from ≡ to
    → Filled (piece_of (view o t strings blob) (length b) from) b b' s → r ≡ told_step s
    → ToldPiece (piece_of (view p t strings blob) (length b) to) b r b'
told-piece {o} {p} {from} {to} t strings blob {b} opened start f e =
    rw (← opened, ← start) (told-filled (piece-fits (view o t strings blob) (length b) from) f e)

place-returns : (p : Place) → place_of (place_number p) ≡ p
unfolding look numbered_places
place-returns Stop = refl
place-returns Classes = refl
place-returns Class = refl
place-returns Flags = refl
place-returns Generic = refl
place-returns Base = refl
place-returns Method = refl
place-returns MethodFlags = refl
place-returns MethodGeneric = refl
place-returns Returns = refl
place-returns ParamType = refl
place-returns ParamName = refl
place-returns Done = refl
place-returns Packing = refl
place-returns Size = refl

pub cursors-return : CursorsReturn
cursors-return c = ap (λ (p : Place). cursor p c.class.0 c.method c.i) (place-returns c.place)
