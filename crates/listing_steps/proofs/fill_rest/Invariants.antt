use mathlib.Core.Bool.{true, false}
use Rattle.lines.specs.Cursors.{is_over_at}
use mathlib.Core.Path.{◌≡◌}
use mathlib.Core.List.{List}
use Prim.Native.Nat.{ℕ, ◌+◌, ◌-◌, ◌<◌, ◌≤◌}
use lib.ListN.{length}
use Rattle.record.specs.View.{view}
use Rattle.rows.specs.Layout.{view_in}
use Rattle.answers.specs.Known.{Knows}
use Rattle.lines.specs.Lines.{line_room}
use Rattle.listing_steps.specs.Filling.{Piece, Going}
use Rattle.listing_steps.proofs.fill_rest.Given as goal

abbrev pub invariant-loop : goal.invariant-loop
invariant-loop l = let v = view l.options l.tables l.strings l.blob in
    let left = l.fn.from.left - l.counter in
    ((p : Piece) (b : List ℕ) → Going v p b l.initial.out l.initial.c l.initial.at l.fn.from.left → (0 < l.fn.from.left → length b < l.initial.at + line_room) → Going v p b l.out l.c l.at left × (0 < left → length b < l.at + line_room))
    × Knows (view_in l.tables l.layout l.strings l.blob) l.blob l.known
    × (length l.out ≡ length l.initial.out)
    × (line_room ≤ length l.space)
    × (length l.space ≡ length l.initial.space)
    × (l.within ≡ true → is_over_at v l.c ≡ false)
