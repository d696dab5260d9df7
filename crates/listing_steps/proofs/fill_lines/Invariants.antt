use mathlib.Core.Path.{◌≡◌}
use mathlib.Core.Bool.{false}
use mathlib.Core.List.{List}
use Prim.Native.Nat.{ℕ, ◌≤◌}
use lib.ListN.{length}
use Rattle.record.specs.View.{view}
use Rattle.rows.specs.Layout.{view_in}
use Rattle.answers.specs.Known.{Knows}
use Rattle.lines.specs.Cursors.{is_over_at}
use Rattle.lines.specs.declared.Cursor.{Cursor}
use Rattle.listing_steps.specs.Filling.{Piece, Going}
use Rattle.listing_steps.proofs.fill_lines.Given as goal

abbrev pub invariant-loop-left : goal.invariant-loop-left
invariant-loop-left l = let v = view l.options l.tables l.strings l.blob in
    let from : Cursor = record { place = l.initial.place; class = l.initial.class; method = l.initial.method; i = l.initial.i } in
    let c : Cursor = record { place = l.place; class = l.class; method = l.method; i = l.i } in
    ((p : Piece) (o : List ℕ) → Going v p o l.initial.out from l.initial.at l.initial.left → Going v p o l.out c l.at l.left)
    × (length l.out ≡ length l.initial.out)
    × (l.at ≤ length l.out)
    × (l.left ≤ l.initial.left)
    × (l.initial.left ≤ l.left → l.at ≤ l.initial.at)
    × Knows (view_in l.tables l.layout l.strings l.blob) l.blob l.known
    × (is_over_at v c ≡ false)

abbrev pub decreases-loop-left : goal.decreases-loop-left
decreases-loop-left l = l.left
