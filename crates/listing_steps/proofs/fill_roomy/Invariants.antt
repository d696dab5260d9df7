use mathlib.Core.Path.{◌≡◌}
use mathlib.Core.Bool.{true, false}
use Rattle.lines.specs.Cursors.{is_over_at}
use mathlib.Core.List.{[]}
use lib.ListN.{length}
use Rattle.record.specs.View.{view}
use Rattle.rows.specs.Layout.{view_in}
use Rattle.answers.specs.Known.{Knows}
use Rattle.listing_steps.specs.Filling.{piece_from, Going}
use Rattle.listing_steps.proofs.fill_roomy.Given as goal

abbrev pub invariant-loop-r : goal.invariant-loop-r
invariant-loop-r l = let v = view l.options l.tables l.strings l.blob in
    Going v (piece_from v (length l.initial.out) l.initial.r.left [] l.initial.r.step.next) l.initial.out l.out l.r.step.next l.r.step.at l.r.left
    × Knows (view_in l.tables l.layout l.strings l.blob) l.blob l.r.known
    × (l.r.within ≡ true → is_over_at v l.r.step.next ≡ false)

abbrev pub decreases-loop-r : goal.decreases-loop-r
decreases-loop-r l = l.r.left
