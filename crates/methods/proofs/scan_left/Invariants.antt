use mathlib.Core.Path.{◌≡◌}
use mathlib.Core.List.{List}
use Prim.Native.Nat.{ℕ, ◌-◌, ◌≤◌}
use Rattle.record.specs.Methods.{left_after}
use Rattle.rows.specs.Layout.{view_in}
use Rattle.methods.proofs.scan_left.Given as goal

abbrev pub invariant-loop-r : goal.invariant-loop-r
invariant-loop-r l = (l.row ≤ l.r) × ((strings blob : List ℕ) → l.left ≡ left_after (view_in l.tables l.layout strings blob) (l.r - 1))
