use Prim.Native.Nat.{◌*◌, ◌-◌, ◌≤◌}
use Rattle.references.specs.Columns as columns
use Rattle.references.specs.Layout.{layout_of}
use Rattle.opening.proofs.Filling.{Filled}
use Rattle.references.proofs.lay.Given as goal
use Rattle.std.specs.Prelude.{Ok}

abbrev pub invariant-loop-c : goal.invariant-loop-c
invariant-loop-c l = (l.c ≤ columns.count) × Filled columns.size (layout_of l.options (record { answer = (Ok tt); heap = l.heap; first = l.first; counts = l.counts }) l.len) l.layout (columns.numbers * l.c)

abbrev pub decreases-loop-c : goal.decreases-loop-c
decreases-loop-c l = columns.count - l.c
