use mathlib.Core.Path.{◌≡◌}
use Prim.Native.Nat.{◌≤◌}
use Rattle.rows.specs.Layout.{cell}
use Rattle.rows.specs.Held.{keyed}
use Rattle.keys.proofs.count_scanned.Given as goal

abbrev pub invariant-loop-i : goal.invariant-loop-i
invariant-loop-i l = (l.seen ≤ l.i) × (l.seen ≡ keyed (cell l.tables l.layout l.column) l.key l.i)
