use mathlib.Core.Path.{◌≡◌}
use Prim.Native.Nat.{◌<◌}
use Rattle.rows.specs.Columns as columns
use Rattle.rows.specs.Layout.{rows_at, cell}
use Rattle.names.proofs.Pass.{Passing}
use Rattle.names.proofs.put_front.Given as goal

abbrev pub invariant-loop-outer : goal.invariant-loop-outer
invariant-loop-outer l = Passing l.tables l.layout l.strings l.initial.class.0 l.initial.buf l.floor l.end l.buf l.i l.class.0 l.p × (l.i < rows_at l.layout columns.nested → cell l.tables l.layout columns.enclosing l.i ≡ l.class.0)

abbrev pub decreases-loop-outer : goal.decreases-loop-outer
decreases-loop-outer l = l.i
