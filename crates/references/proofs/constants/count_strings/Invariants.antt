use mathlib.Core.Path.{◌≡◌}
use Prim.Native.Nat.{◌≤◌}
use Rattle.record.specs.References.{string_type}
use Rattle.rows.specs.Held.{keyed}
use Rattle.references.specs.Columns as columns
use Rattle.references.specs.Layout.{cell}
use Rattle.references.proofs.constants.count_strings.Given as goal

abbrev pub invariant-loop-i : goal.invariant-loop-i
invariant-loop-i l = (l.seen ≤ l.i) × (l.seen ≡ keyed (cell l.tables l.layout columns.constant_type) string_type l.i)
