use mathlib.Core.Path.{◌≡◌}
use mathlib.Core.Bool.{false}
use mathlib.Core.List.{[]}
use Prim.Native.Nat.{ℕ, ◌<◌}
use Rattle.record.specs.References.{is_typelib}
use Rattle.references.specs.Columns as columns
use Rattle.references.specs.Layout.{row_at, view_in}
use Rattle.references.proofs.typelib.find_typelib.Given as goal

abbrev pub invariant-loop-row : goal.invariant-loop-row
invariant-loop-row l =
    (j : ℕ) → j < l.row → is_typelib (view_in l.tables l.layout l.strings []) (row_at l.tables l.layout columns.attribute_parent j) ≡ false
