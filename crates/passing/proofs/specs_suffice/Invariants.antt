use mathlib.Core.List.{List}
use Prim.Native.Nat.{ℕ}
use Rattle.rows.specs.Layout.{view_in}
use Rattle.passing.specs.Passing.{RowsWithin}
use Rattle.passing.proofs.specs_suffice.Given as goal

abbrev pub invariant-loop-i : goal.invariant-loop-i
invariant-loop-i l = (strings : List ℕ) → RowsWithin (view_in l.tables l.layout strings l.blob) l.most l.i
