use mathlib.Core.List.{List}
use Prim.Native.Nat.{ℕ, ◌-◌, ◌≤◌, ◌<◌}
use Rattle.classes.specs.Numbering.{place_of}
use Rattle.rows.specs.Columns as columns
use Rattle.rows.specs.Layout.{rows_at, view_in}
use Rattle.record.specs.Methods.{readers_from}
use Rattle.method_signatures.proofs.Laws.{Standing}
use Rattle.method_signatures.proofs.next_reader.Given as goal

abbrev pub invariant-loop-place : goal.invariant-loop-place
invariant-loop-place l = (place_of l.fn.from ≤ l.place)
    × (l.first ≤ l.m → place_of l.fn.from < l.place)
    × (l.first ≤ l.m → l.place ≤ rows_at l.layout columns.method_list)
    × ((strings blob : List ℕ)
    → Standing (view_in l.tables l.layout strings blob) l.m (readers_from (view_in l.tables l.layout strings blob) l.m l.fn.from.0) (l.place - 1) l.class.0 l.first)

abbrev pub decreases-loop-place : goal.decreases-loop-place
decreases-loop-place l = l.n - l.place
