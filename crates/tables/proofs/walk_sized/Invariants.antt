use Rattle.std.proofs.Common.{ℕ, ◌-◌, ◌≤◌}
use Rattle.tables.specs.Extents.{Gives}
use Rattle.tables.proofs.WalkLoop.{Walking}
use Rattle.tables.proofs.walk_sized.Given as goal

abbrev pub invariant-loop-kind : goal.invariant-loop-kind
invariant-loop-kind g l =
    (l.at ≤ l.len)
    × ((size : ℕ → ℕ) → Gives (goal.F-post g l.size_of) size → Walking size l.counts l.len l.first l.starts l.sizes l.rows l.at l.kind)

abbrev pub decreases-loop-kind : goal.decreases-loop-kind
decreases-loop-kind g l = 64 - l.kind
