use Rattle.std.proofs.Common.{ℕ, ◌-◌, List}
use Rattle.buffers.specs.Writes.{Kept}
use Rattle.escapes.specs.Escapes.{Stands}
use Rattle.escapes.proofs.escape.Given as goal

abbrev pub invariant-loop-i : goal.invariant-loop-i
invariant-loop-i l = ((b : List ℕ) → Kept b l.end l.initial.out → Kept b l.end l.out) × Stands l.out l.start (l.i - l.start)
