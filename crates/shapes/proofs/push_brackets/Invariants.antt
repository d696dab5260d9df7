use mathlib.Core.Path.{◌≡◌}
use mathlib.Core.List.{List}
use Prim.Native.Nat.{ℕ, ◌-◌}
use lib.ListN.{length}
use Rattle.buffers.specs.Writes.{Wrote}
use Rattle.shapes.specs.Runs.{brackets}
use Rattle.shapes.proofs.push_brackets.Given as goal

abbrev pub invariant-loop : goal.invariant-loop
invariant-loop l = (length l.buf ≡ length l.initial.buf) × ((b : List ℕ) (r : ℕ) → Wrote l.buf l.k (brackets (l.count - l.counter)) b r → Wrote l.initial.buf l.at (brackets l.count) b r)
