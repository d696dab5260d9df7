use mathlib.Core.Path.{◌≡◌}
use Prim.Native.Nat.{◌+◌, ◌-◌}
use Rattle.numbers.specs.Fixed.{le_at}
use Rattle.numbers.proofs.read_le.Given as goal

abbrev pub invariant-loop-i : goal.invariant-loop-i
invariant-loop-i l = l.v ≡ le_at (l.n - l.i) l.s (l.at + l.i)
