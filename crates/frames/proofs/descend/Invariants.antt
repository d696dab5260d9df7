use mathlib.Core.Path.{◌≡◌}
use Prim.Native.Nat.{◌+◌, ◌-◌, ◌≤◌}
use lib.ListN.{length}
use Rattle.frames.specs.Stack.{stack, Moves}
use Rattle.frames.proofs.descend.Given as goal

abbrev pub invariant-loop-p : goal.invariant-loop-p
invariant-loop-p l = (l.n + l.pos ≤ l.used + l.p) × (l.n ≤ length l.frames) × (length l.frames ≡ length l.initial.frames) × Moves l.sig l.pos (stack l.initial.frames l.used) l.m l.p (stack l.frames l.n) × (l.pos ≤ l.p) × (l.m + l.pos ≤ l.p)

abbrev pub decreases-loop-p : goal.decreases-loop-p
decreases-loop-p l = length l.sig - l.p
