use mathlib.Core.Path.{◌≡◌}
use mathlib.Core.List.{List}
use Prim.Native.Nat.{ℕ, ◌+◌, ◌≤◌}
use lib.ListN.{length}
use Rattle.std.specs.Prelude.{Result}
use Rattle.frames.specs.Stack.{stack, Ascends}
use Rattle.frames.specs.declared.Ascent.{Ascent}
use Rattle.frames.proofs.ascend.Given as goal

abbrev pub invariant-loop-n : goal.invariant-loop-n
invariant-loop-n l = (l.k ≤ length l.buf + 1) × (length l.buf ≡ length l.initial.buf) × (length l.frames ≡ length l.initial.frames) × (l.n ≤ l.used) × ((b' a' : List ℕ) (r : Result Ascent ℕ) → Ascends l.sig l.p (stack l.frames l.n) l.n l.buf l.k b' a' r → Ascends l.sig l.pos (stack l.initial.frames l.used) l.used l.initial.buf l.at b' a' r)

abbrev pub decreases-loop-n : goal.decreases-loop-n
decreases-loop-n l = l.n
