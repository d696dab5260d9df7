use Prim.Native.Nat.{◌+◌, ◌≤◌}
use lib.ListN.{length, take}
use Rattle.buffers.specs.Writes.{Wrote}
use Rattle.buffers.proofs.push.Given as goal

abbrev pub invariant-loop-i : goal.invariant-loop-i
invariant-loop-i l = (l.i ≤ length l.src) × Wrote l.initial.buf l.at (take l.i l.src) l.buf (l.at + l.i)
