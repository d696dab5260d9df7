use Prim.Native.Nat.{◌+◌, ◌≤◌}
use lib.ListN.{length, get_or}
use Rattle.backwards.proofs.Filling.{Filling}
use Rattle.backwards.proofs.move_down.Given as goal

abbrev pub invariant-loop-j : goal.invariant-loop-j
invariant-loop-j l = (l.from + l.j ≤ length l.initial.buf) × Filling l.initial.buf l.at (λ i. get_or l.initial.buf (l.from + i) 0) l.buf l.j
