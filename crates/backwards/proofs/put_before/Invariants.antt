use Prim.Native.Nat.{◌≤◌}
use lib.ListN.{length, get_or}
use Rattle.backwards.proofs.Filling.{Filling}
use Rattle.backwards.proofs.put_before.Given as goal

abbrev pub invariant-loop-i : goal.invariant-loop-i
invariant-loop-i l = (l.i ≤ length l.src) × Filling l.initial.buf l.p (λ j. get_or l.src j 0) l.buf l.i
