use Rattle.std.proofs.Common.{◌+◌, get_or}
use Rattle.backwards.proofs.Filling.{Filling}
use Rattle.escapes.proofs.copy_away.Given as goal

abbrev pub invariant-loop-i : goal.invariant-loop-i
invariant-loop-i l = Filling l.initial.out (l.start + l.gap) (λ k. get_or l.initial.out (l.start + k) 0) l.out l.i
