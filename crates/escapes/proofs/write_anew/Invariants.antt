use Rattle.std.proofs.Common.{◌-◌}
use Rattle.escapes.proofs.Writing.{Anew}
use Rattle.escapes.proofs.write_anew.Given as goal

abbrev pub invariant-loop-from : goal.invariant-loop-from
invariant-loop-from l = Anew l.initial.out l.start l.end l.at l.out l.from l.to

abbrev pub decreases-loop-from : goal.decreases-loop-from
decreases-loop-from l = l.end - l.from
