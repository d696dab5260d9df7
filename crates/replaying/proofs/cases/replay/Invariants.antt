use Rattle.std.proofs.Common.{◌+◌, ◌≤◌}
use Rattle.replaying.proofs.cases.replay.Given as goal

abbrev pub invariant-loop-case : goal.invariant-loop-case
invariant-loop-case g l = goal.F-IsAlwaysCallable g l.next_agrees × (l.tally.agreed + l.tally.differed ≤ l.case-counter)
