use Rattle.header.proofs.CountLoop.{Counting}
use Rattle.header.proofs.read_counts.Given as goal

abbrev pub invariant-loop-kind : goal.invariant-loop-kind
invariant-loop-kind l = Counting l.limit l.s l.counts l.at l.kind
