use Rattle.names.proofs.Leaves.{Looking}
use Rattle.names.proofs.last_around.Given as goal

abbrev pub invariant-loop-i : goal.invariant-loop-i
invariant-loop-i l = Looking l.tables l.layout l.end l.row.0 l.i
