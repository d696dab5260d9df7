use Rattle.bases.proofs.Laws.{Passing}
use Rattle.bases.proofs.pass_bases.Given as goal

abbrev pub invariant-loop-i : goal.invariant-loop-i
invariant-loop-i l = Passing l.tables l.layout l.strings l.blob l.row.0 l.steps l.i l.from l.passed l.have
