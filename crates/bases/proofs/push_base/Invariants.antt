use Rattle.bases.proofs.Laws.{Searching}
use Rattle.bases.proofs.push_base.Given as goal

abbrev pub invariant-loop-i : goal.invariant-loop-i
invariant-loop-i l = Searching l.tables l.layout l.strings l.blob l.row.0 l.nth l.initial.buf l.at l.buf l.i l.seen l.from l.passed
