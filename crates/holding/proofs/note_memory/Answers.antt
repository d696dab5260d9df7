use native.Mathlib.Omega.{arith}
use lib.ListN.{length-set}
use Rattle.holding.proofs.note_memory.Goals as goal

pub bounds-work-at-2 : goal.bounds-work-at-2
bounds-work-at-2 c = simp length-set (omega arith)
