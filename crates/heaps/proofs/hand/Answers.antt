use Rattle.std.proofs.Common.{subst}
use Rattle.numbers.proofs.Parts.{cut-is}
use Rattle.heaps.specs.Lookups.{Inside}
use Rattle.heaps.proofs.hand.Goals as goal

pub returns-in-Ok : goal.returns-in-Ok
returns-in-Ok c = rw c.in-Ok.is (cut-is _ _ _ _ (subst (Inside c.args.s.now) c.in-Ok.is c.requires) c.cut.ensures)
