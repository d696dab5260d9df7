use mathlib.Core.Path.{ap}
use Rattle.buffers.specs.Writes.{place_says}
use Rattle.signatures.proofs.Forms.{alone-done, alone-missing}
use Rattle.signatures.proofs.sig_simple.Goals as goal

pub returns-in-Some : goal.returns-in-Some
returns-in-Some c = alone-done _ _ (rw (ap place_says c.in-Some.is) at c.push_simple.ensures)

pub returns-in-None : goal.returns-in-None
returns-in-None c = alone-missing _ _ (rw (ap place_says c.in-None.is) at c.push_simple.ensures)
