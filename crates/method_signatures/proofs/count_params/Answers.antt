use Rattle.method_signatures.proofs.Values.{made, parameters-counted, no-parameters}
use mathlib.Core.Path.{◌∙◌}
use Rattle.method_signatures.proofs.count_params.Goals as goal

pub returns-in-Some : goal.returns-in-Some
returns-in-Some c = c.wide.ensures.0 ∙ parameters-counted (made c.in-Some.ensures)

pub returns-in-None : goal.returns-in-None
returns-in-None c = no-parameters _ c.in-None.ensures
