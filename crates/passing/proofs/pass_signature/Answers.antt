use Rattle.passing.proofs.Methods.{signature-passes}
use Rattle.passing.proofs.pass_signature.Goals as goal

pub returns : goal.returns
returns c = signature-passes _ _ 0 c.over_method.ensures
