use mathlib.Core.Path.{◌∙◌}
use Rattle.sig_leaves.proofs.Numbers.{up-to-is}
use Rattle.sig_leaves.proofs.read_up_to.Goals as goal

pub returns : goal.returns
returns c = c.at_most.ensures ∙ up-to-is _ _ _ c.read_number.result c.read_number.ensures
