use mathlib.Core.Path.{◌∙◌}
use Rattle.references.proofs.Same.{same-is}
use Rattle.references.proofs.typelib.is_same.Goals as goal

pub returns : goal.returns
returns c = c.eq.ensures ∙ same-is _ _
