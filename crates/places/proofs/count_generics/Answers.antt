use mathlib.Core.Path.{sym, ◌∙◌}
use Rattle.keys.proofs.Laws.{generics-count}
use Rattle.places.proofs.count_generics.Goals as goal

pub returns : goal.returns
returns c = λ strings blob. c.count_key.ensures ∙ sym (generics-count c.requires strings blob _)
