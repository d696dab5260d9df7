use mathlib.Core.Path.{sym, ◌∙◌}
use Rattle.passing.proofs.Laws.{there, missing}
use Rattle.passing.proofs.tell.Goals as goal

pub returns-then-there : goal.returns-then-there
returns-then-there c = λ o e. there o _ _ (sym c.if-there.true ∙ e)

pub returns : goal.returns
returns c = λ o e. missing o _ _ (sym c.if-there.false ∙ e)
