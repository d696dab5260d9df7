use mathlib.Core.Path.{sym, ap, ◌∙◌}
use Rattle.buffers.specs.Replies.{value}
use Rattle.references.proofs.ConstantAnswers.{constants-are, constants-gone}
use Rattle.references.proofs.constants.count_constants.Goals as goal

pub returns-then-count_entire-eq0 : goal.returns-then-count_entire-eq0
returns-then-count_entire-eq0 c strings blob = sym (constants-gone c.requires strings blob (sym c.count_entire.ensures ∙ c.if-count_entire-eq0.true))

pub returns : goal.returns
returns c strings blob = ap value c.count_strings.ensures
    ∙ sym (constants-are c.requires strings blob (λ z. c.if-count_entire-eq0.false (c.count_entire.ensures ∙ z)))
