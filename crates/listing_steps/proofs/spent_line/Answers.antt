use Rattle.listing_steps.proofs.Over.{base-marked, base-passed, returns-marked, parameters-passed}
use Rattle.listing_steps.proofs.spent_line.Goals as goal

pub returns-then-c-eq0 : goal.returns-then-c-eq0
returns-then-c-eq0 c = base-marked _ c.in-Base.is c.cursor_at-next.ensures c.if-c-eq0.true c.push_spent-end.ensures

pub returns-else-c-eq0 : goal.returns-else-c-eq0
returns-else-c-eq0 c = base-passed _ c.in-Base.is c.cursor_at-next.ensures c.if-c-eq0.false c.push_nothing-end.ensures

pub returns-in-Returns : goal.returns-in-Returns
returns-in-Returns c = returns-marked _ c.next_method-next.ensures c.in-Returns.is c.push_spent-end-in-Returns.ensures

pub returns-in_default : goal.returns-in_default
returns-in_default c = parameters-passed _ c.next_method-next-in_default.ensures c.in_default.not-Base c.in_default.not-Returns c.push_nothing-end-in_default.ensures
