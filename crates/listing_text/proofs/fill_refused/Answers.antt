use borrow.Enum.Refused.{opened}
use Rattle.listing_text.proofs.Refused.{refused_full, refused-first, refused-done, refused-elsewhere}
use Rattle.listing_text.proofs.fill_refused.Goals as goal

pub returns-then-s-out : goal.returns-then-s-out
returns-then-s-out c = λ o t n h e. refused-first o t n h e _ c.in-Stop.is c.push_refused-s.ensures c.if-s-out.true

pub returns-else-s-out : goal.returns-else-s-out
returns-else-s-out c = λ o t n h e. refused_full o t n h e _ c.in-Stop.is c.push_refused-s.ensures c.if-s-out.false

pub returns-in-Done : goal.returns-in-Done
returns-in-Done c = λ o t n h e. refused-done o t n h e _ c.in-Done.is

pub returns-in_default : goal.returns-in_default
returns-in_default c = λ o t n h e. refused-elsewhere o t n h e _ (opened c.in_default.in_default-own.keys3) c.done_cursor.ensures
