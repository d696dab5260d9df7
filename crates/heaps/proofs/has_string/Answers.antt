use Rattle.heaps.proofs.Lookups.{there-null, there-past, there-ended, there-sought}
use Rattle.heaps.proofs.has_string.Goals as goal

pub returns-then-i-eq0 : goal.returns-then-i-eq0
returns-then-i-eq0 c = there-null _ _ c.if-i-eq0.true

pub returns-then-n-i : goal.returns-then-n-i
returns-then-n-i c = there-past _ _ c.if-i-eq0.false c.if-n-i.true

pub returns-then-strings-n-eq0 : goal.returns-then-strings-n-eq0
returns-then-strings-n-eq0 c = there-ended _ _ c.if-i-eq0.false c.if-n-i.false c.if-strings-n-eq0.true

pub returns : goal.returns
returns c = there-sought _ _ c.if-i-eq0.false c.if-n-i.false c.find_byte.ensures
