use Rattle.std.proofs.Common.{refl}
use Rattle.escapes.proofs.Writing.{plain-above, byte-percent, byte-plain}
use Rattle.escapes.proofs.put_byte.Goals as goal

pub returns-then-b-gt-PERCENT : goal.returns-then-b-gt-PERCENT
returns-then-b-gt-PERCENT c = byte-plain _ (plain-above _ c.if-b-gt-PERCENT.true c.requires.1) refl c.requires.0

pub returns-then-is_special : goal.returns-then-is_special
returns-then-is_special c = byte-percent _ c.is_special.ensures c.if-is_special.true c.put_percent.ensures

pub returns : goal.returns
returns c = byte-plain _ c.is_special.ensures c.if-is_special.false c.requires.0
