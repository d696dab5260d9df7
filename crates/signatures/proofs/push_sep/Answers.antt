use Rattle.signatures.proofs.Forms.{sep-none, sep-text}
use Rattle.signatures.proofs.push_sep.Goals as goal

pub returns-then-i-eq0 : goal.returns-then-i-eq0
returns-then-i-eq0 c = sep-none _ _ c.if-i-eq0.true c.cut.ensures c.push.ensures

pub returns : goal.returns
returns c = sep-text _ _ c.if-i-eq0.false c.push-2.ensures
