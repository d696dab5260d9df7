use Rattle.shapes.proofs.Dims.{comma-none, comma-some}
use Rattle.shapes.proofs.push_comma.Goals as goal

pub returns-then-i-eq0 : goal.returns-then-i-eq0
returns-then-i-eq0 c = comma-none c.if-i-eq0.true c.push.ensures

pub returns : goal.returns
returns c = comma-some c.if-i-eq0.false c.push-2.ensures
