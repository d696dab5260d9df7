use Rattle.numbers.specs.Compressed.{uint}
use Rattle.shapes.proofs.Series.{pops-over, pops-next}
use Rattle.shapes.proofs.size_at.Goals as goal

pub returns-then-count-i : goal.returns-then-count-i
returns-then-count-i c = pops-over uint _ _ _ _ c.if-count-i.true

pub returns : goal.returns
returns c = pops-next uint _ _ _ _ c.if-count-i.false c.read_uint.ensures
