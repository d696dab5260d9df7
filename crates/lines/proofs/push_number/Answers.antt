use Rattle.buffers.proofs.Writing.{wrote_then}
use Rattle.escapes.proofs.Apart.{numbers-stand}
use Rattle.lines.specs.Lines.{line}
use Rattle.lines.proofs.push_number.Goals as goal

pub returns : goal.returns
unfolding line
returns c = rw (numbers-stand _) (wrote_then c.push-start.ensures (wrote_then c.push_decimal-end.ensures c.put.ensures))
