use Rattle.buffers.proofs.Writing.{wrote_then, wrote_none}
use Rattle.rows.proofs.Left.{err_left}
use Rattle.names.proofs.Full.{dotted-some, dotted-none}
use Rattle.names.proofs.push_ref_namespace.Goals as goal

pub returns-in_default : goal.returns-in_default
returns-in_default c = dotted-none _ _ c.read_string.ensures (err_left c.in_default.not-Ok).1 (wrote_none _ _ _ c.place_within.ensures)

pub returns : goal.returns
returns c = dotted-some _ _ c.read_string.ensures c.in-Ok.is c.cut-text.ensures (wrote_then c.push-next.ensures c.put.ensures)
