use Rattle.extents_text.specs.Lines.{kind_line}
use Rattle.buffers.proofs.Writing.{wrote_then}
use Rattle.extents_text.proofs.push_kind.Goals as goal

pub returns : goal.returns
unfolding kind_line
returns c = wrote_then c.push_field-second.ensures (wrote_then c.push_field-third.ensures (wrote_then c.push_field-fourth.ensures
    (wrote_then c.push_decimal-end.ensures c.put.ensures)))
