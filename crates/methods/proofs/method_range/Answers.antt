use Rattle.methods.proofs.Laws.{range-is}
use Rattle.methods.proofs.method_range.Goals as goal

pub returns : goal.returns
returns c strings blob = range-is c.requires.laid strings blob c.args.row.0 c.wide-own.ensures.0 c.requires.lt_row.0 c.requires.lt_row.1
    c.read_column.ensures (c.left_after-end.ensures strings blob) c.take_from-first.ensures
