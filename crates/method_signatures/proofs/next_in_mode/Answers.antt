use Rattle.method_signatures.proofs.Laws.{next-any}
use Rattle.method_signatures.proofs.next_in_mode.Goals as goal

pub returns : goal.returns
returns c = λ strings blob.
    next-any _ c.args.m (c.is_taker.ensures c.args.tables.now strings blob) c.if-is_taker.false (c.next_reader.ensures strings blob)
