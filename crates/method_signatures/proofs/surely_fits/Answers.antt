use Rattle.numbers.proofs.Parts.{cut-is}
use Rattle.method_signatures.proofs.Laws.{inside}
use Rattle.method_signatures.proofs.Steps.{surely-fits, blobless-fits}
use Rattle.method_signatures.proofs.surely_fits.Goals as goal

pub returns-in_default : goal.returns-in_default
returns-in_default c = λ strings k told.
    let a = c.args in
    blobless-fits c.requires.laid strings a.blob.now a.m (c.is_read_once.ensures a.tables.now strings a.blob.now) c.if-not-is_read_once.false a.steps
    c.requires.m_bound c.read_column-index.ensures c.get_blob.ensures c.in_default.is k

pub returns : goal.returns
returns c = λ strings k told.
    let a = c.args in
    let laid = c.requires.laid in
    let there = inside laid strings a.blob.now a.m 0 c.requires.m_bound c.read_column-index.ensures c.get_blob.ensures c.in-Ok.is in
    surely-fits laid strings a.blob.now a.m (c.is_read_once.ensures a.tables.now strings a.blob.now) c.if-not-is_read_once.false a.steps c.requires.m_bound
    c.read_column-index.ensures c.get_blob.ensures c.in-Ok.is (cut-is _ _ _ _ there c.cut.ensures).bytes (c.surely_suffices.ensures told) k
