use Rattle.numbers.proofs.Parts.{cut-is}
use Rattle.method_signatures.proofs.Laws.{inside}
use Rattle.method_signatures.proofs.Steps.{no-blob-takes, reading-takes}
use Rattle.method_signatures.proofs.pass_by.Goals as goal

pub returns-in_default : goal.returns-in_default
returns-in_default c =
    let a = c.args in
    no-blob-takes c.requires.laid a.strings.now a.blob.now a.m a.class.0 c.requires.m_bound c.read_column-index.ensures
    c.get_blob.ensures a.steps c.in_default.is

pub returns : goal.returns
returns c =
    let a = c.args in
    let there = inside c.requires.laid a.strings.now a.blob.now a.m a.class.0 c.requires.m_bound c.read_column-index.ensures c.get_blob.ensures c.in-Ok.is in
    reading-takes c.requires.laid a.strings.now a.blob.now a.m a.class.0 c.requires.m_bound c.read_column-index.ensures
    c.get_blob.ensures a.steps c.in-Ok.is (cut-is _ _ _ _ there c.cut-sig.ensures).bytes c.owner_of.ensures
    c.pass_signature-passed.ensures c.steps_left.ensures
