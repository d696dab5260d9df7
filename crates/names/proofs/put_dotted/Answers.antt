use Rattle.numbers.proofs.Parts.{cut-is}
use Rattle.names.proofs.put_dotted.Goals as goal

pub returns : goal.returns
returns c = rw (cut-is _ _ _ _ c.requires.2 c.cut-text.ensures).bytes at c.put_dotted_before.ensures
