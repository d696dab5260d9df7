use Rattle.name_section.proofs.Filling.{tail-zeros, no-tail}
use Rattle.name_section.proofs.clear_offsets.Goals as goal

pub returns-then-offsets-from : goal.returns-then-offsets-from
returns-then-offsets-from c = no-tail _ _ c.if-offsets-from.true

pub returns : goal.returns
returns c = tail-zeros c.args.offsets.now _ _ c.clear_words.ensures
