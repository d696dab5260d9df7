use Rattle.std.proofs.Common.{◌∙◌}
use Rattle.escapes.proofs.Writing.{eight-written}
use Rattle.escapes.proofs.write_eight.Goals as goal

pub returns : goal.returns
returns c = λ s at bytes in-s is.
    eight-written s at bytes in-s is _ _ c.requires (c.copy_from_slice.ensures.after ∙ c.to_le_bytes.ensures)
