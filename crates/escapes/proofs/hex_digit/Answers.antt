use Rattle.escapes.proofs.Writing.{digit-there}
use Rattle.escapes.proofs.hex_digit.Goals as goal

pub returns : goal.returns
returns c = digit-there _ c.requires
