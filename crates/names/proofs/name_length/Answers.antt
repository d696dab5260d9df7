use mathlib.Core.Path.{ap, ◌∙◌}
use native.Mathlib.Nat.{zero-add}
use Rattle.numbers.proofs.Parts.{cut-is}
use Rattle.heaps.specs.Lookups.{before}
use Rattle.names.proofs.name_length.Goals as goal

pub returns : goal.returns
returns c = c.find_byte.ensures ∙ zero-add _ ∙ ap (before 0x60) (cut-is _ _ _ _ c.requires c.cut-text.ensures).bytes
