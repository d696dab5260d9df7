use Rattle.references.proofs.Parts.{string_bytes}
use mathlib.Core.Path.{ap, ◌∙◌}
use Rattle.buffers.specs.Replies.{name_or_5}
use Rattle.buffers.proofs.Telling.{told_same}
use Rattle.heaps.specs.Lookups.{string_at}
use Rattle.heaps.proofs.Lookups.{string-inside}
use Rattle.references.proofs.texts.tell_string.Goals as goal

pub tell_part-requires : goal.tell_part-requires
tell_part-requires c = rw c.get_string.ensures (string-inside _ _)

pub returns : goal.returns
returns c = told_same (ap name_or_5 (string_bytes _ _ (c.get_string.ensures ∙ ap (string_at _) c.read_column-index.ensures))) c.tell_part.ensures
