use Rattle.std.proofs.Common.{sym, ◌∙◌}
use Rattle.numbers.proofs.Parts.{cut-is}
use Rattle.bundle.proofs.Input.{streams-within}
use Rattle.extents_text.proofs.Lines.{text-streams, text-malformed}
use Rattle.extents_text.proofs.push_extents.Goals as goal

pub returns-in-Some : goal.returns-in-Some
returns-in-Some c =
    let is = sym c.in-Some.is ∙ c.open_bundle.ensures.1 in
    let bytes = (cut-is _ _ _ _ (streams-within _ is).0 c.cut-tables.ensures).bytes in
    text-streams _ is bytes c.walk_by.ensures c.push_walk.ensures

pub returns-in-None : goal.returns-in-None
returns-in-None c = text-malformed _ (sym c.in-None.is ∙ c.open_bundle.ensures.1) c.push_refused.ensures
