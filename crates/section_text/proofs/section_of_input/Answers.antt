use mathlib.Core.Path.{sym, ◌∙◌}
use Rattle.numbers.proofs.Parts.{cut-is}
use Rattle.bundle.proofs.Input.{streams-within}
use Rattle.section_text.proofs.Output.{input-malformed, input-streams}
use Rattle.section_text.proofs.section_of_input.Goals as goal

pub returns-in-Some : goal.returns-in-Some
returns-in-Some c =
    let is = sym c.in-Some.is ∙ c.open_bundle.ensures.1 in
    let in-input = streams-within _ is in
    input-streams _ is (cut-is _ _ _ _ in-input.0 c.cut-tables.ensures).bytes (cut-is _ _ _ _ in-input.1 c.cut-strings.ensures).bytes
    (cut-is _ _ _ _ in-input.2 c.cut-blob.ensures).bytes c.base_options.ensures c.name_section.ensures

pub returns-in-None : goal.returns-in-None
returns-in-None c = input-malformed _ (sym c.in-None.is ∙ c.open_bundle.ensures.1) c.refuse_input.ensures
