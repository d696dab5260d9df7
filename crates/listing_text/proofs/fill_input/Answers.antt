use mathlib.Core.Path.{sym, ◌∙◌}
use Rattle.numbers.proofs.Parts.{cut-is}
use Rattle.bundle.proofs.Input.{streams-within}
use Rattle.listing_steps.proofs.Filling.{input-malformed, input-streams}
use Rattle.listing_text.proofs.fill_input.Goals as goal

pub returns : goal.returns
returns c =
    let is = sym c.in-Some.is ∙ c.open_bundle.ensures.1 in
    let in-input = streams-within _ is in
    let filled = c.fill.ensures in (
      input-streams _ _ _ is
          (cut-is _ _ _ _ in-input.0 c.cut-tables.ensures).bytes
          (cut-is _ _ _ _ in-input.1 c.cut-strings.ensures).bytes
          (cut-is _ _ _ _ in-input.2 c.cut-blob.ensures).bytes
          c.base_options.ensures filled.0,
      filled.1,
    )

pub returns-in_default : goal.returns-in_default
returns-in_default c =
    let is = sym c.in_default.is ∙ c.open_bundle.ensures.1 in
    (c.end_piece.ensures _ _ (input-malformed _ _ _ is c.push_refused-s.ensures), c.clear_words.ensures)
