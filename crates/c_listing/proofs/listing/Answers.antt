use Rattle.c_listing.proofs.Laws.{told-piece}
use Rattle.c_listing.proofs.listing.Goals as goal

pub returns : goal.returns
returns c =
    let a = c.args in
    let filled = c.fill.ensures in (
      told-piece a.tables.now a.strings.now a.blob.now c.options_of-opened.ensures c.cursor_of-start.ensures filled.0 c.told_step.ensures,
      filled.1,
    )
