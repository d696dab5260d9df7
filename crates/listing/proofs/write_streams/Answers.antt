use Rattle.opening.proofs.Laws.{opened-laid, opened_view}
use Rattle.marks.proofs.Laws.{marked-view}
use mathlib.Core.Path.{◌∙◌}
use Rattle.listing.proofs.write_streams.Goals as goal

pub mark_methods-requires : goal.mark_methods-requires
mark_methods-requires g c = opened-laid c.open.ensures c.in-Ok.is

pub write_opened-requires : goal.write_opened-requires
write_opened-requires g c =
    let m = c.mark_methods.ensures in
    let opened = c.open.ensures in
    record { laid = m.laid; by_index = λ s b. marked-view m s b ∙ opened_view opened c.in-Ok.is s b }
