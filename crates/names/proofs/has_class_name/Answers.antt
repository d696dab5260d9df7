use mathlib.Core.Path.{sym, ◌∙◌}
use native.Mathlib.Omega.{arith}
use Rattle.names.proofs.Leaves.{own-low, own-past, own-found}
use Rattle.names.proofs.Full.{class-there}
use Rattle.names.proofs.has_class_name.Goals as goal
use Rattle.names.proofs.has_class_name.Goals.{then-r-lt2-via-then-r-lt2, then-r-lt2-via-else-r-lt2+then-count_rows-r}

pub returns-then-r-lt2 : goal.returns-then-r-lt2
returns-then-r-lt2 c = λ blob.
    class-there c.requires _ blob _
    (elim c.then-r-lt2.branch [
      | then-r-lt2-via-then-r-lt2 w ↦ own-low _ _ _ _ w.if-r-lt2.true
      | then-r-lt2-via-else-r-lt2+then-count_rows-r w ↦ own-past _ _ _ _ c.requires w.if-r-lt2.false (omega (arith, w.if-count_rows-r.true, w.count_rows.ensures))
    ])

pub returns : goal.returns
returns c = λ blob.
    let found = own-found _ _ _ _ c.requires c.if-r-lt2.false (omega (arith, c.if-count_rows-r.false, c.count_rows.ensures)) in
    class-there c.requires _ blob _ (found ∙ sym c.has_string.ensures)
