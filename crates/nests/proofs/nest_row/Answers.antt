use mathlib.Core.Path.{refl}
use lib.ListN.{length-set}
use native.Mathlib.Omega.{arith}
use Rattle.rows.proofs.Held.{around-low, around-out, around-other}
use Rattle.nests.proofs.Laws.{nest-skip, nest-take, told-as}
use Rattle.nests.proofs.nest_row.Goals as goal
use Rattle.nests.proofs.nest_row.Goals.{then-nested-lt2-via-then-nested-lt2, then-nested-lt2-via-else-nested-lt2+then-enclosing-lt2, then-nested-lt2-via-else-nested-lt2+else-enclosing-lt2+then-room-nested}

pub returns-then-nested-lt2 : goal.returns-then-nested-lt2
returns-then-nested-lt2 c = λ f g n inside sized is e k.
    nest-skip f g n _ _ _ _ inside sized k (told-as c.args.memory.now e c.link_of-link.ensures)
    (λ r h.
    elim c.then-nested-lt2.branch [
      | then-nested-lt2-via-then-nested-lt2 w ↦ around-low f g _ r (omega arith)
      | then-nested-lt2-via-else-nested-lt2+then-enclosing-lt2 w ↦ around-out f g _ r (omega arith)
      | then-nested-lt2-via-else-nested-lt2+else-enclosing-lt2+then-room-nested w ↦ around-other f g _ r (λ q. omega arith)
    ])

pub bounds-memory-nested : goal.bounds-memory-nested
bounds-memory-nested c = simp length-set (omega arith)

pub returns : goal.returns
returns c = λ f g n inside sized is e k.
    nest-take f g n _ _ _ _ inside sized k (told-as c.args.memory.now e c.link_of-link.ensures) _ _ is (omega arith) (omega arith) (omega arith) refl
