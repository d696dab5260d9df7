use Rattle.extents_text.proofs.Lines.{kinds-none, kinds-more}
use Rattle.extents_text.proofs.push_kinds.Goals as goal

pub loop-kind-init : goal.loop-kind-init
loop-kind-init c = kinds-none _ _

pub loop-kind-preserved : goal.loop-kind-preserved
loop-kind-preserved c = kinds-more _ _ c.loop-kind.invariant c.push_kind-at.ensures
