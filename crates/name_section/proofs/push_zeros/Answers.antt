use mathlib.Core.Path.{sym}
use lib.Seq.{length-take-le}
use Rattle.name_section.proofs.Filling.{zeros-few}
use Rattle.name_section.proofs.push_zeros.Goals as goal

pub slice_bounds-push-end : goal.slice_bounds-push-end
slice_bounds-push-end c = sym (length-take-le _ _ c.requires)

pub returns : goal.returns
returns c = rw (zeros-few _ c.requires) at c.push.ensures
