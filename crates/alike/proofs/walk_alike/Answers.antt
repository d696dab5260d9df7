use Rattle.alike.proofs.Laws.{walk-alike}
use Rattle.alike.proofs.walk_alike.Goals as goal

pub returns : goal.returns
returns c = walk-alike c.requires _ _ c.walk-before.ensures c.walk-after.ensures
