use Rattle.alike.proofs.Laws.{walk-alike}
use Rattle.alike.proofs.walk_with_alike.Goals as goal

pub returns : goal.returns
returns c = walk-alike c.requires _ _ c.walk_with-before.ensures c.walk_with-after.ensures
