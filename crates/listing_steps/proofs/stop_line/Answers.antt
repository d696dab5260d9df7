use Rattle.lines.proofs.Stepping.{stop_goes}
use Rattle.listing_steps.proofs.stop_line.Goals as goal

pub returns : goal.returns
returns c = λ d m i. stop_goes _ _ _ _ d m i c.walk_with-walk.result c.walk_with-walk.ensures c.stop_step.ensures
