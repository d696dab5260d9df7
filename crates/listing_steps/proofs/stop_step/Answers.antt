use Rattle.lines.proofs.Stepping.{stop-found, stop-refused}
use Rattle.listing_steps.proofs.stop_step.Goals as goal

pub returns-in-Ok : goal.returns-in-Ok
returns-in-Ok c = stop-found c.in-Ok.is c.cursor_at.ensures c.push_number-end.ensures

pub returns-in-Err : goal.returns-in-Err
returns-in-Err c = stop-refused c.in-Err.is c.push_refused.ensures
