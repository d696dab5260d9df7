use Rattle.shapes.proofs.Dims.{size-some, size_none}
use Rattle.shapes.proofs.push_size.Goals as goal

pub returns-in-Ok : goal.returns-in-Ok
returns-in-Ok c = size-some c.in-Ok.is c.wide.ensures.0 c.push_decimal.ensures

pub returns-in-Err : goal.returns-in-Err
returns-in-Err c = size_none c.in-Err.is c.push.ensures
