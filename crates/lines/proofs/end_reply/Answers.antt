use Rattle.lines.proofs.Laws.{number-goes, refused-goes}
use Rattle.lines.proofs.end_reply.Goals as goal

pub returns-in-Ok : goal.returns-in-Ok
returns-in-Ok c = λ o key k. number-goes k c.in-Ok.is c.push_decimal-end.ensures c.put.ensures

pub returns-in-Err : goal.returns-in-Err
returns-in-Err c = λ o key k. refused-goes k c.in-Err.is c.push_nothing.ensures
