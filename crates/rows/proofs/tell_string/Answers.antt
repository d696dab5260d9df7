use Rattle.rows.proofs.Laws.{told-string, told-absent}
use Rattle.rows.proofs.tell_string.Goals as goal

pub returns-in-Ok : goal.returns-in-Ok
returns-in-Ok c = told-string _ _ c.read_string.ensures c.in-Ok.is c.cut-text.ensures c.push.ensures

pub returns-in-Err : goal.returns-in-Err
returns-in-Err c = told-absent _ _ c.read_string.ensures c.in-Err.is
