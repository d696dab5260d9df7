use Rattle.references.proofs.Parts.{told_part, told-absent}
use Rattle.rows.proofs.Left.{err_left}
use Rattle.references.proofs.texts.tell_part.Goals as goal

pub returns : goal.returns
returns c = told_part _ c.in-Ok.is c.requires c.cut-text.ensures c.push.ensures

pub returns-in_default : goal.returns-in_default
returns-in_default c = told-absent _ (err_left c.in_default.not-Ok).1
