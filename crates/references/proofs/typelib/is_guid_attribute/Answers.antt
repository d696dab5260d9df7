use Rattle.references.proofs.TypelibAnswers.{named-is, named-not}
use Rattle.rows.proofs.Left.{err_left}
use Rattle.references.proofs.typelib.is_guid_attribute.Goals as goal

pub returns : goal.returns
returns c = named-is _ _ c.get_string.ensures c.in-Ok.is c.cut-name.ensures c.is_same.ensures

pub returns-in_default : goal.returns-in_default
returns-in_default c = named-not c.args.strings _ c.get_string.ensures (err_left c.in_default.not-Ok).1
