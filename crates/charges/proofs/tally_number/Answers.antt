use Rattle.charges.proofs.Laws.{number-free}
use Rattle.charges.proofs.tally_number.Goals as goal

pub returns-in-BaseCount : goal.returns-in-BaseCount
returns-in-BaseCount c = rw c.in-BaseCount.is c.pass_bases_of.ensures

pub returns-in-ParamCount : goal.returns-in-ParamCount
returns-in-ParamCount c = rw c.in-ParamCount.is c.tally_method.ensures

pub returns-in_default : goal.returns-in_default
returns-in_default c = number-free _ _ c.args.question c.in_default.not-BaseCount c.in_default.not-ParamCount
