use Rattle.charges.proofs.Laws.{name-method, name-free}
use Rattle.charges.proofs.tally_name.Goals as goal

pub returns-in-BaseName : goal.returns-in-BaseName
returns-in-BaseName c = rw c.in-BaseName.is c.pass_bases_of.ensures

pub returns-in-ReturnType : goal.returns-in-ReturnType
returns-in-ReturnType c = rw (name-method _ c.args.question c.in-ReturnType.is) c.tally_method.ensures

pub returns-in_default : goal.returns-in_default
returns-in_default c =
    let no = c.in_default in
    name-free _ _ c.args.question no.not-BaseName no.not-ReturnType no.not-ParamType no.not-ParamName
