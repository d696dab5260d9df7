use Rattle.questions.specs.Questions.{name_call}
use Rattle.opening.proofs.Laws.{opened-laid}
use Rattle.opening.proofs.Calls.{name-refused, name-ready}
use Rattle.asks.proofs.ask_name.Goals as goal

pub charge_name-requires : goal.charge_name-requires
charge_name-requires c = opened-laid c.open.ensures c.in_default.is

pub returns-in-Err : goal.returns-in-Err
returns-in-Err c = name-refused _ _ c.open.ensures c.in-Err.is (name_call c.args.question) c.args.steps c.refuse.ensures

pub returns : goal.returns
returns c = name-ready _ _ c.open.ensures c.in_default.is (name_call c.args.question) c.args.steps c.charge_name.ensures
