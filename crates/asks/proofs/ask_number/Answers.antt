use Rattle.questions.specs.Questions.{number_call}
use Rattle.opening.proofs.Laws.{opened-laid}
use Rattle.opening.proofs.Calls.{number-refused, number-ready}
use Rattle.asks.proofs.ask_number.Goals as goal

pub charge_number-requires : goal.charge_number-requires
charge_number-requires c = opened-laid c.open.ensures c.in_default.is

pub returns-in-Err : goal.returns-in-Err
returns-in-Err c = number-refused _ _ c.open.ensures c.in-Err.is (number_call c.args.question) c.args.steps

pub returns : goal.returns
returns c = number-ready _ _ c.open.ensures c.in_default.is (number_call c.args.question) c.args.steps c.charge_number.ensures
