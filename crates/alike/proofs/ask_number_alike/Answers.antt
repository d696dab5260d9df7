use Rattle.questions.specs.Questions.{number_call}
use Rattle.alike.proofs.Laws.{number-alike}
use Rattle.alike.proofs.ask_number_alike.Goals as goal

pub returns : goal.returns
returns c =
    let a = c.args in
    number-alike c.requires a.strings.now a.blob.now (number_call a.question) a.steps c.ask_number-before.ensures c.ask_number-after.ensures
