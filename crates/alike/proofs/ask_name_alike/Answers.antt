use Rattle.questions.specs.Questions.{name_call}
use Rattle.alike.proofs.Laws.{name-alike}
use Rattle.alike.proofs.ask_name_alike.Goals as goal

pub returns : goal.returns
returns c =
    let a = c.args in
    name-alike c.requires.rearranged a.strings.now a.blob.now (name_call a.question) a.steps c.requires.other_len c.ask_name-before.ensures c.ask_name-after.ensures
