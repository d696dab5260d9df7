use mathlib.Core.Path.{sym, ap, subst, ◌∙◌}
use Rattle.header.specs.declared.Options.{Options}
use Rattle.record.specs.View.{view}
use Rattle.record.specs.Allowance.{NumberedCharged}
use Rattle.c_questions.specs.Asked.{number_asked, asked_number, number_meant}
use Rattle.c_questions.proofs.Asked.{asked-number, no_number}
use Rattle.c_asks.proofs.ask_number.Goals as goal
use Rattle.std.specs.Prelude.{Err}

pub returns : goal.returns
returns c =
    let a = c.args in
    let asked = sym (ap number_meant c.in-Some.is) ∙ c.number_asked.ensures in
    let r = c.ask_number.result in
    subst (λ (o : Options). NumberedCharged (asked_number (number_asked a.question a.a a.b) (view o a.tables.now a.strings.now a.blob.now) a.steps) r.reply r.left) c.options_of-meant.ensures
    (asked-number _ a.steps asked c.ask_number.ensures)

pub returns-in_default : goal.returns-in_default
returns-in_default c =
    let a = c.args in
    let asked = sym (ap number_meant c.in_default.is) ∙ c.number_asked.ensures in
    subst (λ (o : Options). NumberedCharged (asked_number (number_asked a.question a.a a.b) (view o a.tables.now a.strings.now a.blob.now) a.steps) (Err c.refused_question.result) a.steps) c.options_of-meant.ensures
    (no_number _ _ _ _ a.steps c.refused_question.ensures asked)
