use mathlib.Core.Path.{sym, ap, subst, ◌∙◌}
use Rattle.header.specs.declared.Options.{Options}
use Rattle.record.specs.View.{view}
use Rattle.record.specs.Allowance.{NamedCharged}
use Rattle.c_questions.specs.Asked.{name_asked, asked_name, name_meant}
use Rattle.c_questions.proofs.Asked.{asked-name, no_name}
use Rattle.c_asks.proofs.ask_name.Goals as goal

pub returns : goal.returns
returns c =
    let a = c.args in
    let asked = sym (ap name_meant c.in-Some.is) ∙ c.name_asked.ensures in
    let done = c.ask_name in
    subst (λ (o : Options). NamedCharged (asked_name (name_asked a.question a.a a.b a.c) (view o a.tables.now a.strings.now a.blob.now) a.steps) a.buf.now done.result.reply done.new.buf done.result.left) c.options_of-meant.ensures
    (asked-name _ a.steps asked done.ensures)

pub returns-in_default : goal.returns-in_default
returns-in_default c =
    let a = c.args in
    let asked = sym (ap name_meant c.in_default.is) ∙ c.name_asked.ensures in
    let done = c.refuse in
    subst (λ (o : Options). NamedCharged (asked_name (name_asked a.question a.a a.b a.c) (view o a.tables.now a.strings.now a.blob.now) a.steps) a.buf.now done.result done.new.buf a.steps) c.options_of-meant.ensures
    (no_name _ _ _ _ a.steps c.refused_question-why.ensures asked done.ensures)
