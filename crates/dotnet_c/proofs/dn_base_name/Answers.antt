use Rattle.record.specs.View.{View}
use Rattle.record.specs.Answers.{BaseName}
use Rattle.record.specs.Allowance.{name_charged}
use Rattle.c_replies.proofs.Laws.{told-name-charged}
use Rattle.dotnet_c.proofs.dn_base_name.Goals as goal

pub returns : goal.returns
returns c =
    let a = c.args in
    told-name-charged c.options_of.ensures a.tables.now a.strings.now a.blob.now c.reply_charged.ensures
    (λ (v : View). name_charged (BaseName a.class a.b) v a.steps.now)
    c.base_name.ensures
