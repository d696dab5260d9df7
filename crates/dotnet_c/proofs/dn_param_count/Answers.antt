use Rattle.record.specs.View.{View}
use Rattle.record.specs.Answers.{ParameterCount}
use Rattle.record.specs.Allowance.{number_charged}
use Rattle.c_replies.proofs.Laws.{told-number-charged}
use Rattle.dotnet_c.proofs.dn_param_count.Goals as goal

pub returns : goal.returns
returns c =
    let a = c.args in
    told-number-charged c.options_of.ensures a.tables.now a.strings.now a.blob.now c.reply_charged.ensures
    (λ (v : View). number_charged (ParameterCount a.class a.m) v a.steps.now)
    c.param_count.ensures
