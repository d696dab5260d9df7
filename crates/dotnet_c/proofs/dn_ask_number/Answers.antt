use mathlib.Core.Path.{refl}
use Rattle.record.specs.View.{View}
use Rattle.c_questions.specs.Asked.{number_asked, asked_number, options_of}
use Rattle.c_replies.proofs.Laws.{told-number-charged}
use Rattle.dotnet_c.proofs.dn_ask_number.Goals as goal

pub returns : goal.returns
returns c =
    let a = c.args in
    told-number-charged {o = options_of a.options} refl a.tables.now a.strings.now a.blob.now c.reply_charged.ensures
    (λ (v : View). asked_number (number_asked a.question a.a a.b) v a.steps.now)
    c.ask_number.ensures
