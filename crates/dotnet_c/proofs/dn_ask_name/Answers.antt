use mathlib.Core.Path.{refl}
use Rattle.record.specs.View.{View}
use Rattle.c_questions.specs.Asked.{name_asked, asked_name, options_of}
use Rattle.c_replies.proofs.Laws.{told-name-charged}
use Rattle.dotnet_c.proofs.dn_ask_name.Goals as goal

pub returns : goal.returns
returns c =
    let a = c.args in
    told-name-charged {o = options_of a.options} refl a.tables.now a.strings.now a.blob.now c.reply_charged.ensures
    (λ (v : View). asked_name (name_asked a.question a.a a.b a.c) v a.steps.now)
    c.ask_name.ensures
