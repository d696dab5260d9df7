use Rattle.record.specs.Answers.{number_answer, MethodFlags}
use Rattle.c_replies.proofs.Laws.{told-number}
use Rattle.dotnet_c.proofs.dn_method_flags.Goals as goal

pub returns : goal.returns
returns c = told-number c.options_of.ensures _ _ _ c.method_flags.result c.reply_of.ensures (number_answer (MethodFlags _ _)) c.method_flags.ensures
