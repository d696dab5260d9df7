use Rattle.record.specs.Answers.{number_answer, MethodCount}
use Rattle.c_replies.proofs.Laws.{told-number}
use Rattle.dotnet_c.proofs.dn_method_count.Goals as goal

pub returns : goal.returns
returns c = told-number c.options_of.ensures _ _ _ c.method_count.result c.reply_of.ensures (number_answer (MethodCount _)) c.method_count.ensures
