use Rattle.record.specs.Answers.{number_answer, ClassFlags}
use Rattle.c_replies.proofs.Laws.{told-number}
use Rattle.dotnet_c.proofs.dn_class_flags.Goals as goal

pub returns : goal.returns
returns c = told-number c.options_of.ensures _ _ _ c.class_flags.result c.reply_of.ensures (number_answer (ClassFlags _)) c.class_flags.ensures
