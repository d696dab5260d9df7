use Rattle.record.specs.Answers.{number_answer, ClassSize}
use Rattle.c_replies.proofs.Laws.{told-number}
use Rattle.dotnet_c.proofs.dn_class_size.Goals as goal

pub returns : goal.returns
returns c = told-number c.options_of.ensures _ _ _ c.class_size.result c.reply_of.ensures (number_answer (ClassSize _)) c.class_size.ensures
