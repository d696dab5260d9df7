use Rattle.record.specs.Answers.{number_answer, ClassCount}
use Rattle.c_replies.proofs.Laws.{told-number}
use Rattle.dotnet_c.proofs.dn_class_count.Goals as goal

pub returns : goal.returns
returns c = told-number c.options_of.ensures _ _ _ c.class_count.result c.reply_of.ensures (number_answer ClassCount) c.class_count.ensures
