use Rattle.record.specs.Answers.{name_answer, ClassName}
use Rattle.c_replies.proofs.Laws.{told-name}
use Rattle.dotnet_c.proofs.dn_class_name.Goals as goal

pub returns : goal.returns
returns c = told-name c.options_of.ensures _ _ _ c.class_name.result c.reply_of.ensures (name_answer (ClassName _)) c.class_name.ensures
