use Rattle.record.specs.Answers.{name_answer, MethodGenericName}
use Rattle.c_replies.proofs.Laws.{told-name}
use Rattle.dotnet_c.proofs.dn_method_generic_name.Goals as goal

pub returns : goal.returns
returns c = told-name c.options_of.ensures _ _ _ c.method_generic_name.result c.reply_of.ensures (name_answer (MethodGenericName _ _ _)) c.method_generic_name.ensures
