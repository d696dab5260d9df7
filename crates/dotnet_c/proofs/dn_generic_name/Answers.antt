use Rattle.record.specs.Answers.{name_answer, GenericName}
use Rattle.c_replies.proofs.Laws.{told-name}
use Rattle.dotnet_c.proofs.dn_generic_name.Goals as goal

pub returns : goal.returns
returns c = told-name c.options_of.ensures _ _ _ c.generic_name.result c.reply_of.ensures (name_answer (GenericName _ _)) c.generic_name.ensures
