use Rattle.record.specs.Answers.{number_answer, GenericCount}
use Rattle.c_replies.proofs.Laws.{told-number}
use Rattle.dotnet_c.proofs.dn_generic_count.Goals as goal

pub returns : goal.returns
returns c = told-number c.options_of.ensures _ _ _ c.generic_count.result c.reply_of.ensures (number_answer (GenericCount _)) c.generic_count.ensures
