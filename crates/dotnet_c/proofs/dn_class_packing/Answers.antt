use Rattle.record.specs.Answers.{number_answer, ClassPacking}
use Rattle.c_replies.proofs.Laws.{told-number}
use Rattle.dotnet_c.proofs.dn_class_packing.Goals as goal

pub returns : goal.returns
returns c = told-number c.options_of.ensures _ _ _ c.class_packing.result c.reply_of.ensures (number_answer (ClassPacking _)) c.class_packing.ensures
