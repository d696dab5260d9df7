use Rattle.answers.proofs.answer_number.Goals as goal

pub reply_number-counted-requires : goal.reply_number-counted-requires
reply_number-counted-requires c = record { laid = c.requires; knows = c.nothing_known.ensures _ _ }
