use Rattle.answers.proofs.answer_name.Goals as goal

pub tell_name-answered-requires : goal.tell_name-answered-requires
tell_name-answered-requires c = record { laid = c.requires; knows = c.nothing_known.ensures _ _ }

pub returns : goal.returns
returns c = c.end_call.ensures _ _ c.tell_name-answered.ensures.0
