use Rattle.class_answers.proofs.Bases.{told-by}
use Rattle.class_answers.proofs.told_base.Goals as goal

pub returns : goal.returns
returns c = λ o before after at s. rw c.ok_or.ensures.value (told-by c.args.place s)
