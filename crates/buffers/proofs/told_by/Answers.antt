use Rattle.buffers.proofs.Telling.{told_by_place}
use Rattle.buffers.proofs.told_by.Goals as goal

pub returns : goal.returns
returns c = λ o b b' at s. rw c.ok_or.ensures.value (told_by_place c.args.place s)
