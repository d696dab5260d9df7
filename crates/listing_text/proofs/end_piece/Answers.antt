use Rattle.listing_steps.proofs.Filling.{piece-ended}
use Rattle.listing_text.proofs.end_piece.Goals as goal

pub returns : goal.returns
returns c = λ p b w. piece-ended w c.finish.ensures
