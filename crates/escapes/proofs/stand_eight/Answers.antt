use Rattle.escapes.proofs.stand_eight.Goals as goal

pub returns : goal.returns
returns c = c.stand_word.ensures _ _ (λ j. (c.shared_slice_known-1.given j).fits) c.read_eight.ensures
