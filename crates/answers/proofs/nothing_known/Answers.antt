use Rattle.answers.proofs.nothing_known.Goals as goal

pub returns : goal.returns
returns c = λ v heap. record { own = c.no_own.ensures v; signature = c.no_signature.ensures v heap; bases = c.no_bases.ensures v }
