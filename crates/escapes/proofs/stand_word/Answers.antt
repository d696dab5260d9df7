use Rattle.std.proofs.Common.{refl, arith, eqb-true}
use Rattle.escapes.proofs.Words.{stand-wrapped}
use Rattle.escapes.proofs.stand_word.Goals as goal

pub returns-then-x-eq0 : goal.returns-then-x-eq0
returns-then-x-eq0 c = λ s at bytes is e. stand-wrapped s at bytes is (omega arith) (omega arith) c.if-x-eq0.true refl (eqb-true _ _ e)
