use Rattle.case_text.proofs.Laws.{worth-none, worth-more}
use Rattle.case_text.proofs.read_decimal.Goals as goal

pub loop-digit-init : goal.loop-digit-init
loop-digit-init c = worth-none _

pub loop-digit-preserved : goal.loop-digit-preserved
loop-digit-preserved c = worth-more _ _ c.loop-digit.invariant c.hex_digit.ensures.0 c.with_digit-n.ensures
