use Rattle.std.proofs.Common.{◌≡◌}
use Rattle.case_text.specs.Digits.{worth}
use Rattle.case_text.proofs.read_decimal.Given as goal

abbrev pub invariant-loop-digit : goal.invariant-loop-digit
invariant-loop-digit l = l.n ≡ worth l.digit-index l.digits
