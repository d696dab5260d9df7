use native.Mathlib.Omega.{arith}
use Rattle.places.proofs.Laws.{method-past, method-there}
use Rattle.places.proofs.own_method.Goals as goal

pub returns-then-saturating_sub-wide : goal.returns-then-saturating_sub-wide
returns-then-saturating_sub-wide c = λ v class is range. method-past v class is range _ (omega (arith, c.saturating_sub.ensures, c.wide.ensures.0, range.order))

pub returns : goal.returns
returns c = λ v class is range. method-there v class is range _ (omega (arith, c.wide-2.ensures.0)) (omega (arith, c.saturating_sub.ensures, c.wide-2.ensures.0, c.wide.ensures.0, range.order))
