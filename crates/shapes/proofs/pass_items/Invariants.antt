use Prim.Native.Nat.{◌-◌}
use Rattle.shapes.specs.Series.{Pass, Passes}
use Rattle.shapes.proofs.pass_items.Given as goal

abbrev pub invariant-loop : goal.invariant-loop
invariant-loop l = (r : Pass) → Passes (l.n - l.counter) l.sig l.p r → Passes l.n l.sig l.at r

abbrev pub decreases-loop : goal.decreases-loop
decreases-loop l = l.n - l.counter
