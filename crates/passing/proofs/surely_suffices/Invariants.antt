use Prim.Native.Nat.{ℕ, ◌<◌}
use Rattle.passing.specs.Passing.{NamesSpec}
use Rattle.passing.proofs.surely_suffices.Given as goal

abbrev pub invariant-loop-i : goal.invariant-loop-i
invariant-loop-i l = (at : ℕ) → at < l.i → NamesSpec l.sig at → ⊥
