-- What is known of a counting that was matched, and countings one after another. Assumes nothing.
use mathlib.Core.Path.{◌≡◌, subst}
use Prim.Native.Nat.{ℕ, ◌+◌, ◌<◌}
use native.Mathlib.Omega.{arith}
use Rattle.std.specs.Prelude.{Some, None}
use Rattle.steps.specs.Counting.{Steps, Takes, left, spent}

module _ {n steps : ℕ} where
  left_in : {rest : ℕ} → Takes n steps (Some rest) → n + rest ≡ steps
  left_in (left e) = e

  spent-in : Takes n steps None → steps < n
  spent-in (spent h) = h

  module _ {r : Steps} (h : Takes n steps r) where
    pub takes-left : {rest : ℕ} → r ≡ Some rest → n + rest ≡ steps
    takes-left e = left_in (subst (Takes n steps) e h)

    pub takes-spent : r ≡ None → steps < n
    takes-spent e = spent-in (subst (Takes n steps) e h)

-- So many were counted before.
pub takes-more : {n steps : ℕ} (m have all : ℕ) {r : Steps} → Takes n have r → m + have ≡ steps → all ≡ m + n → Takes all steps r
takes-more m have all (left {rest} e) f g = left {rest = rest} (omega arith)
takes-more m have all (spent h) f g = spent (omega arith)
