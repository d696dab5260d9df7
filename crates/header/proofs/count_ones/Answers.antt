use mathlib.Core.Path.{◌≡◌, sym}
use Prim.Native.Nat.{ℕ, zero, suc, ◌+◌, ◌/◌, ◌^◌, ◌<◌}
use native.Mathlib.Numerals.{add-one}
use native.Mathlib.Omega.{arith}
use lib.Count.{ones, ones-le, ones_step}
use lib.Pow.{shr-shr}
use Rattle.numbers.specs.Bits.{bit_at, ones_below}
use Rattle.numbers.proofs.Bits.{ones-most}
use borrow.Author.Rules.{rules}
use Rattle.header.proofs.count_ones.Goals as goal

-- The set digits below k, and those from k on.
parted : (v k : ℕ) → ones_below v k + ones (v / 2 ^ k) ≡ ones v
unfolding ones_below bit_at
parted v zero = let e : v / 2 ^ 0 ≡ v = omega arith in rw e (omega arith)
parted v (suc k) =
    let e : v / 2 ^ suc k ≡ v / 2 ^ k / 2 = rw (← add-one k) (sym (shr-shr v k 1)) in
    rw e (omega (arith, parted v k, ones_step (v / 2 ^ k)))

all_ones : (v : ℕ) → v < 2 ^ 64 → ones v ≡ ones_below v 64
unfolding ones
all_ones v h = let e : v / 2 ^ 64 ≡ 0 = omega arith in omega (arith, rw e at (parted v 64))

pub overflow_cast-result : goal.overflow_cast-result
overflow_cast-result c = omega (arith, ones-le 64 c.args.mask (search rules))

pub returns : goal.returns
returns c =
    let ones = all_ones c.args.mask (search rules) in
    (ones, rw ones (ones-most c.args.mask 64))
