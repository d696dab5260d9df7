-- Eight bytes as one number, and what the highest bit of each tells of all of them.
--     worth-le               eight bytes of a list
--     less-low, less-most    where so much was taken from each byte, and none has its highest bit set: each had as much, and not too much
--     less-small             the number that is left
--     none_is                where 1 can be taken from each byte that is held against another: none is that other
-- Assumes nothing.
use mathlib.Core.Path.{◌≡◌, refl, sym, ap, ap₂, ◌∙◌, subst}
use mathlib.Core.List.{List}
use Prim.Native.Nat.{ℕ, zero, suc, ◌+◌, ◌-◌, ◌*◌, ◌/◌, ◌%◌, ◌^◌, ◌<◌, ◌≤◌}
use native.Mathlib.Nat.{add-zero, mul_left_comm, pow-succ'}
use native.Mathlib.Omega.{arith}
use lib.Bits.{bit_and, bit_xor, and_block, and_high, xor_block, xor_lt, xor_self}
use lib.ListN.{get_or}
use Rattle.numbers.specs.Fixed.{le_at}
use Rattle.numbers.proofs.Pick.{by-lt}

-- The number of n bytes from place i on, of which byte j is f j; and of n bytes that are all x.
abbrev pub worth : (ℕ → ℕ) → ℕ → ℕ → ℕ
worth f zero i = 0
worth f (suc n) i = f i + 256 * worth f n (i + 1)

abbrev pub all : ℕ → ℕ → ℕ
all x zero = 0
all x (suc n) = x + 256 * all x n

pub worth-le : (s : List ℕ) (n i : ℕ) → le_at n s i ≡ worth (λ j. get_or s j 0) n i
unfolding le_at
worth-le s zero i = refl
worth-le s (suc n) i = ap (λ (r : ℕ). get_or s i 0 + 256 * r) (worth-le s n (i + 1))

worth-plus : (f : ℕ → ℕ) (x n i : ℕ) → worth f n i + all x n ≡ worth (λ j. f j + x) n i
worth-plus f x zero i = refl
worth-plus f x (suc n) i = omega (arith, worth-plus f x n (i + 1))

-- What holds of the byte at a place, and of those behind it, holds of all.
module _ (f : ℕ → ℕ) (P : ℕ → Type 0) where
  abbrev Each : ℕ → ℕ → Type 0
  Each n i = (k : ℕ) → k < n → P (f (i + k))

  first : (n i : ℕ) → Each (suc n) i → P (f i)
  first n i h = subst (λ (j : ℕ). P (f j)) (add-zero i) (h 0 (omega arith))

  rest : (n i : ℕ) → Each (suc n) i → Each n (i + 1)
  rest n i h k l = let e : i + suc k ≡ i + 1 + k = omega arith in subst (λ (j : ℕ). P (f j)) e (h (suc k) (omega arith))

  both : (n i : ℕ) → P (f i) → Each n (i + 1) → Each (suc n) i
  both n i p q zero l = subst (λ (j : ℕ). P (f j)) (sym (add-zero i)) p
  both n i p q (suc k) l = let e : i + 1 + k ≡ i + suc k = omega arith in subst (λ (j : ℕ). P (f j)) e (q k (omega arith))

worth-most : (f : ℕ → ℕ) (x n i : ℕ) → Each f (λ y. y ≤ x) n i → worth f n i ≤ all x n
worth-most f x zero i h = omega arith
worth-most f x (suc n) i h =
    omega (arith, first f (λ y. y ≤ x) n i h, worth-most f x n (i + 1) (rest f (λ y. y ≤ x) n i h))

-- The highest bits of a number, byte by byte.
and_byte : (r a m : ℕ) → r < 256 → bit_and (r + 256 * a) (128 + 256 * m) ≡ bit_and r 128 + 256 * bit_and a m
and_byte r a m h =
    let left : r + 256 * a ≡ a * 256 + r = omega arith in
    let right : 128 + 256 * m ≡ m * 256 + 128 = omega arith in
    let block : bit_and (a * 256 + r) (m * 256 + 128) ≡ bit_and a m * 256 + bit_and r 128 = and_block 8 a m r 128 h (omega arith) in
    let end : bit_and a m * 256 + bit_and r 128 ≡ bit_and r 128 + 256 * bit_and a m = omega arith in
    ap₂ bit_and left right ∙ block ∙ end

clear-byte : (r : ℕ) → r < 256 → bit_and r 128 ≡ 0 → r < 128
clear-byte r h e =
    let high : bit_and r 128 ≡ r / 128 % 2 * 128 = and_high r 1 7 in
    by-lt r 128 (λ l. l)
    (λ le.
    let q : r / 128 ≡ 1 = omega arith in
    let z : r / 128 % 2 * 128 ≡ 0 = sym high ∙ e in
    let n : ◌≡◌ {A = ℕ} 128 0 = rw q at z in
    absurd (omega arith))

all-clear : (f : ℕ → ℕ) (n i : ℕ) → Each f (λ y. y < 256) n i → bit_and (worth f n i) (all 128 n) ≡ 0 → Each f (λ y. y < 128) n i
all-clear f zero i small e k l = absurd (omega arith)
all-clear f (suc n) i small e k l =
    let one = first f (λ y. y < 256) n i small in
    let b = and_byte (f i) (worth f n (i + 1)) (all 128 n) one in
    both f (λ y. y < 128) n i (clear-byte (f i) one (omega (arith, b, e)))
    (all-clear f n (i + 1) (rest f (λ y. y < 256) n i small) (omega (arith, b, e))) k l

-- A number that is n bytes less so much each, up to a carry: where no highest bit is set, each byte had as much.
record Less (f : ℕ → ℕ) (lo n i w : ℕ) : Type 0 where
  low : Each f (λ y. lo ≤ y) n i
  is : w ≡ worth (λ j. f j - lo) n i

less : (f : ℕ → ℕ) (lo : ℕ) → lo ≤ 128 → (n i w q : ℕ) → Each f (λ y. y < 256) n i → w < 256 ^ n
    → w + all lo n ≡ worth f n i + q * 256 ^ n → bit_and w (all 128 n) ≡ 0 → Less f lo n i w
less f lo h zero i w q small lt e clear = record { low = λ k l. absurd (omega arith); is = omega arith }
less f lo h (suc n) i w q small lt e clear =
    let r : ℕ = w % 256 in
    let a : ℕ = w / 256 in
    let split : w ≡ r + 256 * a = omega arith in
    let power : 256 ^ suc n ≡ 256 * 256 ^ n = pow-succ' 256 n in
    let carry : q * 256 ^ suc n ≡ 256 * (q * 256 ^ n) = ap (λ (p : ℕ). q * p) power ∙ mul_left_comm q 256 (256 ^ n) in
    let byte : bit_and r 128 + 256 * bit_and a (all 128 n) ≡ 0 =
    sym (and_byte r a (all 128 n) (omega arith)) ∙ ap (λ (x : ℕ). bit_and x (all 128 (suc n))) (sym split) ∙ clear in
    let small_r : r < 128 = clear-byte r (omega arith) (omega (arith, byte)) in
    let one : f i < 256 = first f (λ y. y < 256) n i small in
    let here : f i ≡ r + lo = omega (arith, e, carry, split, small_r, one, h) in
    let behind = less f lo h n (i + 1) a q (rest f (λ y. y < 256) n i small) (omega (arith, lt, power)) (omega (arith, e, carry, split, here))
    (omega (arith, byte)) in
    record { low = both f (λ y. lo ≤ y) n i (omega (arith, here)) behind.low; is = omega (arith, split, here, behind.is) }

back : (y lo c : ℕ) → lo ≤ y → y - lo + c < 128 → y + c < lo + 128
back y lo c h l = omega arith

-- Eight bytes less so much each, by a difference that wraps.
module _ (f : ℕ → ℕ) (at lo : ℕ) (bytes : (k : ℕ) → k < 8 → f (at + k) < 256) (h : lo ≤ 128) {x w : ℕ} (is : x ≡ worth f 8 at) (fits : w < 2 ^ 64)
    (wraps : (w + all lo 8) % 2 ^ 64 ≡ x) (clear : bit_and w (all 128 8) ≡ 0) where
  taken : Less f lo 8 at w
  taken = less f lo h 8 at w ((w + all lo 8) / 2 ^ 64) bytes fits (omega (arith, wraps, is)) clear

  pub less-low : (k : ℕ) → k < 8 → lo ≤ f (at + k)
  less-low = taken.low

  below : (k : ℕ) → k < 8 → f (at + k) - lo < 128
  below =
      all-clear (λ j. f j - lo) 8 at (λ k l. omega (arith, bytes k l)) (subst (λ (y : ℕ). bit_and y (all 128 8) ≡ 0) taken.is clear)

  pub less-small : w ≤ all 127 8
  less-small = subst (λ (y : ℕ). y ≤ all 127 8) (sym taken.is) (worth-most (λ j. f j - lo) 127 8 at (λ k l. omega (arith, below k l)))

  pub less-most : (c : ℕ) → c ≤ 128 → bit_and (w + all c 8) (all 128 8) ≡ 0 → (k : ℕ) → k < 8 → f (at + k) + c < lo + 128
  less-most c hc e k l =
      let sum : w + all c 8 ≡ worth (λ j. f j - lo + c) 8 at = ap (λ (y : ℕ). y + all c 8) taken.is ∙ worth-plus (λ j. f j - lo) c 8 at in
      let small : (k : ℕ) → k < 8 → f (at + k) - lo + c < 256 = λ k l. omega (arith, below k l) in
      back (f (at + k)) lo c (less-low k l) (all-clear (λ j. f j - lo + c) 8 at small (subst (λ (y : ℕ). bit_and y (all 128 8) ≡ 0) sum e) k l)

-- Bytes that differ from x: none of them and x have all bits alike.
xor-byte : (r a x m : ℕ) → r < 256 → x < 256 → bit_xor (r + 256 * a) (x + 256 * m) ≡ bit_xor r x + 256 * bit_xor a m
xor-byte r a x m h g =
    let left : r + 256 * a ≡ a * 256 + r = omega arith in
    let right : x + 256 * m ≡ m * 256 + x = omega arith in
    let block : bit_xor (a * 256 + r) (m * 256 + x) ≡ bit_xor a m * 256 + bit_xor r x = xor_block 8 a m r x h g in
    let end : bit_xor a m * 256 + bit_xor r x ≡ bit_xor r x + 256 * bit_xor a m = omega arith in
    ap₂ bit_xor left right ∙ block ∙ end

worth-xor : (f : ℕ → ℕ) (x n i : ℕ) → x < 256 → Each f (λ y. y < 256) n i → bit_xor (worth f n i) (all x n) ≡ worth (λ j. bit_xor (f j) x) n i
worth-xor f x zero i h small = refl
worth-xor f x (suc n) i h small =
    xor-byte (f i) (worth f n (i + 1)) x (all x n) (first f (λ y. y < 256) n i small) h
    ∙ ap (λ (r : ℕ). bit_xor (f i) x + 256 * r) (worth-xor f x n (i + 1) h (rest f (λ y. y < 256) n i small))

pub none_is : (f : ℕ → ℕ) (at x : ℕ) → x < 256 → ((k : ℕ) → k < 8 → f (at + k) < 256) → {w : ℕ} → w < 2 ^ 64
    → (w + all 1 8) % 2 ^ 64 ≡ bit_xor (worth f 8 at) (all x 8) → bit_and w (all 128 8) ≡ 0 → (k : ℕ) → k < 8 → f (at + k) ≡ x → ⊥
none_is f at x h bytes {w} fits wraps clear k l e =
    let some : 1 ≤ bit_xor (f (at + k)) x =
    less-low (λ j. bit_xor (f j) x) at 1 (λ k l. xor_lt 8 (f (at + k)) x (bytes k l) h) (omega arith) (worth-xor f x 8 at h bytes) fits wraps clear k l in
    let none : bit_xor (f (at + k)) x ≡ 0 = ap (λ (y : ℕ). bit_xor y x) e ∙ xor_self x in
    absurd (omega arith)
