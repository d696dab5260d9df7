-- The ways through a number that is refused above a bound, and through what stands before a method's types: each starts from an answer
-- of the code. Also that a generic type is read by the number of its arguments (`instance-is`). Assumes nothing.
use mathlib.Core.Path.{◌≡◌, refl, sym, ap, ◌∙◌}
use mathlib.Core.Bool.{Bool, true, false, cond}
use mathlib.Core.List.{List, ◌++◌}
use mathlib.Core.Option.{Option, none, some}
use Prim.Native.Nat.{ℕ, ◌+◌, ◌/◌, ◌%◌, ◌≤◌, ◌<◌}
use native.Mathlib.Nat.{add-zero, add_assoc}
use borrow.Author.Tests.{eq-eqb, ne_eqb, lt-ltb, le-ltb}
use lib.Dec.{ltb}
use lib.ListN.{length, get_or}
use Rattle.numbers.specs.Reading.{Res, Reader, some_at, none_at, after, chain, give, ◌>>=◌}
use Rattle.numbers.specs.Compressed.{Uint, uint, uint_says}
use Rattle.buffers.specs.Texts.{Text, q}
use Rattle.record.specs.Types.{unless, counted, method_start, arguments, instance}
use Rattle.sig_reader.specs.Numbers.{next_number}
use Rattle.sig_reader.proofs.Numbers.{after_none}
use Rattle.sig_leaves.specs.Leaves.{bounded, up_to, argument_count}
use Rattle.std.specs.Prelude.{Ok, Err}

module _ (most : ℕ) {u : Uint} where
  pub bounded-none : {next : ℕ} → u ≡ Err next → none_at next ≡ bounded most u
  bounded-none e = rw e

  pub bounded-over : {n next : ℕ} → u ≡ Ok (n, next) → most < n → none_at next ≡ bounded most u
  bounded-over {n} e h = rw (e, lt-ltb most n h)

  pub bounded-some : {n next : ℕ} → u ≡ Ok (n, next) → n ≤ most → some_at n next ≡ bounded most u
  bounded-some {n} e h = rw (e, le-ltb most n h)

-- An answer that is refused above a bound, and the reading that does so.
module _ (most : ℕ) (s : List ℕ) where
  bound-is : (x : Bool) (n next : ℕ) → cond x (none_at next) (some_at n next) ≡ unless x (give n) s next
  bound-is true n next = refl
  bound-is false n next = refl

  bounded-is : (p : Reader ℕ) (at : ℕ) (u : Uint) → uint_says u ≡ p s at → bounded most u ≡ (p >>= (λ n. unless (ltb most n) (give n))) s at
  bounded-is p at (Ok (n, next)) e = rw (← e) (bound-is (ltb most n) n next ∙ after_none _)
  bounded-is p at (Err next) e = rw (← e)

pub up-to-is : (most : ℕ) (s : List ℕ) (at : ℕ) (u : Uint) → uint_says u ≡ uint s at → bounded most u ≡ up_to most s at
unfolding up_to
up-to-is most s at u e = bounded-is most s uint at u e

counted_is : (s : List ℕ) (at : ℕ) → up_to 2000 s at ≡ counted s at
unfolding up_to counted
counted_is s at = refl

-- Type bytes that are read before a reading count with those that are read before it goes on.
after-chain : (o : Option ℕ) (next m n : ℕ) (k : ℕ → ℕ → Res ℕ) → after m (chain o next n k) ≡ chain o next (m + n) k
after-chain none next m n k = refl
after-chain (some a) next m n k = ap (λ (x : ℕ). record { got = (k a next).got; next = (k a next).next; steps = x }) (sym (add_assoc m n (k a next).steps))

-- The number of parameters after another number is the number after that, refused above 2,000.
module _ (s : List ℕ) where
  after-another : (o : Option ℕ) (next m : ℕ)
      → (let v = chain o next m (λ _ to. uint s to) in chain v.got v.next v.steps (λ n to. unless (ltb 2000 n) (give n) s to)) ≡ chain o next m (λ _ to. counted s to)
  unfolding counted
  after-another none next m = refl
  after-another (some a) next m = sym (after-chain (uint s next).got (uint s next).next m (uint s next).steps (λ n to. unless (ltb 2000 n) (give n) s to))

  counted-after : (at : ℕ) → (next_number >>= (λ n. unless (ltb 2000 n) (give n))) s at ≡ (uint >>= (λ _. counted)) s at
  unfolding next_number
  counted-after at = after-another (uint s at).got (uint s at).next (uint s at).steps

module _ (s : List ℕ) (at : ℕ) where
  pub start-end : length s ≤ at → none_at at ≡ method_start s at
  unfolding method_start
  start-end h = rw (le-ltb at (length s) h)

  module _ (h : at < length s) where
    pub start_plain : (get_or s at 0 / 16 % 2 ≡ 1 → ⊥) → (r : Uint) → uint_says r ≡ up_to 2000 s (at + 1) → uint_says r ≡ method_start s at
    unfolding method_start
    start_plain f r k =
        let e : uint_says r ≡ counted s (at + 1) = k ∙ counted_is s (at + 1) in
        rw (lt-ltb at (length s) h, ne_eqb (get_or s at 0 / 16 % 2) 1 f, ← e) (after_none _ ∙ after_none _)

    module _ (f : get_or s at 0 / 16 % 2 ≡ 1) where
      start-flagged : after 0 ((uint >>= (λ _. counted)) s (at + 1)) ≡ method_start s at
      unfolding method_start
      start-flagged = rw (lt-ltb at (length s) h, eq-eqb (get_or s at 0 / 16 % 2) 1 f)

      pub start-generic : (u : Uint) → uint_says u ≡ next_number s (at + 1) → bounded 2000 u ≡ method_start s at
      start-generic u e = bounded-is 2000 s next_number (at + 1) u e ∙ (counted-after s (at + 1) ∙ (after_none _ ∙ start-flagged))

-- A reading that goes on with a number where it is not refused.
module _ {B : Type 0} (most : ℕ) (k : ℕ → Reader B) (s : List ℕ) where
  allowed : (x : Bool) (n next m : ℕ)
      → after m (unless x (k n) s next) ≡ (let v = after m (unless x (give n) s next) in chain v.got v.next v.steps (λ a to. k a s to))
  allowed true n next m = refl
  allowed false n next m = ap (λ (x : ℕ). after x (k n s next)) (sym (add-zero m))

  read-on : (o : Option ℕ) (next m : ℕ)
      → chain o next m (λ n to. unless (ltb most n) (k n) s to)
      ≡ (let v = chain o next m (λ n to. unless (ltb most n) (give n) s to) in chain v.got v.next v.steps (λ a to. k a s to))
  read-on none next m = refl
  read-on (some n) next m = allowed (ltb most n) n next m

  pub up-to-then : (at : ℕ) → (uint >>= (λ n. unless (ltb most n) (k n))) s at ≡ (up_to most >>= k) s at
  unfolding up_to
  up-to-then at = read-on (uint s at).got (uint s at).next (uint s at).steps

-- A generic type, by the number of its arguments.
chain-alike : {A B : Type 0} (o : Option A) (next m : ℕ) (f g : A → ℕ → Res B) → ((a : A) (to : ℕ) → f a to ≡ g a to) → chain o next m f ≡ chain o next m g
chain-alike none next m f g e = refl
chain-alike (some a) next m f g e = ap (after m) (e a next)

-- Its arguments, and the text of the whole, where t is that of its first type.
abbrev pub instance_of : Reader Text → Text → ℕ → Reader Text
instance_of same t n = arguments n 0 same >>= (λ ts. give (t ++ q "<" ++ ts ++ q ">"))

pub instance-is : (same : Reader Text) (s : List ℕ) (at : ℕ) → instance same s at ≡ (same >>= (λ t. argument_count >>= instance_of same t)) s at
unfolding instance
instance-is same s at =
    chain-alike (same s at).got (same s at).next (same s at).steps _ _ (λ t to. up-to-then 1000 (instance_of same t) s to)
