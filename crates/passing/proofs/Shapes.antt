-- Numbers, and the shape of an array, have no type bytes. Assumes nothing.
use mathlib.Core.Path.{◌≡◌, refl}
use mathlib.Core.Bool.{Bool, true, false, cond}
use mathlib.Core.List.{List, ◌∷◌}
use mathlib.Core.Option.{Option, none, some}
use Prim.Native.Nat.{ℕ, zero, suc, ◌+◌}
use native.Mathlib.Omega.{arith}
use lib.Dec.{ltb}
use lib.ListN.{length, get_or}
use Rattle.numbers.specs.Reading.{Reader, some_at, none_at, chain, give, ◌>>=◌, byte}
use Rattle.numbers.specs.Compressed.{packed, bits7, bits14, bits29, uint, sint}
use Rattle.record.specs.Readings.{times}
use Rattle.record.specs.Types.{shape}

abbrev pub Free : {A : Type 0} → Reader A → Type 0
Free p = (s : List ℕ) (at : ℕ) → (p s at).steps ≡ 0

bind-free : {A B : Type 0} (p : Reader A) (k : A → Reader B) → Free p → ((a : A) → Free (k a)) → Free (p >>= k)
bind-free {A} {B} p k f g s at = go (p s at).got (p s at).steps (f s at)
  where
    go : (o : Option A) (n : ℕ) → n ≡ 0 → (chain o (p s at).next n (λ a next. k a s next)).steps ≡ 0
    go none n z = z
    go (some a) n z = let y = g a s (p s at).next in omega (arith, y, z)

cond-free : {A : Type 0} (t : Bool) (p r : Reader A) → Free p → Free r → Free (cond t p r)
cond-free true p r f g = f
cond-free false p r f g = g

pub byte-free : Free byte
byte-free s at = by (ltb at (length s))
  where
    by : (t : Bool) → (cond t (some_at (get_or s at 0) (at + 1)) (none_at at)).steps ≡ 0
    by true = refl
    by false = refl

packed-free : Free packed
unfolding packed bits7 bits14 bits29
packed-free = bind-free byte _ byte-free (λ a. cond-free (ltb a 0x80) _ _ (λ s at. refl)
    (cond-free (ltb a 0xC0) _ _ (bind-free byte _ byte-free (λ b s at. refl))
    (cond-free (ltb a 0xE0) _ _ (bind-free byte _ byte-free (λ b. bind-free byte _ byte-free (λ c. bind-free byte _ byte-free (λ d s at. refl)))) (λ s at. refl))))

pub uint-free : Free uint
unfolding uint
uint-free = bind-free packed _ packed-free (λ p s at. refl)

pub sint-free : Free sint
unfolding sint
sint-free = bind-free packed _ packed-free (λ p s at. refl)

times-free : {A : Type 0} (n : ℕ) (p : Reader A) → Free p → Free (times n p)
unfolding times
times-free zero p f s at = refl
times-free (suc n) p f s at =
    bind-free p (λ a. times n p >>= (λ xs. give (a ∷ xs))) f (λ a. bind-free (times n p) (λ xs. give (a ∷ xs)) (times-free n p f) (λ xs s at. refl)) s at

pub shape_free : Free shape
unfolding shape
shape_free = bind-free uint _ uint-free (λ r. bind-free uint _ uint-free (λ n. bind-free (times n uint) _ (times-free n uint uint-free) (λ ks.
    bind-free uint _ uint-free (λ m. bind-free (times m sint) _ (times-free m sint sint-free) (λ ls s at. refl)))))
