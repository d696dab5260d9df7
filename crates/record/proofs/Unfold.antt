-- The number of bytes left in `within` only says that the recursion ends: any number that is large enough gives the same answer,
-- and `type` meets the equation that one would write without that number (`type-is`). Assumes nothing.
use mathlib.Core.Path.{◌≡◌, refl, sym, ◌∙◌, ap}
use mathlib.Core.Bool.{Bool, true, false, cond}
use mathlib.Core.List.{List, [], ◌∷◌}
use mathlib.Core.Option.{Option, none, some}
use Prim.Native.Nat.{ℕ, zero, suc, ◌+◌, ◌-◌, ◌≤◌, ◌<◌}
use native.Mathlib.Nat.{le_refl, le_trans}
use native.Mathlib.Omega.{arith}
use borrow.Author.Tests.{ltb-true, le-ltb}
use lib.Dec.{ltb, eqb}
use lib.ListN.{length, get_or}
use Rattle.numbers.specs.Reading.{Res, Reader, fail, give, after, chain, ◌>>=◌}
use Rattle.record.specs.Readings.{known, type_byte}
use Rattle.numbers.specs.Compressed.{uint}
use Rattle.buffers.specs.Texts.{Text}
use Rattle.record.specs.Types.{Env, look, arguments, form, around, class_type, generic, array, instance, fn_ptr, modified, within, type, simple}
use Rattle.numbers.proofs.Reading.{Onward}
use Rattle.numbers.proofs.Compressed.{uint-onward}
use Rattle.record.proofs.Onward.{arguments-onward, within-onward, type-onward}

-- two readers agree on s from a position on
pub record Alike {A : Type 0} (s : List ℕ) (at : ℕ) (p r : Reader A) : Type 0 where
  pub on : (i : ℕ) → at ≤ i → p s i ≡ r s i

chain-alike : {A B : Type 0} {at : ℕ} (o : Option A) (n m : ℕ) (k l : A → ℕ → Res B) → at ≤ n → ((a : A) (i : ℕ) → at ≤ i → k a i ≡ l a i) → chain o n m k ≡ chain o n m l
chain-alike none n m k l h f = refl
chain-alike (some a) n m k l h f = ap (after m) (f a n h)

-- two tables with the same numbers whose readers agree
data Rows (s : List ℕ) (at : ℕ) : List (ℕ × Reader Text) → List (ℕ × Reader Text) → Type 0 where
  none_left : Rows s at [] []
  and-row : {k : ℕ} {p p' : Reader Text} {ps ps' : List (ℕ × Reader Text)} → Alike s at p p' → Rows s at ps ps' → Rows s at ((k, p) ∷ ps) ((k, p') ∷ ps')

module _ {s : List ℕ} {at : ℕ} where
  pub itself : {A : Type 0} (p : Reader A) → Alike s at p p
  itself p = record { on = λ i h. refl }

  cond-alike : {A : Type 0} (t : Bool) {p r p' r' : Reader A} → Alike s at p p' → Alike s at r r' → Alike s at (cond t p r) (cond t p' r')
  cond-alike true f g = f
  cond-alike false f g = g

  module _ {A B : Type 0} where
    pub bind-alike : {p p' : Reader A} {k k' : A → Reader B} → Onward p → Alike s at p p' → ((a : A) → Alike s at (k a) (k' a)) → Alike s at (p >>= k) (p' >>= k')
    bind-alike {p} {p'} {k} {k'} f g h = record {
      on = λ i le.
          chain-alike (p s i).got (p s i).next (p s i).steps (λ a n. k a s n) (λ a n. k' a s n) (le_trans le (f.ahead s i).from) (λ a. (h a).on)
          ∙ ap (λ (r : Res A). chain r.got r.next r.steps (λ a n. k' a s n)) (g.on i le);
    }

  arguments-alike : (n i : ℕ) {p p' : Reader Text} → Onward p → Alike s at p p' → Alike s at (arguments n i p) (arguments n i p')
  unfolding arguments
  arguments-alike zero i f g = itself (give [])
  arguments-alike (suc n) i f g = bind-alike f g (λ t. bind-alike (arguments-onward n (i + 1) f) (arguments-alike n (i + 1) f g) (λ ts. itself (give _)))

  look-alike : (b : ℕ) {ps ps' : List (ℕ × Reader Text)} (d : Reader Text) → Rows s at ps ps' → Alike s at (look b ps d) (look b ps' d)
  unfolding look
  look-alike b d none_left = itself d
  look-alike b d (and-row {k = k} f r) = cond-alike (eqb b k) f (look-alike b d r)

  around-alike : (x y : Text) {p p' : Reader Text} → Onward p → Alike s at p p' → Alike s at (around x y p) (around x y p')
  unfolding around
  around-alike x y f g = bind-alike f g (λ t. itself (give _))

  instance-alike : {p p' : Reader Text} → Onward p → Alike s at p p' → Alike s at (instance p) (instance p')
  unfolding instance
  instance-alike f g = bind-alike f g (λ t. bind-alike uint-onward (itself uint) (λ n. cond-alike (ltb 1000 n) (itself fail) (bind-alike (arguments-onward n 0 f) (arguments-alike n 0 f g) (λ ts. itself (give _)))))

  -- only the readings of the same level differ
  pub form-alike : (e : Env) (d : Reader Text) {p p' : Reader Text} (b : ℕ) → Onward p → Alike s at p p' → Alike s at (form e d p b) (form e d p' b)
  unfolding form modified
  form-alike e d b f g = look-alike b (known (simple b))
      (and-row (itself (around _ _ d)) (and-row (itself (around _ _ d)) (and-row (itself (class_type e d)) (and-row (itself (class_type e d))
      (and-row (itself (generic e.generics)) (and-row (itself (array d)) (and-row (instance-alike f g) (and-row (itself (fn_ptr d))
      (and-row (around-alike _ _ f g) (and-row (itself (generic e.mgenerics))
      (and-row (bind-alike uint-onward (itself uint) (λ _. g)) (and-row (bind-alike uint-onward (itself uint) (λ _. g)) none_left))))))))))))

-- a type byte and what follows it: the readings at the same level need to agree only past the byte
module _ (e : Env) (d : Reader Text) (s : List ℕ) (at : ℕ) where
  typed : Reader Text → Res Text
  typed p = (type_byte >>= (λ b. form e d p b)) s at

  typed-alike : (p r : Reader Text) → Onward p → (at < length s → Alike s (at + 1) p r) → typed p ≡ typed r
  unfolding typed
  typed-alike p r f g = go (ltb at (length s)) refl
    where
      go : (t : Bool) → ltb at (length s) ≡ t → typed p ≡ typed r
      go true q = rw q (ap (after 1) ((form-alike e d (get_or s at 0) f (g (ltb-true at (length s) q))).on (at + 1) (le_refl (at + 1))))
      go false q = rw q refl

  typed-none : (p : Reader Text) → length s ≤ at → typed p ≡ fail s at
  unfolding typed
  typed-none p h = rw (le-ltb at (length s) h) refl

pub within-enough : (e : Env) (d : Reader Text) → Onward d → (n m : ℕ) (s : List ℕ) (at : ℕ) → length s - at ≤ n → length s - at ≤ m
    → within e d n s at ≡ within e d m s at
unfolding within typed
within-enough e d f zero zero s at h₁ h₂ = refl
within-enough e d f zero (suc m) s at h₁ h₂ = sym (typed-none e d s at (within e d m) (omega arith))
within-enough e d f (suc n) zero s at h₁ h₂ = typed-none e d s at (within e d n) (omega arith)
within-enough e d f (suc n) (suc m) s at h₁ h₂ = typed-alike e d s at (within e d n) (within e d m) (within-onward e n f)
    (λ lt. record { on = λ i le. within-enough e d f n m s i (omega arith) (omega arith) })

-- the equation of `type`, with no number of bytes in it
pub type-is : (e : Env) (l : ℕ) (s : List ℕ) (at : ℕ) → type e (suc l) s at ≡ (type_byte >>= (λ b. form e (type e l) (type e (suc l)) b)) s at
unfolding type within typed
type-is e l s at = within-enough e (type e l) (type-onward e l) (length s - at) (suc (length s - at)) s at (le_refl _) (omega arith)
    ∙ typed-alike e (type e l) s at (within e (type e l) (length s - at)) (type e (suc l)) (within-onward e (length s - at) (type-onward e l))
    (λ lt. record { on = λ i le. within-enough e (type e l) (type-onward e l) (length s - at) (length s - i) s i (omega arith) (le_refl _) })
