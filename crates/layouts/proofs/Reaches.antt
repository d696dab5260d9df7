-- Laws of `reaches`: a loop through the list of tables finds it, and only which tables occur in the list matters. Assumes nothing.
use mathlib.Core.Path.{◌≡◌, refl}
use mathlib.Core.Bool.{Bool, true, false, cond, ◌&&◌, ◌||◌}
use mathlib.Core.List.{List, [], ◌∷◌}
use Prim.Native.Nat.{ℕ, zero, suc, ◌-◌, ◌^◌, ◌<◌}
use native.Mathlib.Omega.{arith}
use borrow.Author.Tests.{lt-leb}
use lib.Dec.{T, leb, ltb, eqb, ltb→lt, eqb→eq, lit<}
use lib.ListN.{get_or}
use Rattle.std.specs.List.{list_any}
use Rattle.std.proofs.lemmas.List.Recursion.{same_from_clauses}
use Rattle.layouts.specs.Columns.{reaches, index_size}
use Rattle.layouts.specs.Lists.{all_below}

-- What a test of two parts says of each.
pub and_left : (a b : Bool) → T (a && b) → T a
and_left true b t = tt
and_left false b t = t

pub and_right : (a b : Bool) → T (a && b) → T b
and_right true b t = t
and_right false b t = absurd t

or_left : (a b : Bool) → T a → T (a || b)
or_left true b t = tt
or_left false b t = absurd t

or_right : (a b : Bool) → T b → T (a || b)
or_right true b t = tt
or_right false b t = t

or_cases : {G : Type 0} (a b : Bool) → T (a || b) → (T a → G) → (T b → G) → G
or_cases true b t f g = f tt
or_cases false b t f g = g t

same : (a b : Bool) → (T a → T b) → (T b → T a) → a ≡ b
same true true f g = refl
same true false f g = absurd (f tt)
same false true f g = absurd (g tt)
same false false f g = refl

told : (b : Bool) → b ≡ true → T b
told true e = tt
told false e = let z : ◌≡◌ {A = ℕ} 0 1 = cc in absurd (omega arith)

-- Whether table t has more rows than 16 bits less the tag can number, and the size of an index by whether std's test finds such a table.
abbrev pub reached_at : List ℕ → ℕ → ℕ → Bool
reached_at cs bits t = leb (2 ^ (16 - bits)) (get_or cs t 0)

pub size-by_any : (cs : List ℕ) (bits : ℕ) (ts : List ℕ) {r : Bool} → r ≡ list_any (reached_at cs bits) ts → index_size cs bits ts ≡ cond r 4 2
unfolding reaches index_size
size-by_any cs bits ts e =
    rw (e, same_from_clauses (reaches cs (2 ^ (16 - bits))) (list_any (reached_at cs bits)) (λ t b. reached_at cs bits t || b) refl (λ _ _. refl) (λ _ _. refl) ts)

below_at : (n : ℕ) → 0 < n → (ts : List ℕ) → T (all_below n ts) → (i : ℕ) → get_or ts i 0 < n
below_at n h [] t i = h
below_at n h (x ∷ ts) t zero = ltb→lt x n (and_left (ltb x n) (all_below n ts) t)
below_at n h (x ∷ ts) t (suc i) = below_at n h ts (and_right (ltb x n) (all_below n ts) t) i

pub below : (ts : List ℕ) → all_below 64 ts ≡ true → (i : ℕ) → get_or ts i 0 < 64
below ts t i = below_at 64 (lit< tt) ts (told (all_below 64 ts) t) i

-- Where every count is below n, no list reaches n.
pub small : (cs : List ℕ) (n : ℕ) → ((t : ℕ) → get_or cs t 0 < n) → (ts : List ℕ) → reaches cs n ts ≡ false
unfolding reaches
small cs n h [] = refl
small cs n h (t ∷ ts) = rw (lt-leb n (get_or cs t 0) (h t)) (small cs n h ts)

-- Whether every table of one list occurs in another.
abbrev pub occurs : ℕ → List ℕ → Bool
occurs t [] = false
occurs t (u ∷ us) = eqb t u || occurs t us

abbrev pub within : List ℕ → List ℕ → Bool
within [] us = true
within (t ∷ ts) us = occurs t us && within ts us

module _ (cs : List ℕ) (n : ℕ) where
  occurs-reaches : (t : ℕ) (us : List ℕ) → T (leb n (get_or cs t 0)) → T (occurs t us) → T (reaches cs n us)
  unfolding reaches
  occurs-reaches t [] h o = absurd o
  occurs-reaches t (u ∷ us) h o =
      or_cases (eqb t u) (occurs t us) o
      (λ e. or_left (leb n (get_or cs u 0)) (reaches cs n us) (rw (← eqb→eq t u e) h))
      (λ r. or_right (leb n (get_or cs u 0)) (reaches cs n us) (occurs-reaches t us h r))

  within-reaches : (ts us : List ℕ) → T (within ts us) → T (reaches cs n ts) → T (reaches cs n us)
  unfolding reaches
  within-reaches [] us w r = absurd r
  within-reaches (t ∷ ts) us w r =
      or_cases (leb n (get_or cs t 0)) (reaches cs n ts) r
      (λ h. occurs-reaches t us h (and_left (occurs t us) (within ts us) w))
      (λ h. within-reaches ts us (and_right (occurs t us) (within ts us) w) h)

  -- Two lists with the same tables reach the same.
  pub reordered : (ts us : List ℕ) → T (within ts us) → T (within us ts) → reaches cs n ts ≡ reaches cs n us
  reordered ts us v w = same (reaches cs n ts) (reaches cs n us) (within-reaches ts us v) (within-reaches us ts w)
