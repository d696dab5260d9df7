-- A method's signature and a function pointer read the same bytes: what one comes to, so does the other. Assumes nothing.
use mathlib.Core.Path.{◌≡◌, refl, sym, ap, subst, ◌∙◌}
use mathlib.Core.List.{List, ◌++◌, ◌∷◌}
use mathlib.Core.Option.{Option, none, some}
use Prim.Native.Nat.{ℕ, zero, suc, ◌+◌}
use native.Mathlib.Omega.{arith}
use Rattle.numbers.specs.Reading.{Res, Reader, some_at, chain, give, ◌>>=◌}
use Rattle.heaps.specs.Lookups.{is_there}
use Rattle.buffers.specs.Texts.{Text, q}
use Rattle.record.specs.Readings.{attempt}
use Rattle.record.specs.Types.{Env, method_start, shown, parameters, fn_ptr, type}
use Rattle.record.specs.Names.{levels}
use Rattle.record.specs.Methods.{Signature, tries, signature}
use Rattle.std.specs.Prelude.{Some}
use Rattle.passing.specs.Passing.{Passage, Passes, over, failed, spent}
use Rattle.passing.specs.declared.Passed.TheVariants.{Over, Failed}
use Rattle.passing.proofs.Laws.{When}

-- Both have a value or none, end at one place, and read as many type bytes.
pub record Like {A B : Type 0} (d : Res A) (f : Res B) : Type 0 where
  pub there : is_there d.got ≡ is_there f.got
  pub next : d.next ≡ f.next
  pub steps : d.steps ≡ f.steps

like-passes : {A B : Type 0} (d : Res A) (f : Res B) → Like d f → {steps : ℕ} {r : Passage} → Passes d steps r → Passes f steps r
like-passes {A} {B} d f h {steps} (over {next = n} {left = l} a g o e) = go f.got refl
  where
    go : (x : Option B) → f.got ≡ x → Passes f steps (Some (Over n l))
    go none y = absurd (subst When (sym (ap is_there g) ∙ h.there ∙ ap is_there y) tt)
    go (some b) y = over {left = l} b y (sym h.next ∙ o) (omega (arith, h.steps, e))
like-passes {A} {B} d f h {steps} (failed {next = n} {left = l} g o e) = go f.got refl
  where
    go : (x : Option B) → f.got ≡ x → Passes f steps (Some (Failed n l))
    go none y = failed {left = l} y (sym h.next ∙ o) (omega (arith, h.steps, e))
    go (some b) y = absurd (subst When (sym (ap is_there y) ∙ sym h.there ∙ ap is_there g) tt)
like-passes d f h (spent e) = spent (omega (arith, h.steps, e))

-- What follows the same reading.
bind-like : {A B C : Type 0} (p : Reader A) (k : A → Reader B) (m : A → Reader C) (s : List ℕ) (at : ℕ)
    → ((a : A) (i : ℕ) → Like (k a s i) (m a s i)) → Like ((p >>= k) s at) ((p >>= m) s at)
bind-like {A} p k m s at h = go (p s at).got
  where
    go : (o : Option A) → Like (chain o (p s at).next (p s at).steps (λ a next. k a s next)) (chain o (p s at).next (p s at).steps (λ a next. m a s next))
    go none = record { there = refl; next = refl; steps = refl }
    go (some a) = let y = h a (p s at).next in record { there = y.there; next = y.next; steps = ap (λ (n : ℕ). (p s at).steps + n) y.steps }

-- Values made of two.
made-like : {A B C D : Type 0} (p : Reader A) (r : Reader B) (f : A → C) (g : B → D) (s : List ℕ) (at : ℕ) → Like (p s at) (r s at)
    → Like ((p >>= (λ a. give (f a))) s at) ((r >>= (λ b. give (g b))) s at)
made-like {A} {B} p r f g s at h = go (p s at).got (r s at).got h.there
  where
    go : (o : Option A) (x : Option B) → is_there o ≡ is_there x
        → Like (chain o (p s at).next (p s at).steps (λ a to. some_at (f a) to)) (chain x (r s at).next (r s at).steps (λ b to. some_at (g b) to))
    go none none e = record { there = refl; next = h.next; steps = h.steps }
    go none (some b) e = absurd (subst When (sym e) tt)
    go (some a) none e = absurd (subst When e tt)
    go (some a) (some b) e = record { there = refl; next = h.next; steps = ap (λ (n : ℕ). n + 0) h.steps }

module _ (p : Reader Text) (s : List ℕ) where
  parameters-like : (n i at : ℕ) → Like (parameters n i p s at) (tries n p s at)
  unfolding parameters tries
  parameters-like zero i at = record { there = refl; next = refl; steps = refl }
  parameters-like (suc n) i at =
      bind-like (attempt p) (λ t. parameters n (i + 1) p >>= (λ ts. give (shown i t ++ ts))) (λ t. tries n p >>= (λ ts. give (t ∷ ts))) s at
      (λ t j. made-like (parameters n (i + 1) p) (tries n p) (λ ts. shown i t ++ ts) (λ ts. t ∷ ts) s j (parameters-like n (i + 1) j))

-- A method's signature is like a function pointer's.
abbrev typed : Reader Text → ℕ → Text → Reader Text
typed p n t = parameters n 0 p >>= (λ ts. give (q "FnPtr<" ++ t ++ q "(" ++ ts ++ q ")>"))

abbrev signed : Reader Text → ℕ → Text → Reader Signature
signed p n t = tries n p >>= (λ ts. give (record { returns = t; parameters = ts }))

module _ (e : Env) (s : List ℕ) (at : ℕ) where
  pub signature-like : Like (fn_ptr (type e levels) s at) (signature e s at)
  unfolding fn_ptr signature
  signature-like =
      let T = type e levels in
      bind-like method_start (λ n. T >>= typed T n) (λ n. T >>= signed T n) s at
      (λ n i. bind-like T (typed T n) (signed T n) s i
      (λ t j. made-like (parameters n 0 T) (tries n T) (λ ts. q "FnPtr<" ++ t ++ q "(" ++ ts ++ q ")>") (λ ts. record { returns = t; parameters = ts }) s j
      (parameters-like T s n 0 j)))

  pub signature-passes : {steps : ℕ} {r : Passage} → Passes (fn_ptr (type e levels) s at) steps r → Passes (signature e s at) steps r
  signature-passes h = like-passes (fn_ptr (type e levels) s at) (signature e s at) signature-like h
