-- How many type bytes a signature has at most: each of its bytes is read as one once, and may begin the name of a TypeSpec row, whose types
-- stand elsewhere. Where no byte begins such a name there are at most as many as bytes. Assumes nothing.
use mathlib.Core.Path.{◌≡◌, refl, sym, ap, subst, ◌∙◌}
use mathlib.Core.Bool.{Bool, true, false, cond}
use mathlib.Core.List.{List, [], ◌∷◌, ◌++◌}
use mathlib.Core.Option.{Option, none, some, some-injective}
use Prim.Native.Nat.{ℕ, zero, suc, ◌+◌, ◌-◌, ◌*◌, ◌/◌, ◌%◌, ◌≤◌, ◌<◌}
use native.Mathlib.Decide.{dec_le}
use native.Mathlib.Nat.{mul-add, mul-one, mul-le-mul_left}
use native.Mathlib.Omega.{arith}
use lib.Dec.{ltb, eqb}
use lib.ListN.{length, get_or}
use Rattle.numbers.specs.Reading.{Res, Reader, some_at, none_at, chain, give, fail, ◌>>=◌, byte}
use Rattle.numbers.specs.Compressed.{uint, sint}
use Rattle.numbers.proofs.Pick.{pick-eq, pick-lt, by-lt}
use Rattle.numbers.proofs.Reading.{Onward, give-onward, byte-onward, bind-onward}
use Rattle.numbers.proofs.Compressed.{uint-onward, sint-onward}
use Rattle.buffers.specs.Texts.{Text}
use Rattle.heaps.specs.Lookups.{is_there}
use Rattle.record.specs.Readings.{known, attempt, times}
use Rattle.record.specs.Types.{Env, look, type_full_name, counted, method_start, arguments, shown, parameters, around, class_type, generic, shape, array, modified, instance, fn_ptr, form, within, type}
use Rattle.record.specs.Names.{levels}
use Rattle.record.specs.Methods.{signature}
use Rattle.record.proofs.Onward.{method_start-onward, parameters-onward, type-onward}
use Rattle.passing.specs.Passing.{NamesSpec, Suffices, SpecsWithin}
use Rattle.passing.proofs.Laws.{When, passes-failed}
use Rattle.passing.proofs.Forms.{type-past}
use Rattle.passing.proofs.Shapes.{Free, byte-free, uint-free, sint-free}
use Rattle.passing.proofs.Methods.{signature-like}

pointer-onward : (e : Env) → Onward (fn_ptr (type e levels))
unfolding fn_ptr
pointer-onward e =
    bind-onward method_start-onward (λ n. bind-onward (type-onward e levels) (λ t. bind-onward (parameters-onward n 0 (type-onward e levels)) (λ ts. give-onward _)))

-- A name that no TypeSpec row has takes no step.
name_free : (e : Env) (d : Reader Text) (i : ℕ) → (i % 4 ≡ 2 → ⊥) → (type_full_name e d i).steps ≡ 0
unfolding type_full_name look
name_free e d i other =
    pick-eq (λ (r : Res Text). r.steps ≡ 0) (i % 4) 0 (λ _. refl)
    (λ _. pick-eq (λ (r : Res Text). r.steps ≡ 0) (i % 4) 1 (λ _. refl)
    (λ _. pick-eq (λ (r : Res Text). r.steps ≡ 0) (i % 4) 2 (λ x. absurd (other x)) (λ _. refl)))

-- A byte pays for its own step, and for as many as the row may take that it names.
unfoldable price : ℕ → ℕ → ℕ
price most n = (most + 1) * n

price-next : (most n : ℕ) → price most (n + 1) ≡ price most n + (most + 1)
unfolding price
price-next most n = mul-add (most + 1) n 1 ∙ ap (λ (x : ℕ). (most + 1) * n + x) (mul-one (most + 1))

price-up : (most : ℕ) {m n : ℕ} → m ≤ n → price most m ≤ price most n
unfolding price
price-up most h = mul-le-mul_left (most + 1) h

price-one : (n : ℕ) → price 0 n ≡ n
unfolding price
price-one n = omega arith

module _ (s : List ℕ) (most : ℕ) where
  -- What is read from a position has no more type bytes than its bytes pay for; and from every position.
  abbrev Spends : {A : Type 0} → Res A → ℕ → Type 0
  Spends r at = r.steps + price most at ≤ price most r.next

  record Frugal {A : Type 0} (p : Reader A) : Type 0 where
    spends : (at : ℕ) → Spends (p s at) at

  stays : (at : ℕ) → 0 + price most at ≤ price most at
  stays at = omega arith

  give-frugal : {A : Type 0} (a : A) → Frugal (give a)
  give-frugal a = record { spends = stays }

  fail-frugal : {A : Type 0} → Frugal (fail {A = A})
  fail-frugal = record { spends = stays }

  known-frugal : {A : Type 0} (o : Option A) → Frugal (known o)
  known-frugal o = record { spends = stays }

  attempt-frugal : {A : Type 0} {p : Reader A} → Frugal p → Frugal (attempt p)
  attempt-frugal f = record { spends = f.spends }

  cond-frugal : {A : Type 0} (t : Bool) {p r : Reader A} → Frugal p → Frugal r → Frugal (cond t p r)
  cond-frugal true f g = f
  cond-frugal false f g = g

  free-frugal : {A : Type 0} (p : Reader A) → Free p → Onward p → Frugal p
  free-frugal p f o = record { spends = λ at. omega (arith, f s at, price-up most (o.ahead s at).from) }

  chain-spends : {A B : Type 0} (at : ℕ) (o : Option A) (next steps : ℕ) (k : A → Reader B) → steps + price most at ≤ price most next → ((a : A) → Frugal (k a))
      → Spends (chain o next steps (λ a n. k a s n)) at
  chain-spends at none next steps k h g = h
  chain-spends at (some a) next steps k h g = omega (arith, h, (g a).spends next)

  bind-frugal : {A B : Type 0} {p : Reader A} {k : A → Reader B} → Frugal p → ((a : A) → Frugal (k a)) → Frugal (p >>= k)
  bind-frugal {p = p} {k = k} f g = record { spends = λ at. chain-spends at (p s at).got (p s at).next (p s at).steps k (f.spends at) g }

  byte-frugal : Frugal byte
  byte-frugal = free-frugal byte byte-free byte-onward

  uint-frugal : Frugal uint
  uint-frugal = free-frugal uint uint-free uint-onward

  sint-frugal : Frugal sint
  sint-frugal = free-frugal sint sint-free sint-onward

  times-frugal : {A : Type 0} (n : ℕ) {p : Reader A} → Frugal p → Frugal (times n p)
  unfolding times
  times-frugal zero f = give-frugal []
  times-frugal (suc n) f = bind-frugal f (λ a. bind-frugal (times-frugal n f) (λ xs. give-frugal (a ∷ xs)))

  shape-frugal : Frugal shape
  unfolding shape
  shape-frugal = bind-frugal uint-frugal (λ r. bind-frugal uint-frugal (λ n. bind-frugal (times-frugal n uint-frugal) (λ ks.
      bind-frugal uint-frugal (λ m. bind-frugal (times-frugal m sint-frugal) (λ ls. give-frugal _)))))

  start-frugal : Frugal method_start
  unfolding method_start counted
  start-frugal = bind-frugal byte-frugal (λ b. bind-frugal (cond-frugal (eqb (b / 16 % 2) 1) uint-frugal (give-frugal 0)) (λ _.
      bind-frugal uint-frugal (λ n. cond-frugal (ltb 2000 n) fail-frugal (give-frugal n))))

  module _ {p : Reader Text} (f : Frugal p) where
    arguments-frugal : (n i : ℕ) → Frugal (arguments n i p)
    unfolding arguments
    arguments-frugal zero i = give-frugal []
    arguments-frugal (suc n) i = bind-frugal f (λ t. bind-frugal (arguments-frugal n (i + 1)) (λ ts. give-frugal _))

    parameters-frugal : (n i : ℕ) → Frugal (parameters n i p)
    unfolding parameters
    parameters-frugal zero i = give-frugal []
    parameters-frugal (suc n) i = bind-frugal (attempt-frugal f) (λ t. bind-frugal (parameters-frugal n (i + 1)) (λ ts. give-frugal (shown i t ++ ts)))

    around-frugal : (u v : Text) → Frugal (around u v p)
    unfolding around
    around-frugal u v = bind-frugal f (λ t. give-frugal _)

    array-frugal : Frugal (array p)
    unfolding array
    array-frugal = bind-frugal f (λ t. bind-frugal shape-frugal (λ d. give-frugal _))

    instance-frugal : Frugal (instance p)
    unfolding instance
    instance-frugal =
        bind-frugal f (λ t. bind-frugal uint-frugal (λ n. cond-frugal (ltb 1000 n) fail-frugal (bind-frugal (arguments-frugal n 0) (λ ts. give-frugal _))))

    pointer-frugal : Frugal (fn_ptr p)
    unfolding fn_ptr
    pointer-frugal = bind-frugal start-frugal (λ n. bind-frugal f (λ t. bind-frugal (parameters-frugal n 0) (λ ts. give-frugal _)))

    modified-frugal : Frugal (modified p)
    unfolding modified
    modified-frugal = bind-frugal uint-frugal (λ _. f)

  generic-frugal : (name : ℕ → Option Text) → Frugal (generic name)
  unfolding generic
  generic-frugal name = bind-frugal uint-frugal (λ i. known-frugal (name i))

  -- Behind a type byte, which has paid for a row.
  abbrev Behind : Res Text → ℕ → Type 0
  Behind r at = r.steps + price most at ≤ price most r.next + most

  behind : {p : Reader Text} → Frugal p → (at : ℕ) → Behind (p s at) at
  behind f at = omega (arith, f.spends at)

  -- Every row of a table, where the number is the row's.
  data Rows (b at : ℕ) : List (ℕ × Reader Text) → Type 0 where
    none_left : Rows b at []
    and-row : {k : ℕ} {p : Reader Text} {ps : List (ℕ × Reader Text)} → (b ≡ k → Behind (p s at) at) → Rows b at ps → Rows b at ((k, p) ∷ ps)

  look-behind : (b at : ℕ) {ps : List (ℕ × Reader Text)} (d : Reader Text) → Rows b at ps → Behind (d s at) at → Behind (look b ps d s at) at
  unfolding look
  look-behind b at d none_left g = g
  look-behind b at d (and-row {k = k} f r) g = pick-eq (λ (p : Reader Text). Behind (p s at) at) b k f (λ _. look-behind b at d r g)

  module _ (e : Env) where
    -- Whatever row a type byte names, by a reader of the types that stand there, so many steps suffice for it.
    abbrev Names : Reader Text → Type 0
    Names d = (at i : ℕ) → at < length s → 0x11 ≤ get_or s at 0 → get_or s at 0 < 0x13 → (uint s (at + 1)).got ≡ some i → (type_full_name e d i).steps ≤ most

    module _ {d : Reader Text} (hd : Frugal d) (names : Names d) where
      class-behind : (at : ℕ) → at < length s → 0x11 ≤ get_or s at 0 → get_or s at 0 < 0x13 → Behind (class_type e d s (at + 1)) (at + 1)
      unfolding class_type
      class-behind at lt lo hi = go (uint s (at + 1)).got refl
        where
          go : (o : Option ℕ) → (uint s (at + 1)).got ≡ o
              → Behind (chain o (uint s (at + 1)).next (uint s (at + 1)).steps (λ i next. record { got = (type_full_name e d i).got; next = next; steps = (type_full_name e d i).steps })) (at + 1)
          go none x = omega (arith, uint-frugal.spends (at + 1))
          go (some i) x = omega (arith, uint-frugal.spends (at + 1), names at i lt lo hi x)

      form-behind : {p : Reader Text} → Frugal p → (at : ℕ) → at < length s → Behind (form e d p (get_or s at 0) s (at + 1)) (at + 1)
      unfolding form
      form-behind hp at lt = look-behind (get_or s at 0) (at + 1) _
          (and-row (λ _. behind (around-frugal hd _ _) (at + 1)) (and-row (λ _. behind (around-frugal hd _ _) (at + 1))
          (and-row (λ x. class-behind at lt (omega (arith, x)) (omega (arith, x))) (and-row (λ x. class-behind at lt (omega (arith, x)) (omega (arith, x)))
          (and-row (λ _. behind (generic-frugal e.generics) (at + 1)) (and-row (λ _. behind (array-frugal hd) (at + 1))
          (and-row (λ _. behind (instance-frugal hp) (at + 1)) (and-row (λ _. behind (pointer-frugal hd) (at + 1))
          (and-row (λ _. behind (around-frugal hp _ _) (at + 1)) (and-row (λ _. behind (generic-frugal e.mgenerics) (at + 1))
          (and-row (λ _. behind (modified-frugal hp) (at + 1)) (and-row (λ _. behind (modified-frugal hp) (at + 1)) none_left))))))))))))
          (behind fail-frugal (at + 1))

      within-frugal : (n : ℕ) → Frugal (within e d n)
      unfolding within
      within-frugal zero = fail-frugal
      within-frugal (suc n) = record {
        spends = λ at. pick-lt (λ (r : Res ℕ). Spends (chain r.got r.next r.steps (λ b next. form e d (within e d n) b s next)) at) at (length s)
            (λ lt. omega (arith, form-behind (within-frugal n) at lt, price-next most at)) (λ _. stays at);
      }

    module _ (names : (l : ℕ) → Names (type e l)) where
      type-frugal : (l : ℕ) → Frugal (type e l)
      unfolding type
      type-frugal zero = record {
        spends = λ at. pick-lt (λ (r : Res ℕ). Spends (chain r.got r.next r.steps (λ b next. fail {A = Text} s next)) at) at (length s)
            (λ lt. omega (arith, price-next most at)) (λ _. stays at);
      }
      type-frugal (suc l) = record { spends = λ at. (within-frugal (type-frugal l) (names l) (length s - at)).spends at }

      type-within : (l at : ℕ) → (type e l s at).steps ≤ price most (length s)
      type-within l at = go (dec_le at (length s))
        where
          go : Dec (at ≤ length s) → (type e l s at).steps ≤ price most (length s)
          go (yes h) = omega (arith, (type-frugal l).spends at, price-up most (((type-onward e l).ahead s at).within h))
          go (no g) =
              let u = passes-failed (type-past e l s at 0 (omega (arith, g))) in
              omega (arith, u.paid)

      method-within : (signature e s 0).steps ≤ price most (length s)
      method-within =
          omega (arith, (signature-like e s 0).steps, (pointer-frugal (type-frugal levels)).spends 0, price-up most (((pointer-onward e).ahead s 0).within (omega arith)))

-- Where no byte begins such a name.
module _ (s : List ℕ) (nowhere : (at : ℕ) → at < length s → NamesSpec s at → ⊥) where
  none_named : (e : Env) (l : ℕ) → Names s 0 e (type e l)
  none_named e l at i lt lo hi x = omega (arith, name_free e (type e l) i (λ y. nowhere at lt (record { class = (lo, hi); index = i; read = x; spec = y })))

  pub suffices : {steps : ℕ} → length s ≤ steps → Suffices s steps
  suffices h = record {
    types = λ e l at. omega (arith, h, price-one (length s), type-within s 0 e (none_named e) l at);
    method = λ e. omega (arith, h, price-one (length s), method-within s 0 e (none_named e));
  }

-- Where so many steps suffice for every TypeSpec row.
pub signature-within : (e : Env) (s : List ℕ) (most : ℕ) → SpecsWithin e most → (signature e s 0).steps ≤ (most + 1) * length s
unfolding price
signature-within e s most specs = method-within s most e (λ l at i _ _ _ _. specs l i)

-- ---- The search for a byte that begins such a name

module _ {s : List ℕ} {at : ℕ} where
  pub names-other : {i next : ℕ} → some_at i next ≡ uint s (at + 1) → (i % 4 ≡ 2 → ⊥) → NamesSpec s at → ⊥
  names-other {i} x other h =
      other (ap (λ (k : ℕ). k % 4) (some-injective i h.index (ap (λ (r : Res ℕ). r.got) x ∙ h.read)) ∙ h.spec)

  pub names-torn : {next : ℕ} → none_at next ≡ uint s (at + 1) → NamesSpec s at → ⊥
  names-torn x h = subst When (sym (ap is_there (ap (λ (r : Res ℕ). r.got) x ∙ h.read))) tt

pub nowhere-yet : (s : List ℕ) {i : ℕ} → ((at : ℕ) → at < i → NamesSpec s at → ⊥) → (NamesSpec s i → ⊥) → (at : ℕ) → at < i + 1 → NamesSpec s at → ⊥
nowhere-yet s {i} before here at lt =
    by-lt at i (λ k. before at k) (λ k. let e : i ≡ at = omega (arith, lt, k) in subst (λ (j : ℕ). NamesSpec s j → ⊥) e here)
