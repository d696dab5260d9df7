-- What the links of NestedClass rely on: the turns of the pass that makes them. Assumes nothing.
use mathlib.Core.Path.{◌≡◌, sym, ap, ◌∙◌, subst}
use mathlib.Core.List.{List}
use mathlib.Core.Option.{none, some}
use mathlib.Core.Logic.{⊎_elim}
use Prim.Native.Nat.{ℕ, ◌+◌, ◌-◌, ◌≤◌, ◌<◌}
use native.Mathlib.Nat.{eq-or-lt_of_le}
use native.Mathlib.Omega.{arith}
use lib.ListN.{length, get_or, set, length-set}
use lib.Seq.{get_or-set_same, get_or-set_other}
use Rattle.rows.specs.Held.{around, LastIs, Nested}
use Rattle.rows.proofs.Laws.{same_or_not}
use Rattle.rows.proofs.Held.{around-other, around-in}
use Rattle.nests.specs.Nests.{Nesting}

-- ---- One link

module _ (f g : ℕ → ℕ) (i r x : ℕ) where
  -- A row that does nothing for the class.
  last-past : none ≡ around f g i r → LastIs f g i r x → LastIs f g (i + 1) r x
  last-past other h =
      record {
        within = omega (arith, h.within);
        found = h.found;
        behind = λ j a b. ⊎_elim (λ e. other ∙ ap (λ (k : ℕ). around f g k r) (sym e)) (λ d. h.behind j a d) (eq-or-lt_of_le {n = j} {m = i} (omega arith));
      }

  -- A row that puts a class around it.
  last-here : some (g i) ≡ around f g i r → x ≡ i + 1 → LastIs f g (i + 1) r x
  last-here acts e =
      record {
        within = omega arith;
        found = λ p. let q : i ≡ x - 1 = omega arith in subst (λ (k : ℕ). some (g k) ≡ around f g k r) q acts;
        behind = λ j a b. absurd (omega arith);
      }

last_none : (f g : ℕ → ℕ) (r x : ℕ) → x ≡ 0 → LastIs f g 0 r x
last_none f g r x e = record { within = omega arith; found = λ p. absurd (omega arith); behind = λ j a b. absurd (omega arith) }

-- ---- The pass

pub nest-start : (f g : ℕ → ℕ) (n : ℕ) (m : List ℕ) → ((k : ℕ) → k + n < length m → get_or m k 0 ≡ 0) → Nesting f g n 0 m
nest-start f g n m zeros =
    record { order = omega arith; heads = λ r h. last_none f g r _ (zeros r h); links = λ j a. absurd (omega arith) }

pub nest-small : (f g : ℕ → ℕ) (n : ℕ) (m : List ℕ) → length m < n → Nested f g n m
nest-small f g n m s = record { heads = λ r h. absurd (omega arith); links = λ i a h. absurd (omega arith) }

pub nest-end : (f g : ℕ → ℕ) (n : ℕ) (m : List ℕ) (i : ℕ) → n ≤ i → Nesting f g n i m → Nested f g n m
nest-end f g n m i z k =
    let e : i ≡ n = omega (arith, k.order) in
    record { heads = λ r h. subst (λ (y : ℕ). LastIs f g y r (get_or m r 0)) e (k.heads r h); links = λ j a h. k.links j (omega arith) h }

module _ (f g : ℕ → ℕ) (n : ℕ) (m : List ℕ) (i room link : ℕ) (inside : i < n) (sized : room + n ≡ length m) (k : Nesting f g n i m)
    (told : g i < room → link ≡ get_or m (g i) 0) where
  abbrev m₁ : List ℕ
  m₁ = set m (room + i) link

  long₁ : length m₁ ≡ length m
  long₁ = length-set m (room + i) link

  -- The row's own link.
  heads₁ : (r : ℕ) → r + n < length m₁ → LastIs f g i r (get_or m₁ r 0)
  heads₁ r h =
      rw (get_or-set_other m (room + i) r link 0 (λ q. omega (arith, long₁))) (k.heads r (omega (arith, long₁)))

  links₁ : (j : ℕ) → j < i + 1 → g j + n < length m₁ → LastIs f g j (g j) (get_or m₁ (length m₁ - n + j) 0)
  links₁ j a h =
      ⊎_elim
      (λ e.
      let p : length m₁ - n + j ≡ room + i = omega (arith, long₁) in
      let near : g i < room = let q : g j ≡ g i = ap g e in omega (arith, long₁) in
      let same : get_or m₁ (length m₁ - n + j) 0 ≡ get_or m (g i) 0 =
      ap (λ (y : ℕ). get_or m₁ y 0) p ∙ get_or-set_same m (room + i) link 0 (omega arith) ∙ told near in
      let here : LastIs f g i (g i) (get_or m (g i) 0) = k.heads (g i) (omega arith) in
      subst (λ (y : ℕ). LastIs f g j (g j) y) (sym same) (subst (λ (y : ℕ). LastIs f g y (g y) (get_or m (g i) 0)) (sym e) here))
      (λ d.
      let p : length m₁ - n + j ≡ length m - n + j = omega (arith, long₁) in
      let same : get_or m₁ (length m₁ - n + j) 0 ≡ get_or m (length m - n + j) 0 =
      ap (λ (y : ℕ). get_or m₁ y 0) p ∙ get_or-set_other m (room + i) (length m - n + j) link 0 (λ q. omega arith) in
      let more : g j + n < length m = omega (arith, long₁) in
      subst (λ (y : ℕ). LastIs f g j (g j) y) (sym same) (k.links j d more))
      (eq-or-lt_of_le {n = j} {m = i} (omega arith))

  -- A row that does nothing, or nothing for a class with a link,
  pub nest-skip : ((r : ℕ) → r + n < length m → none ≡ around f g i r) → Nesting f g n (i + 1) m₁
  nest-skip other =
      record { order = omega arith; heads = λ r h. last-past f g i r _ (other r (omega (arith, long₁))) (heads₁ r h); links = links₁ }

  -- and one that puts a class around another.
  module _ (nested x : ℕ) (is : nested ≡ f i) (a : 1 < nested) (b : 1 < g i) (near : nested < room) (num : x ≡ i + 1) where
    abbrev m₂ : List ℕ
    m₂ = set m₁ nested x

    long₂ : length m₂ ≡ length m
    long₂ = length-set m₁ nested x ∙ long₁

    pub nest-take : Nesting f g n (i + 1) m₂
    nest-take =
        record {
          order = omega arith;
          heads = λ r h.
              ⊎_elim
              (λ e. last-here f g i r _ (around-in f g i r (omega arith) b (sym is ∙ sym e))
              (ap (λ (y : ℕ). get_or m₂ y 0) e ∙ get_or-set_same m₁ nested x 0 (omega (arith, long₁)) ∙ num))
              (λ d. last-past f g i r _ (around-other f g i r (λ q. d (sym (is ∙ q))))
              (subst (λ (y : ℕ). LastIs f g i r y) (sym (get_or-set_other m₁ nested r x 0 (λ q. d (omega arith)))) (heads₁ r (omega (arith, long₁, long₂)))))
              (same_or_not r nested);
          links = λ j c h.
              let p : length m₂ - n + j ≡ length m₁ - n + j = omega (arith, long₁, long₂) in
              let same : get_or m₂ (length m₂ - n + j) 0 ≡ get_or m₁ (length m₁ - n + j) 0 =
              ap (λ (y : ℕ). get_or m₂ y 0) p ∙ get_or-set_other m₁ nested (length m₁ - n + j) x 0 (λ q. omega (arith, long₁)) in
              subst (λ (y : ℕ). LastIs f g j (g j) y) (sym same) (links₁ j c (omega (arith, long₁, long₂)));
        }

-- ---- Joints

pub told-as : (m : List ℕ) {enclosing c room link : ℕ} → enclosing ≡ c → (enclosing < room → link ≡ get_or m enclosing 0) → c < room → link ≡ get_or m c 0
told-as m e f h = f (omega arith) ∙ ap (λ (y : ℕ). get_or m y 0) e
