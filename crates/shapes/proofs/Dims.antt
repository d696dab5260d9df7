-- Numbers with a sign, one dimension by its size and its lower bound, and dimensions one by one. Assumes nothing.
use mathlib.Core.Path.{◌≡◌, refl, ◌∙◌, ap, ap₂}
use mathlib.Core.Bool.{Bool, true, false}
use mathlib.Core.List.{List, [], ◌∷◌, ◌++◌, append_assoc}
use mathlib.Core.Option.{Option, none, some}
use Prim.Native.Nat.{ℕ, zero, suc, ◌+◌, ◌-◌, ◌<◌, ◌≤◌}
use native.Mathlib.Nat.{sub-zero}
use native.Mathlib.Numerals.{add-one}
use native.Mathlib.Omega.{arith}
use borrow.Author.Tests.{lt-ltb, le-ltb, ltb-true, ltb-false, eq-eqb, ne_eqb}
use lib.Dec.{ltb}
use lib.IntN.{ℤ, pos, negsuc, neg_ℤ, ◌+ℤ◌}
use lib.ListN.{drop, get_elem?}
use Rattle.numbers.specs.Reading.{Res, Reader}
use Rattle.numbers.specs.Compressed.{Uint, uint_says, sint_says}
use Rattle.numbers.specs.Compressed.{Sint}
use Rattle.numbers.specs.declared.Signed.TheVariants.{Plus, Minus}
use Rattle.std.specs.Prelude.{Ok, Err}
use Rattle.buffers.specs.Texts.{Text, q, decimal}
use Rattle.buffers.specs.Writes.{Wrote}
use Rattle.buffers.proofs.Writing.{wrote_then}
use Rattle.record.specs.Dims.{signed, dim, sep, dims}
use Rattle.shapes.specs.Series.{with_sign, numbers, items, moved, first, rest, Pops}
use Rattle.shapes.specs.declared.Items.{Items}
use Rattle.std.specs.Prelude.{Ok, Err}

-- A number with its sign.
signed-less : (n : ℕ) → 0 < n → signed (neg_ℤ (pos n)) ≡ q "-" ++ decimal n
unfolding signed
signed-less zero h = absurd (omega arith)
signed-less (suc n) h = refl

module _ (minus : Bool) (n : ℕ) {b b₁ : List ℕ} {at at₁ : ℕ} where
  pub signed-plus : minus ≡ false → Wrote b at (decimal n) b₁ at₁ → Wrote b at (signed (with_sign minus n)) b₁ at₁
  unfolding signed
  signed-plus e w = rw e w

  pub signed-minus : {b₂ : List ℕ} {at₂ : ℕ} → minus ≡ true → 0 < n → Wrote b at (q "-") b₁ at₁ → Wrote b₁ at₁ (decimal n) b₂ at₂
      → Wrote b at (signed (with_sign minus n)) b₂ at₂
  signed-minus e h w v = rw (e, signed-less n h) (wrote_then w v)

-- A lower bound that is not 0, and a size less 1.
up : (m n : ℕ) → 0 < m → pos m +ℤ pos n +ℤ negsuc 0 ≡ pos (m - 1 + n)
up m n h =
    let z : 1 ≤ m + n = omega arith in
    let y : m + n - 1 ≡ m - 1 + n = omega arith in
    rw (le-ltb (m + n) 1 z) (ap pos y)

down-far : (m n : ℕ) → 0 < m → m < n → neg_ℤ (pos m) +ℤ pos n +ℤ negsuc 0 ≡ pos (n - m - 1)
down-far zero n h l = absurd (omega arith)
down-far (suc m) n h l =
    let z : suc m ≤ n = omega arith in
    let y : 1 ≤ n - suc m = omega arith in
    rw (le-ltb n (suc m) z, le-ltb (n - suc m) 1 y) refl

negated : (n i : ℕ) → n ≡ suc i → negsuc i ≡ neg_ℤ (pos n)
negated zero i e = absurd (omega arith)
negated (suc n) i e = let z : i ≡ n = omega arith in ap negsuc z

down-near : (m n : ℕ) → 0 < m → n ≤ m → neg_ℤ (pos m) +ℤ pos n +ℤ negsuc 0 ≡ neg_ℤ (pos (m + 1 - n))
down-near zero n h l = absurd (omega arith)
down-near (suc m) n h l = go (ltb n (suc m)) refl
  where
    go : (t : Bool) → ltb n (suc m) ≡ t → negsuc m +ℤ pos n +ℤ negsuc 0 ≡ neg_ℤ (pos (suc m + 1 - n))
    go true e = let lt = ltb-true n (suc m) e in rw e (negated (suc m + 1 - n) _ (omega arith))
    go false e =
        let le = ltb-false n (suc m) e in
        let z : n - suc m < 1 = omega arith in
        rw (e, lt-ltb (n - suc m) 1 z) (negated (suc m + 1 - n) _ (omega arith))

module _ (minus : Bool) {b b' : List ℕ} {at at' : ℕ} {low size m n : ℕ} (e : m ≡ low) (f : n ≡ size) (h : 0 < low) where
  pub upper-plus : minus ≡ false → Wrote b at (decimal (m - 1 + n)) b' at' → Wrote b at (signed (with_sign minus low +ℤ pos size +ℤ negsuc 0)) b' at'
  unfolding signed
  upper-plus t w = rw (t, up low size h) (rw (e, f) at w)

  pub upper-far : minus ≡ true → m < n → Wrote b at (decimal (n - m - 1)) b' at'
      → Wrote b at (signed (with_sign minus low +ℤ pos size +ℤ negsuc 0)) b' at'
  unfolding signed
  upper-far t l w = let k : low < size = omega arith in rw (t, down-far low size h k) (rw (e, f) at w)

  pub upper-near : minus ≡ true → n ≤ m → Wrote b at (signed (with_sign true (m + 1 - n))) b' at'
      → Wrote b at (signed (with_sign minus low +ℤ pos size +ℤ negsuc 0)) b' at'
  upper-near t l w = let k : size ≤ low = omega arith in rw (t, down-near low size h k) (rw (e, f) at w)

-- The text of a dimension by what there is of it.
dim-zero : (k : Option ℕ) (minus : Bool) (low : ℕ) → low ≡ 0 → dim k (some (with_sign minus low)) ≡ dim k none
unfolding dim
dim-zero none false low z = rw z refl
dim-zero none true low z = rw z refl
dim-zero (some k) false low z = rw z refl
dim-zero (some k) true low z = rw z refl

dim-open : (minus : Bool) (low : ℕ) → 0 < low → dim none (some (with_sign minus low)) ≡ signed (with_sign minus low) ++ q "..."
unfolding dim
dim-open minus zero h = absurd (omega arith)
dim-open false (suc low) h = refl
dim-open true (suc low) h = refl

dim-closed : (k : ℕ) (minus : Bool) (low : ℕ) → 0 < low
    → dim (some k) (some (with_sign minus low)) ≡ signed (with_sign minus low) ++ q "..." ++ signed (with_sign minus low +ℤ pos k +ℤ negsuc 0)
unfolding dim
dim-closed k minus zero h = absurd (omega arith)
dim-closed k false (suc low) h = refl
dim-closed k true (suc low) h = refl

module _ {b b₁ : List ℕ} {at at₁ : ℕ} where
  pub size-some : {size : Uint} {n next k : ℕ} → size ≡ Ok (n, next) → k ≡ n → Wrote b at (decimal k) b₁ at₁
      → Wrote b at (dim (uint_says size).got none) b₁ at₁
  unfolding dim
  size-some e f w = rw e (rw f at w)

  pub size_none : {size : Uint} {next : ℕ} → size ≡ Err next → Wrote b at [] b₁ at₁ → Wrote b at (dim (uint_says size).got none) b₁ at₁
  unfolding dim
  size_none e w = rw e w

  module _ (o : Option ℕ) {low : Sint} {n next : ℕ} where
    pub dim-plus : low ≡ Ok (Plus n, next) → Wrote b at (dim o (some (with_sign false n))) b₁ at₁ → Wrote b at (dim o (sint_says low).got) b₁ at₁
    dim-plus e w = rw e w

    pub dim-minus : low ≡ Ok (Minus n, next) → Wrote b at (dim o (some (with_sign true n))) b₁ at₁ → Wrote b at (dim o (sint_says low).got) b₁ at₁
    dim-minus e w = rw e w

  pub dim-unbounded : (o : Option ℕ) {low : Sint} {next : ℕ} → low ≡ Err next → Wrote b at (dim o none) b₁ at₁
      → Wrote b at (dim o (sint_says low).got) b₁ at₁
  dim-unbounded o e w = rw e w

  module _ (minus : Bool) {low : ℕ} where
    pub bounded-zero : (o : Option ℕ) → low ≡ 0 → Wrote b at (dim o none) b₁ at₁ → Wrote b at (dim o (some (with_sign minus low))) b₁ at₁
    bounded-zero o z w = rw (dim-zero o minus low z) w

    module _ {b₂ : List ℕ} {at₂ m : ℕ} {size : Uint}
        (f : m ≡ low) (h : 0 < low) (w : Wrote b at (signed (with_sign minus m)) b₁ at₁) (v : Wrote b₁ at₁ (q "...") b₂ at₂) where
      pub bounded-open : {next : ℕ} → size ≡ Err next → Wrote b at (dim (uint_says size).got (some (with_sign minus low))) b₂ at₂
      bounded-open e = rw (e, dim-open minus low h) (wrote_then (rw f at w) v)

      pub bounded_closed : {b₃ : List ℕ} {at₃ n next : ℕ} → size ≡ Ok (n, next)
          → Wrote b₂ at₂ (signed (with_sign minus low +ℤ pos n +ℤ negsuc 0)) b₃ at₃
          → Wrote b at (dim (uint_says size).got (some (with_sign minus low))) b₃ at₃
      bounded_closed {n = n} e u = rw (e, dim-closed n minus low h) (wrote_then (wrote_then (rw f at w) v) u)

-- The comma before a dimension.
module _ {b b₁ : List ℕ} {at at₁ : ℕ} {i : ℕ} where
  pub comma-none : i ≡ 0 → Wrote b at [] b₁ at₁ → Wrote b at (sep i (q ",")) b₁ at₁
  unfolding sep
  comma-none e w = rw (eq-eqb _ _ e) w

  pub comma-some : (i ≡ 0 → ⊥) → Wrote b at (q ",") b₁ at₁ → Wrote b at (sep i (q ",")) b₁ at₁
  unfolding sep
  comma-some e w = rw (ne_eqb _ _ e) w

-- The dimensions that are left and the bracket behind them, by what is left of the sizes and of the lower bounds.
unfoldable pub ahead : ℕ → ℕ → List ℕ → List ℤ → Text
ahead zero i ks ls = q "]"
ahead (suc n) i ks ls = sep i (q ",") ++ dim (first ks) (first ls) ++ ahead n (i + 1) (rest ks) (rest ls)

ahead-next : (n i : ℕ) (ks : List ℕ) (ls : List ℤ)
    → ahead (suc n) i ks ls ≡ sep i (q ",") ++ dim (first ks) (first ls) ++ ahead n (i + 1) (rest ks) (rest ls)
unfolding ahead
ahead-next n i ks ls = refl

first-drop : {A : Type 0} (xs : List A) (i : ℕ) → get_elem? xs i ≡ first (drop i xs)
first-drop [] zero = refl
first-drop [] (suc i) = refl
first-drop (x ∷ xs) zero = refl
first-drop (x ∷ xs) (suc i) = first-drop xs i

rest-drop : {A : Type 0} (xs : List A) (i : ℕ) → drop (suc i) xs ≡ rest (drop i xs)
rest-drop [] zero = refl
rest-drop [] (suc i) = refl
rest-drop (x ∷ xs) zero = refl
rest-drop (x ∷ xs) (suc i) = rest-drop xs i

dims-drop : (n i : ℕ) (ks : List ℕ) (ls : List ℤ) → dims n i ks ls ++ q "]" ≡ ahead n i (drop i ks) (drop i ls)
unfolding dims ahead
dims-drop zero i ks ls = refl
dims-drop (suc n) i ks ls =
    append_assoc (sep i (q ",") ++ dim (get_elem? ks i) (get_elem? ls i)) (dims n (suc i) ks ls) (q "]")
    ∙ ap₂ (λ (t u : Text). sep i (q ",") ++ t ++ u) (ap₂ dim (first-drop ks i) (first-drop ls i))
    (dims-drop n (suc i) ks ls ∙ rw (add-one i) (ap₂ (ahead n (suc i)) (rest-drop ks i) (rest-drop ls i)))

-- The loop of `push_dims`: i of the dimensions are written.
module _ (rank : ℕ) {b b' : List ℕ} {at at' : ℕ} where
  pub dims-start : (p : Reader ℕ) (r : Reader ℤ) (s : List ℕ) (sizes bounds : Items)
      → Wrote b at (ahead (rank - 0) 0 (numbers (sizes.count - 0) p s sizes.first) (numbers (bounds.count - 0) r s bounds.first)) b' at'
      → Wrote b at (dims rank 0 (items p s sizes) (items r s bounds) ++ q "]") b' at'
  dims-start p r s sizes bounds w =
      rw (dims-drop rank 0 (items p s sizes) (items r s bounds)) (rw (sub-zero rank, sub-zero sizes.count, sub-zero bounds.count) at w)

  pub dims-done : (ks : List ℕ) (ls : List ℤ) {i : ℕ} → rank ≤ i → Wrote b at (q "]") b' at' → Wrote b at (ahead (rank - i) i ks ls) b' at'
  unfolding ahead
  dims-done ks ls {i} h w = let z : rank - i ≡ 0 = omega arith in rw z w

module _ {s : List ℕ} {p : Reader ℕ} {r : Reader ℤ} {rank i : ℕ} (h : i < rank)
    {at₁ n₁ n₁' : ℕ} {size : Res ℕ} {at₂ n₂ n₂' : ℕ} {low : Res ℤ} (f : Pops p s at₁ n₁ n₁' size) (g : Pops r s at₂ n₂ n₂' low) where
  pub dims-turn :
      {b b₁ b₂ b₃ : List ℕ} {k k₁ k₂ k₃ : ℕ} → Wrote b k (sep i (q ",")) b₁ k₁ → Wrote b₁ k₁ (dim size.got low.got) b₂ k₂
      → {p₁ p₂ : ℕ} → p₁ ≡ moved at₁ size → p₂ ≡ moved at₂ low
      → Wrote b₂ k₂ (ahead (rank - (i + 1)) (i + 1) (numbers n₁' p s p₁) (numbers n₂' r s p₂)) b₃ k₃
      → Wrote b k (ahead (rank - i) i (numbers n₁ p s at₁) (numbers n₂ r s at₂)) b₃ k₃
  dims-turn w v {p₁} {p₂} e₁ e₂ u =
      let z : rank - i ≡ suc (rank - (i + 1)) = omega arith in
      let next = ahead-next (rank - (i + 1)) i (numbers n₁ p s at₁) (numbers n₂ r s at₂) in
      rw (z, next, f.head, g.head, f.others, g.others) (wrote_then (wrote_then w v) (rw (e₁, e₂) at u))
