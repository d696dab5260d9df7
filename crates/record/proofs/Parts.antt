-- Parts of two lists that agree at each place of the part. Assumes nothing.
use mathlib.Core.Path.{◌≡◌, sym, ◌∙◌}
use mathlib.Core.List.{List}
use Prim.Native.Nat.{ℕ, ◌+◌, ◌-◌, ◌≤◌, ◌<◌, min}
use native.Mathlib.Omega.{arith}
use lib.ListN.{length, take, drop, get_or, length-take, length-drop}
use lib.Seq.{ext_get_or, get_or-take, get_or-drop}

-- The n bytes of t from place a on, as far as t goes.
abbrev pub part : ℕ → ℕ → List ℕ → List ℕ
part a n t = take n (drop a t)

module _ (u t : List ℕ) (len : length u ≡ length t) where
  pub part_same : (a n : ℕ) → ((p : ℕ) → a ≤ p → p < a + n → get_or u p 0 ≡ get_or t p 0) → part a n u ≡ part a n t
  part_same a n h =
      let lu : length (part a n u) ≡ min n (length u - a) = simp (length-take, length-drop) in
      let lt : length (part a n t) ≡ min n (length t - a) = simp (length-take, length-drop) in
      ext_get_or 0 (part a n u) (part a n t) (omega arith)
      (λ i k.
      let b : i < n = omega arith in
      get_or-take n (drop a u) i 0 b ∙ get_or-drop a u i 0 ∙ h (a + i) (omega arith) (omega arith) ∙ sym (get_or-take n (drop a t) i 0 b ∙ get_or-drop a t i 0))

  pub take_same : (n : ℕ) → ((p : ℕ) → p < n → get_or u p 0 ≡ get_or t p 0) → take n u ≡ take n t
  take_same n h =
      let lu = length-take n u in
      let lt = length-take n t in
      ext_get_or 0 (take n u) (take n t) (omega arith)
      (λ i k.
      let b : i < n = omega arith in
      get_or-take n u i 0 b ∙ h i b ∙ sym (get_or-take n t i 0 b))

-- A part of a list's front is the part of the list.
pub part-take : (a n m : ℕ) (t : List ℕ) → a + n ≤ m → part a n (take m t) ≡ part a n t
part-take a n m t h =
    let l1 : length (part a n (take m t)) ≡ min n (min m (length t) - a) = simp (length-take, length-drop) in
    let l2 : length (part a n t) ≡ min n (length t - a) = simp (length-take, length-drop) in
    ext_get_or 0 (part a n (take m t)) (part a n t) (omega arith)
    (λ i k.
    let b : i < n = omega arith in
    get_or-take n (drop a (take m t)) i 0 b ∙ get_or-drop a (take m t) i 0 ∙ get_or-take m t (a + i) 0 (omega arith) ∙ sym (get_or-take n (drop a t) i 0 b ∙ get_or-drop a t i 0))
