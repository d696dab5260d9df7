-- Whether two texts are equal, as the library's test of slices finds it. Assumes nothing.
use mathlib.Core.Path.{◌≡◌, refl, ap}
use mathlib.Core.Bool.{◌&&◌}
use mathlib.Core.List.{List, [], ◌∷◌}
use Prim.Native.Nat.{ℕ}
use lib.Dec.{eqb}
use lib.Pointwise.{pointwise}
use Rattle.buffers.specs.Texts.{same}

pub same-is : (s t : List ℕ) → pointwise eqb s t ≡ same s t
unfolding same
same-is [] [] = refl
same-is [] (b ∷ t) = refl
same-is (a ∷ s) [] = refl
same-is (a ∷ s) (b ∷ t) = ap (λ x. eqb a b && x) (same-is s t)
