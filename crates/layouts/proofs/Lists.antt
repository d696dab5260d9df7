-- Lists that are made of others, member by member. Assumes nothing.
use mathlib.Core.Path.{◌≡◌, refl, ap₂}
use mathlib.Core.List.{List, [], ◌∷◌, map}
use Prim.Native.Nat.{ℕ, zero, suc, ◌<◌}
use native.Mathlib.Nat.{not-suc-le-zero, le_of_suc-le-suc}
use lib.ListN.{length, get_or}

-- Two lists are equal where their members are: what an array of the code holds, against a list of the definitions.
infixr 5 ◌▸◌
pub ◌▸◌ : {x y : ℕ} {xs ys : List ℕ} → x ≡ y → xs ≡ ys → x ∷ xs ≡ y ∷ ys
p ▸ q = ap₂ (λ a b. a ∷ b) p q

-- A member of a list that is made of another, and past the end what is made of the other's default.
pub map_at : {A B : Type 0} (g : A → B) (a : A) (xs : List A) (k : ℕ) → get_or (map g xs) k (g a) ≡ g (get_or xs k a)
map_at g a [] k = refl
map_at g a (x ∷ xs) zero = refl
map_at g a (x ∷ xs) (suc k) = map_at g a xs k

-- A member within the list, whatever stands for one past its end.
pub made_at : {A B : Type 0} (g : A → B) (a : A) (xs : List A) (k : ℕ) (d : B) → k < length xs → get_or (map g xs) k d ≡ g (get_or xs k a)
made_at g a [] k d h = absurd (not-suc-le-zero h)
made_at g a (x ∷ xs) zero d h = refl
made_at g a (x ∷ xs) (suc k) d h = made_at g a xs k d (le_of_suc-le-suc h)
