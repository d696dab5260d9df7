-- Every entry of the table is the sum of its columns. Assumes nothing.
use mathlib.Core.Path.{◌≡◌, refl, ap₂}
use mathlib.Core.Bool.{Bool, true, false, ◌&&◌}
use mathlib.Core.List.{List, [], ◌∷◌}
use Prim.Native.Nat.{ℕ, zero, suc, ◌+◌, ◌/◌, ◌%◌}
use lib.Dec.{T, eqb, eqb→eq}
use Rattle.numbers.specs.Lists.{tabulate}
use Rattle.layouts.proofs.Reaches.{and_left, and_right}
use Rattle.row_table.specs.RowTable.{entry}

-- The test: there are n numbers, and each is what f says of its place, from i on.
abbrev pub agrees : (ℕ → ℕ) → ℕ → ℕ → List ℕ → Bool
agrees f i zero [] = true
agrees f i zero (x ∷ l) = false
agrees f i (suc n) [] = false
agrees f i (suc n) (x ∷ l) = eqb x (f i) && agrees f (i + 1) n l

-- The lemma: a list that passes is the list of what f says.
pub agrees-is : (f : ℕ → ℕ) (i n : ℕ) (l : List ℕ) → T (agrees f i n l) → l ≡ tabulate f i n
unfolding tabulate
agrees-is f i zero [] t = refl
agrees-is f i zero (x ∷ l) t = absurd t
agrees-is f i (suc n) [] t = absurd t
agrees-is f i (suc n) (x ∷ l) t =
    ap₂ ◌∷◌ (eqb→eq x (f i) (and_left (eqb x (f i)) (agrees f (i + 1) n l) t))
    (agrees-is f (i + 1) n l (and_right (eqb x (f i)) (agrees f (i + 1) n l) t))

-- An entry of a part of the table.
abbrev pub in_part : ℕ → ℕ → ℕ
in_part coded i = entry (i % 8) coded (i / 8)
