-- What the search for the typelib comes to, step by step: the row that a coded index means, and the first row that qualifies.
use Rattle.std.specs.Prelude.{◌≡◌, Bool, true, false, cond, ℕ, ◌-◌, ◌/◌, ◌%◌, ◌<◌, eqb, ltb, Some, None}
use Rattle.std.proofs.Math.Option.{Option, none, some}
use Rattle.keys.specs.Keyed.{Row}

-- The row, from 0, of a table with n rows that a coded index with a tag of three bits means (record/References.tagged).
unfoldable pub tagged_row : ℕ → ℕ → ℕ → Option ℕ
tagged_row n tag i =
    cond (eqb (i % 8) tag) (cond (eqb (i / 8) 0) none (cond (ltb (i / 8 - 1) n) (some (i / 8 - 1)) none)) none

abbrev pub row_says : Row → Option ℕ
row_says (Some i) = some i
row_says None = none

-- The first of n rows that qualifies.
abbrev pub FirstIs : (ℕ → Bool) → ℕ → Row → Type 0
FirstIs f n (Some i) = (i < n) × (f i ≡ true) × ((j : ℕ) → j < i → f j ≡ false)
FirstIs f n None = (j : ℕ) → j < n → f j ≡ false
