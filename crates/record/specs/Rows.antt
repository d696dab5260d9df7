-- The rows of a table, rows that act one after the other, and what rows of a key say.
use Rattle.std.specs.Prelude.{cond, List, [], ◌∷◌, ◌++◌, ℕ, zero, suc, ◌+◌, ◌*◌, eqb, get_or}
use Rattle.numbers.specs.Parts.{part}
use Rattle.header.specs.Stream.{Opening}
use Rattle.tables.specs.Extents.{Extent}

-- Row i of a table, from 0, as its bytes.
abbrev pub row_bytes : Extent → List ℕ → ℕ → List ℕ
row_bytes e t i = part t (e.start + i * e.size) e.size

-- The row count of a kind.
abbrev pub count : Opening → ℕ → ℕ
count h k = get_or h.counts k 0

-- What rows 0 .. n - 1 make of a state, each acting in turn.
abbrev pub runs : {A S : Type 0} → (A → S → S) → (ℕ → A) → ℕ → S → S
runs step row zero s = s
runs step row (suc n) s = step (row n) (runs step row n s)

-- A row of key k adds its value at the end of a list.
abbrev pub add : {B : Type 0} → (List ℕ → ℕ) → (List ℕ → B) → ℕ → List ℕ → List B → List B
add key value k r l = cond (eqb (key r) k) (l ++ value r ∷ []) l

-- The values of the rows whose key is k, in the order of the rows.
abbrev pub of_key : {B : Type 0} → (List ℕ → ℕ) → (List ℕ → B) → (ℕ → List ℕ) → ℕ → ℕ → List B
of_key key value row n k = runs (add key value k) row n []
