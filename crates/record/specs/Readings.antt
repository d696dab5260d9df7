-- More readings of bytes, beside those of `numbers`: what signatures are read with.
use Rattle.std.specs.Prelude.{cond, List, [], ◌∷◌, ℕ, zero, suc, ◌+◌, ltb, length, get_or}
use Rattle.std.proofs.Math.Option.{Option, none, some}
use Rattle.numbers.specs.Reading.{Res, Reader, give, none_at, ◌>>=◌}

-- Nothing is read, and the value may be there or not.
abbrev pub known : {A : Type 0} → Option A → Reader A
known o s at = record { got = o; next = at; steps = 0 }

-- The byte at the position, counted as a type byte.
abbrev pub type_byte : Reader ℕ
type_byte s at = cond (ltb at (length s))
    (record { got = some (get_or s at 0); next = at + 1; steps = 1 })
    (none_at at)

-- A reading whose failure is a value too.
abbrev pub attempt : {A : Type 0} → Reader A → Reader (Option A)
attempt p s at = let r = p s at in record { got = some r.got; next = r.next; steps = r.steps }

-- n readings in a row, all of which must have a value.
unfoldable pub times : {A : Type 0} → ℕ → Reader A → Reader (List A)
times zero p = give []
times (suc n) p = p >>= (λ a. times n p >>= (λ xs. give (a ∷ xs)))

-- A reading from the start of a blob that is there or not.
abbrev pub in_blob : {A : Type 0} → Reader A → Option (List ℕ) → Res A
in_blob p none = none_at 0
in_blob p (some b) = p b 0

-- The sum of numbers.
abbrev pub total : List ℕ → ℕ
total [] = 0
total (n ∷ l) = n + total l
