-- The numbers and bytes that digits name. A byte that is no digit counts as 0.
use Rattle.std.specs.Prelude.{cond, List, [], ◌∷◌, ◌++◌, ℕ, zero, suc, ◌+◌, ◌-◌, ◌*◌, ◌%◌, ltb, leb, get_or}

-- A hex digit, `0` to `9` or `A` to `F`.
unfoldable pub hex_digit : ℕ → ℕ
hex_digit c = cond (ltb c 48) 0 (cond (leb c 57) (c - 48) (cond (ltb c 65) 0 (cond (leb c 70) (c - 65 + 10) 0)))

abbrev pub hex_pair : ℕ → ℕ → ℕ
hex_pair c d = hex_digit c * 16 + hex_digit d

-- The bytes that the first n pairs of a text name.
unfoldable pub hex_bytes : ℕ → List ℕ → List ℕ
hex_bytes zero s = []
hex_bytes (suc n) s = hex_bytes n s ++ (hex_pair (get_or s (2 * n) 0) (get_or s (2 * n + 1) 0) ∷ [])

-- A number with a decimal digit more: where it would not stay below 2 ^ 64 the digit is left out.
unfoldable pub with_digit : ℕ → ℕ → ℕ
with_digit n d = cond (ltb n 1844674407370955161) (n * 10 + d % 10) n

-- What the first n digits of a text are worth.
unfoldable pub worth : ℕ → List ℕ → ℕ
worth zero s = 0
worth (suc n) s = with_digit (worth n s) (hex_digit (get_or s n 0))
