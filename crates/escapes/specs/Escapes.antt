-- Values as the listing writes them (2026-05, "A name with a line break"): each byte below 0x22, above 0x7E, or equal to 0x25 as a percent
-- sign and two upper-case hex digits, every other byte as it stands.
use Rattle.std.specs.Prelude.{◌≡◌, ℕ, ◌+◌, ◌-◌, ◌*◌, ◌/◌, ◌%◌, ◌<◌, Bool, false, cond, ◌||◌, List, [], ◌∷◌, ◌++◌, length, ◌==◌, nat_le, nat_lt, slice_index}
use Rattle.buffers.specs.Texts.{Text, q}

-- Whether a byte is not written as it stands.
unfoldable pub special : ℕ → Bool
special b = nat_lt b 0x22 || (nat_lt 0x7E b || b == 0x25)

-- That n bytes of a list, from a position on, are all written as they stand.
pub record Stands (s : List ℕ) (at n : ℕ) : Type 0 where
  pub each : (i : ℕ) → i < n → special (slice_index s (at + i)) ≡ false

-- A digit from 0 to 15 in upper-case hex: 0 is 48 in ASCII, and A is 65.
unfoldable pub hex_digit : ℕ → ℕ
hex_digit n = cond (nat_lt n 10) (48 + n) (55 + n)

-- One byte.
unfoldable pub escaped_byte : ℕ → Text
escaped_byte b = cond (special b) (0x25 ∷ hex_digit (b / 16) ∷ hex_digit (b % 16) ∷ []) (b ∷ [])

-- A text.
unfoldable pub escaped : Text → Text
escaped [] = []
escaped (b ∷ t) = escaped_byte b ++ escaped t

-- The bytes of the longest value that is shown. They are counted before the writing.
abbrev pub longest : ℕ
longest = 4096

-- A value; `!`, the mark, where it is longer. The mark is written as it stands.
unfoldable pub shown : Text → Text
shown t = cond (nat_le (length t) longest) (escaped t) (q "!")

-- How a value is read back: a percent sign and two digits are one byte.
unfoldable pub hex_value : ℕ → ℕ
hex_value d = cond (nat_lt d 65) (d - 48) (d - 55)

unfoldable pub read_back : Text → Text
read_back [] = []
read_back (b ∷ []) = b ∷ []
read_back (b ∷ h ∷ []) = b ∷ h ∷ []
read_back (b ∷ h ∷ l ∷ t) = cond (b == 0x25) ((16 * hex_value h + hex_value l) ∷ read_back t) (b ∷ read_back (h ∷ l ∷ t))
