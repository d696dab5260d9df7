-- What is claimed of the writing of values (2026-05, "A name with a line break"). proofs/Apart.antt proves it.
use Rattle.std.specs.Prelude.{◌≡◌, ℕ, ◌<◌, ◌≤◌, [], ◌∷◌, length}
use Rattle.buffers.specs.Texts.{Text, decimal}
use Rattle.escapes.specs.Escapes.{escaped, longest, shown, read_back}

-- What was written is read back.
abbrev pub ReadsBack : Type 0
ReadsBack = (t : Text) → read_back (escaped t) ≡ t

-- "Two different present values of at most 4,096 bytes never print alike, nor like the mark for a longer one": a value of at most 4,096
-- bytes that prints like another is that other, whatever the other's length.
abbrev pub PrintsApart : Type 0
PrintsApart = (s t : Text) → length s ≤ longest → shown s ≡ shown t → s ≡ t

-- Every byte of a text is above 0x20: it has no line break and no space.
abbrev pub Visible : Text → Type 0
Visible [] = Unit {0}
Visible (b ∷ t) = (0x20 < b) × Visible t

-- No value ends its line.
abbrev pub NoBreak : Type 0
NoBreak = (t : Text) → Visible (shown t)

-- Numbers are written as they were.
abbrev pub NumbersStand : Type 0
NumbersStand = (n : ℕ) → escaped (decimal n) ≡ decimal n
