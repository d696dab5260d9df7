-- The input of the programs (document 01, "The listing program"): the lines `tables=N`, `strings=N`, `blob=N`, each number in decimal
-- without leading zeros and each line ended by the byte 0x0A, then exactly those bytes in that order, 65,536 bytes in all at most.
-- Anything else is malformed, and refusal 8.
use Rattle.std.specs.Prelude.{◌≡◌, Option, Some, None, cond, List, [], ◌∷◌, ◌++◌, ℕ, ◌+◌, ◌-◌, ◌*◌, ◌≤◌, ltb, leb, eqb, length, drop}
use Rattle.numbers.specs.Parts.{part}
use Rattle.buffers.specs.Texts.{Text, q, decimal}
use Rattle.buffers.specs.Replies.{Answer, refused_by, value}
use Rattle.buffers.specs.declared.Refusal.TheVariants.{BadInput}
use Rattle.bundle.specs.declared.Bundle.{Bundle}

-- A line's number and the position after the line, where there is such a line.
abbrev pub Line : Type 0
Line = Option (ℕ × ℕ)

-- What a byte is worth as a digit, `0` to `9`: 10 if it is none.
unfoldable pub digit_of : ℕ → ℕ
digit_of c = cond (ltb c 48) 10 (cond (ltb 57 c) 10 (c - 48))

-- What follows the first digits of a number, which are worth n: the end of the line, or a digit. After a first digit 0 there is no
-- other. The bytes stand at a position of the input, and the line's end gives the position after it. A number above 65,536 is none,
-- since no input has so many bytes.
unfoldable pub more_digits : ℕ → ℕ → List ℕ → Line
more_digits n at [] = None
more_digits n at (c ∷ s) =
    let d = digit_of c in
    cond (eqb c 10) (Some (n, at + 1))
    (cond (eqb n 0) None
    (cond (leb d 9) (cond (leb (n * 10 + d) 65536) (more_digits (n * 10 + d) (at + 1) s) None) None))

-- A number and the end of its line.
unfoldable pub number_line : ℕ → List ℕ → Line
number_line at [] = None
number_line at (c ∷ s) = cond (leb (digit_of c) 9) (more_digits (digit_of c) (at + 1) s) None

-- A key, then a number and the end of the line.
unfoldable pub key_line : Text → ℕ → List ℕ → Line
key_line [] at s = number_line at s
key_line (k ∷ key) at [] = None
key_line (k ∷ key) at (c ∷ s) = cond (eqb c k) (key_line key (at + 1) s) None

-- The same at a position of the input.
abbrev pub number_at : List ℕ → ℕ → Line
number_at s at = number_line at (drop at s)

abbrev pub line_at : Text → List ℕ → ℕ → Line
line_at key s at = key_line key at (drop at s)

-- So many bytes each, one after the other from a position on, if they end where the input does.
unfoldable pub laid : ℕ → ℕ → ℕ → ℕ → ℕ → Option Bundle
laid total tables strings blob at =
    cond (eqb (at + tables + strings + blob) total)
    (Some (record {
      tables = record { at = at; len = tables };
      strings = record { at = at + tables; len = strings };
      blob = record { at = at + tables + strings; len = blob };
    }))
    None

-- What goes on after a line, with its number and the position after it.
unfoldable pub on_line : Line → (ℕ → ℕ → Option Bundle) → Option Bundle
on_line None next = None
on_line (Some line) next = next line.0 line.1

-- The whole input.
unfoldable pub bundle_of : List ℕ → Option Bundle
bundle_of s =
    cond (leb (length s) 65536)
    (on_line (line_at (q "tables=") s 0) λ tables second.
    on_line (line_at (q "strings=") s second) λ strings third.
    on_line (line_at (q "blob=") s third) λ blob start.
    laid (length s) tables strings blob start)
    None

-- A line's number is at most 65,536, and its end lies in an input of so many bytes.
abbrev pub Within : ℕ → Line → Type 0
Within total None = Unit {0}
Within total (Some line) = (line.0 ≤ 65536) × (line.1 ≤ total)

-- What each case of an opened input says: the bytes of the three streams, or the number that says no.
pub record Inputs : Type 0 where
  pub tables : List ℕ
  pub strings : List ℕ
  pub blob : List ℕ

abbrev pub bundle_says : List ℕ → Option Bundle → Answer Inputs
bundle_says s (Some b) = value (record {
  tables = part s b.tables.at b.tables.len;
  strings = part s b.strings.at b.strings.len;
  blob = part s b.blob.at b.blob.len;
})
bundle_says s None = refused_by BadInput

-- What an input says: the streams that are found in it, or 8.
abbrev pub input_in : List ℕ → Answer Inputs
input_in s = bundle_says s (bundle_of s)

-- The other way round: the input that three streams make.
unfoldable pub line_text : Text → ℕ → Text
line_text key n = key ++ (decimal n ++ (10 ∷ []))

unfoldable pub input_of : Inputs → List ℕ
input_of i =
    line_text (q "tables=") (length i.tables)
    ++ (line_text (q "strings=") (length i.strings)
    ++ (line_text (q "blob=") (length i.blob)
    ++ (i.tables ++ (i.strings ++ i.blob))))

-- The two ways agree. Any three streams that make an input of at most 65,536 bytes are found in it, and an input in which streams are
-- found is the one that they make, and no longer than that.
pub record Opens : Type 0 where
  pub found : (i : Inputs) → length (input_of i) ≤ 65536 → input_in (input_of i) ≡ value i
  pub made : (s : List ℕ) (i : Inputs) → input_in s ≡ value i → (s ≡ input_of i) × (length s ≤ 65536)
