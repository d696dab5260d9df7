-- The lines of the listing (document 01, "The listing program"): a key, a value, and the byte 0x0A. How a value is written stands in
-- escapes/Escapes (2026-05).
use Rattle.std.specs.Prelude.{Bool, true, false, cond, ◌||◌, [], ◌∷◌, ◌++◌, ℕ, ◌+◌, eqb}
use Rattle.std.proofs.Math.Option.{Option, none, some}
use Rattle.buffers.specs.Texts.{Text, q, decimal}
use Rattle.buffers.specs.Replies.{number, Answer, refused, value}
use Rattle.buffers.specs.declared.Reason.TheVariants.{Untold}
use Rattle.buffers.specs.declared.Refusal.TheVariants.{NoSuchRow, NoName, BufferTooSmall, TooManySteps}
use Rattle.escapes.specs.Escapes.{escaped, longest, shown}

unfoldable pub line : Text → Text → Text
line key t = key ++ (t ++ (0x0A ∷ []))

-- A number in decimal.
abbrev pub number_line : Text → ℕ → Text
number_line key n = line key (escaped (decimal n))

-- The room in which the length of any name is seen before it is written as a value: its key has at most so many bytes, and behind it there
-- are eight, by which the writing is seen to change nothing.
abbrev pub longest_key : ℕ
longest_key = 16

abbrev pub name_room : ℕ
name_room = longest + 8

abbrev pub line_room : ℕ
line_room = longest_key + name_room

-- A name that may be missing: then the key alone.
abbrev pub value_line : Text → Option Text → Text
value_line key none = line key []
value_line key (some t) = line key (shown t)

-- A number that may be missing: then the key alone.
abbrev pub number_or_key : Text → Option ℕ → Text
number_or_key key none = line key []
number_or_key key (some n) = number_line key n

-- A refusal is the only line.
abbrev pub refused_line : ℕ → Text
refused_line n = number_line (q "refused=") n

-- The line of a number by its answer: none where there is no such number.
abbrev pub answer_line : Text → Answer ℕ → Text
answer_line key (value n) = number_line key n
answer_line key (refused w) = []

-- The same of a number that may be missing, as 4 says: then the key alone. Any other number refuses the streams, which have no such line.
abbrev pub is_missing : Answer ℕ → Bool
is_missing (value n) = false
is_missing (refused w) = eqb w.number (number NoSuchRow)

abbrev pub or_key_line : Text → Answer ℕ → Text
or_key_line key a = cond (is_missing a) (line key []) (answer_line key a)

-- By whether the number is one that may be missing.
abbrev pub numbered_line : Bool → Text → Answer ℕ → Text
numbered_line optional key a = cond optional (or_key_line key a) (answer_line key a)

-- The line of a name by its answer. 5 says that the name is missing, 6 that it is too long, and 11 that it takes too many steps. Any other
-- number says that there is no such row, and so no line.
abbrev pub spent_line : Text → Text
spent_line key = line key (q "!")

unfoldable pub missing_line : Text → ℕ → Text
missing_line key n =
    cond (eqb n (number (NoName Untold))) (line key [])
    (cond (eqb n (number BufferTooSmall) || eqb n (number TooManySteps)) (spent_line key) [])

abbrev pub name_line : Text → Answer Text → Text
name_line key (value t) = line key (shown t)
name_line key (refused w) = missing_line key w.number

-- Whether the listing goes on with what stands beside or behind a name: where its answer has a line, and not 11.
abbrev pub goes_on : {A : Type 0} → Answer A → Bool
goes_on (value a) = true
goes_on (refused w) = eqb w.number (number (NoName Untold)) || eqb w.number (number BufferTooSmall)
