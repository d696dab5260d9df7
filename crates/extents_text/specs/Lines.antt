-- The extents of an input as text: for each of the 64 kinds a line `kind start size rows`, all in decimal, then the line `stop=` and the
-- stopping kind; where the input or its tables stream is refused, the line `refused=` and the number alone. Each line ends with the
-- byte 0x0A.
use Rattle.std.specs.Prelude.{List, [], ◌∷◌, ◌++◌, ℕ, zero, suc, get_or}
use Rattle.buffers.specs.Texts.{Text, q, decimal}
use Rattle.buffers.specs.Replies.{Answer, refused, value}
use Rattle.bundle.specs.Input.{Inputs, bundle_of, bundle_says}
use Rattle.header.specs.Stream.{base}
use Rattle.tables.specs.Extents.{Walked, walk_of}

abbrev pub blank : Text
blank = 0x20 ∷ []

abbrev pub line_end : Text
line_end = 0x0A ∷ []

-- A number and a blank.
abbrev pub field : ℕ → Text
field n = decimal n ++ blank

-- `kind start size rows`.
unfoldable pub kind_line : ℕ → ℕ → ℕ → ℕ → Text
kind_line kind start size rows = field kind ++ (field start ++ (field size ++ (decimal rows ++ line_end)))

-- A line for each of the first n kinds.
unfoldable pub kind_lines : Walked → ℕ → Text
kind_lines w zero = []
kind_lines w (suc n) = kind_lines w n ++ kind_line n (get_or w.starts n 0) (get_or w.sizes n 0) (get_or w.rows n 0)

-- A key and a number.
unfoldable pub key_line : Text → ℕ → Text
key_line key n = key ++ (decimal n ++ line_end)

-- A walk's text, by where it was left or why it was refused.
unfoldable pub walk_text : Walked → Answer ℕ → Text
walk_text w (value stop) = kind_lines w 64 ++ key_line (q "stop=") stop
walk_text w (refused why) = key_line (q "refused=") why.number

-- An input's text, by its streams or why it was refused.
unfoldable pub input_text : Answer Inputs → Text
input_text (value i) = let w = walk_of base i.tables in walk_text w w.stop
input_text (refused why) = key_line (q "refused=") why.number

abbrev pub extents_text : List ℕ → Text
extents_text s = input_text (bundle_says s (bundle_of s))
