-- The output of the program `section` (2026-14): the lines `section=N` and `offsets=M`, then the N bytes of the section, then the M offsets,
-- 4 bytes each, least significant first. Where the input or its streams are refused, the line `refused=` and the number alone.
use Rattle.std.specs.Prelude.{List, [], ◌∷◌, ◌++◌, ℕ, ◌/◌, ◌%◌}
use Rattle.std.proofs.Math.Option.{Option}
use Rattle.buffers.specs.Texts.{Text, q}
use Rattle.buffers.specs.Replies.{Answer, refused, value}
use Rattle.bundle.specs.Input.{Inputs, bundle_of, bundle_says}
use Rattle.header.specs.Stream.{base}
use Rattle.lines.specs.Lines.{number_line, refused_line}
use Rattle.record.specs.View.{view}
use Rattle.name_section.specs.Section.{names, Used}

-- The names of an input: of its streams, opened as the base does; 8 where it is malformed.
unfoldable pub names_in : Answer Inputs → Answer (List (Option Text))
names_in (value i) = names (view base i.tables i.strings i.blob)
names_in (refused w) = refused w

abbrev pub input_names : List ℕ → Answer (List (Option Text))
input_names s = names_in (bundle_says s (bundle_of s))

-- The lines, by what a reply says.
unfoldable pub head_text : Answer Used → Text
head_text (value u) = number_line (q "section=") u.bytes ++ number_line (q "offsets=") u.classes
head_text (refused w) = refused_line w.number

-- The bytes of an offset, and of offsets.
unfoldable pub offset_bytes : ℕ → Text
offset_bytes o = o % 256 ∷ (o / 256 % 256 ∷ (o / 65536 % 256 ∷ (o / 16777216 % 256 ∷ [])))

unfoldable pub all_bytes : List ℕ → Text
all_bytes [] = []
all_bytes (o ∷ l) = offset_bytes o ++ all_bytes l
