-- What is claimed of lines (2026-05, "A name with a line break"): the byte 0x0A ends a line and stands nowhere else in it, so that whoever
-- reads a listing by lines reads the lines that were written. proofs/Breaks.antt proves it.
use Rattle.std.specs.Prelude.{◌≡◌, ℕ, ◌+◌, length}
use Rattle.buffers.specs.Texts.{Text, decimal}
use Rattle.escapes.specs.Escapes.{shown}
use Rattle.escapes.specs.Claims.{Visible}
use Rattle.heaps.specs.Lookups.{before}
use Rattle.lines.specs.Lines.{line, number_line}

-- A line that shows a name, whatever the name, and one that shows a number.
pub record OneLine : Type 0 where
  pub named : (key t : Text) → Visible key → before 0x0A (line key (shown t)) ≡ length key + length (shown t)
  pub numbered : (key : Text) (n : ℕ) → Visible key → before 0x0A (number_line key n) ≡ length key + length (decimal n)
