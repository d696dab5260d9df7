-- Two compressed numbers one after the other (ECMA-335 II.23.2), of which the first is of no interest.
use Rattle.std.specs.Prelude.{ℕ}
use Rattle.numbers.specs.Reading.{Reader, ◌>>=◌}
use Rattle.numbers.specs.Compressed.{uint}

-- The number after the one at the position: in a method's signature (II.23.2.1), that of parameters after that of generic parameters.
unfoldable pub next_number : Reader ℕ
next_number = do
  _ ← uint
  uint
