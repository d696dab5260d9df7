-- Rows by a key: what a search for one of them comes to, and where they stand.
use Rattle.std.specs.Prelude.{◌≡◌, List, ℕ, ◌+◌, ◌≤◌, ◌<◌, length, Some, None}
use Rattle.rows.specs.Held.{keyed, lower}
use Rattle.keys.specs.declared.Bucket.{Bucket}
use Rattle.std.specs.declared.option.Option as std

-- A row of a table, counted from 0, as the code has it.
abbrev pub Row : Type 0
Row = std.Option ℕ

-- What a search among n rows for the row of a key that has so many rows of that key before it comes to.
abbrev pub FoundIs : (ℕ → ℕ) → ℕ → ℕ → ℕ → Row → Type 0
FoundIs f k n nth (Some i) = (i < n) × (f i ≡ k) × (keyed f k i ≡ nth)
FoundIs f k n nth None = keyed f k n ≤ nth

-- Where the rows of the key k stand among the sorted ones, if the memory has room for it and for the next.
abbrev pub BucketIs : (ℕ → ℕ) → ℕ → List ℕ → ℕ → std.Option Bucket → Type 0
BucketIs f n m k (Some b) = (k + 1 + n < length m) × (b.first ≡ lower f n k) × (b.end ≡ lower f n k + keyed f k n)
BucketIs f n m k None = Unit {0}
