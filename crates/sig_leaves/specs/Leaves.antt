-- What the leaves of a signature's rendering come to: numbers that are refused above a bound, the generic names of an owner that may be
-- nobody, and a place in the blob heap.
use Rattle.std.specs.Prelude.{◌≡◌, cond, List, [], ℕ, ◌+◌, ◌<◌, ◌≤◌, ltb, length, Some, None, Ok, Err}
use Rattle.std.proofs.Math.Option.{Option, none, some}
use Rattle.numbers.specs.Reading.{Res, Reader, some_at, none_at, give, ◌>>=◌}
use Rattle.numbers.specs.Compressed.{Uint, uint}
use Rattle.numbers.specs.Parts.{part}
use Rattle.heaps.specs.Lookups.{Name, string}
use Rattle.record.specs.Names.{name_at}
use Rattle.record.specs.View.{View}
use Rattle.record.specs.Types.{unless}
use Rattle.heaps.specs.declared.Span.{Span}
use Rattle.rows.specs.Columns as columns
use Rattle.rows.specs.Layout.{rows_at, cell, view_in}
use Rattle.keys.specs.Keyed.{Row}
use Rattle.std.specs.declared.option.Option as std

-- Whose generic parameters are meant, as the code has it.
abbrev pub Owner : Type 0
Owner = std.Option ℕ

-- Where in the blob heap a signature stands, as the code has it.
abbrev pub Blob : Type 0
Blob = std.Option Span

-- An answer of the code, refused above a bound.
abbrev pub bounded : ℕ → Uint → Res ℕ
bounded most (Ok found) = cond (ltb most found.0) (none_at found.1) (some_at found.0 found.1)
bounded most (Err next) = none_at next

-- A compressed number, refused above a bound.
unfoldable pub up_to : ℕ → Reader ℕ
up_to most = do
  n ← uint
  unless (ltb most n) (give n)

-- The number of arguments of a generic type, at most 1,000: what `instance` reads after its first type.
abbrev pub argument_count : Reader ℕ
argument_count = up_to 1000

-- The generic names of an owner, by the Owner column as stored.
abbrev pub generics_of : View → Owner → List Name
generics_of v (Some k) = v.generics k
generics_of v None = []

-- The row of generic parameter i, from 0, or none where there is no such parameter: its column has the name, whatever the heaps are.
abbrev pub GenericIs : List ℕ → List ℕ → Owner → ℕ → Row → Type 0
GenericIs t l owner i (Some row) =
    (row < rows_at l columns.generic_name)
    × ((strings blob : List ℕ) → name_at (generics_of (view_in t l strings blob) owner) i ≡ string strings (cell t l columns.generic_name row))
GenericIs t l owner i None = (strings blob : List ℕ) → name_at (generics_of (view_in t l strings blob) owner) i ≡ none

-- The bytes that a place in the blob heap s has.
abbrev pub blob_bytes : List ℕ → Blob → Option (List ℕ)
blob_bytes s (Some span) = some (part s span.start span.len)
blob_bytes s None = none

-- It lies in the heap.
abbrev pub BlobInside : List ℕ → Blob → Type 0
BlobInside s (Some span) = span.start + span.len ≤ length s
BlobInside s None = Unit {0}

-- r is the bytes d, or that they are missing.
pub record BlobIs (s : List ℕ) (d : Option (List ℕ)) (r : Blob) : Type 0 where
  pub is : blob_bytes s r ≡ d
  pub inside : BlobInside s r
