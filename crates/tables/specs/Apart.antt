-- Where tables lie: after the counts, within the stream, and no two over one byte. For every stream and all options.
use Rattle.std.specs.Prelude.{◌≡◌, List, ℕ, ◌+◌, ◌*◌, ◌≤◌, ◌<◌, length}
use Rattle.header.specs.Stream.{opened, counts_end}
use Rattle.header.specs.declared.Options.{Options}
use Rattle.tables.specs.Extents.{Extent, extent}

-- Byte p of the stream is one of the table's whole rows.
abbrev pub Inside : Extent → ℕ → Type 0
Inside e p = (e.start ≤ p) × (p < e.start + e.rows * e.size)

abbrev pub table_of : Options → List ℕ → ℕ → Extent
table_of o s k = extent o (opened o s) (length s) k

pub record TablesApart : Type 0 where
  -- a byte belongs to one table at most
  pub apart : (o : Options) (s : List ℕ) (j k p : ℕ) → Inside (table_of o s j) p → Inside (table_of o s k) p → j ≡ k
  -- and lies after the header and the counts,
  pub after : (o : Options) (s : List ℕ) (k p : ℕ) → Inside (table_of o s k) p → counts_end s ≤ p
  -- within the stream
  pub within : (o : Options) (s : List ℕ) (k p : ℕ) → Inside (table_of o s k) p → p < length s
