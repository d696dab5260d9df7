-- The second engine of the walk: the row sizes of a stream by the table, and the one reply of both engines.
use Rattle.std.specs.Prelude.{◌≡◌, List, ℕ, ◌%◌, ◌≤◌}
use Rattle.header.specs.Stream.{opened}
use Rattle.header.specs.declared.Options.{Options}
use Rattle.layouts.specs.Columns.{coded_setting}
use Rattle.row_table.specs.RowTable.{sizes_under}
use Rattle.tables.specs.Extents.{walk_says, sizes_in, walk_of}
use Rattle.tables.specs.declared.Extents.{Extents}
use Rattle.tables.specs.Partition.{old_limit}

-- Under every limit of up to 15,000 rows the sizes of a stream's indices are those of its setting: the three heap bits, and the three coded
-- indices that can have 4 bytes.
abbrev pub NarrowSizes : Type 0
NarrowSizes =
    (o : Options) (s : List ℕ) → o.limit ≤ old_limit
    → sizes_in o (opened o s) ≡ sizes_under ((opened o s).heap % 8) (coded_setting (sizes_in o (opened o s)))

-- The engines have one contract, and so one reply: whatever says what the walk is, is one value.
abbrev pub OneReply : Type 0
OneReply = (o : Options) (s : List ℕ) (a b : Extents) → walk_says a ≡ walk_of o s → walk_says b ≡ walk_of o s → a ≡ b
