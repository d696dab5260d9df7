-- The header of the tables stream and its row counts (ECMA-335 II.24.2.6; `add_metadata_tables`), and what opening the stream finds.
-- A stream is the list s of its bytes.
use Rattle.std.specs.Prelude.{◌≡◌, Result, Ok, Err, Bool, true, false, cond, List, ℕ, zero, suc, ◌+◌, ◌*◌, min, ltb, eqb, length, get_or, replicate}
use Rattle.numbers.specs.Bits.{bit_at, ones_below}
use Rattle.numbers.specs.Fixed.{le_at}
use Rattle.numbers.specs.Lists.{tabulate}
use Rattle.buffers.specs.declared.Refusal.{Refusal}
use Rattle.buffers.specs.declared.Refusal.TheVariants.{ShortHeader, ShortCounts, TooManyRows}
use Rattle.header.specs.declared.Options.{Options}
use Rattle.header.specs.declared.Header.{Header}

-- The options of the base: at most 15,000 rows to a table, DeclSecurity does not count for HasCustomAttribute, and every class whose
-- range has a method reads its signature, as in the Rust.
abbrev pub base : Options
base = record { limit = 15_000; security = false; taker = false }

-- The byte HeapSizes, and the mask Valid: a bit for each kind of table that is present.
abbrev pub heap_sizes : List ℕ → ℕ
heap_sizes s = get_or s 6 0

abbrev pub valid : List ℕ → ℕ
valid s = le_at 8 s 8

-- The number of rows of kind k: a 4-byte count for each set bit of Valid, lowest bit first, from byte 24 on.
unfoldable pub row_count : List ℕ → ℕ → ℕ
row_count s k = cond (eqb (bit_at (valid s) k) 1) (le_at 4 s (24 + 4 * ones_below (valid s) k)) 0

abbrev pub row_counts : List ℕ → List ℕ
row_counts s = tabulate (row_count s) 0 64

-- Where the counts end.
abbrev pub counts_end : List ℕ → ℕ
counts_end s = 24 + 4 * ones_below (valid s) 64

-- Where the first table begins: heap bit 0x40 skips 4 bytes more, or all that remain.
abbrev pub tables_start : List ℕ → ℕ
tables_start s = min (length s) (counts_end s + 4 * bit_at (heap_sizes s) 6)

-- Some kind below k has more rows than the limit.
unfoldable pub over_limit : ℕ → List ℕ → ℕ → Bool
over_limit limit s zero = false
over_limit limit s (suc k) = cond (ltb limit (row_count s k)) true (over_limit limit s k)

-- That a stream opens, or why not, as the code has it.
abbrev pub Opened : Type 0
Opened = Result (Unit {0}) Refusal

-- A stream as it opens: what the code finds in it, and whether it does.
pub record Opening : Type 0 where
  pub answer : Opened
  pub heap : ℕ
  pub first : ℕ
  pub counts : List ℕ

-- A stream that is refused opens with nothing in it.
abbrev pub refused_header : Refusal → Opening
refused_header why = record { answer = Err why; heap = 0; first = 0; counts = replicate 64 0 }

-- What opening finds: refusal 1, 2 or 3, tested in this order; else the heap sizes, the place of the first table and the row counts.
unfoldable pub opened : Options → List ℕ → Opening
opened o s =
    cond (ltb (length s) 24) (refused_header ShortHeader)
    (cond (ltb (length s) (counts_end s)) (refused_header ShortCounts)
    (cond (over_limit o.limit s 64) (refused_header TooManyRows)
    (record { answer = Ok tt; heap = heap_sizes s; first = tables_start s; counts = row_counts s })))

-- What each case of the code's answer says.
abbrev pub header_says : Result Header Refusal → Opening
header_says (Ok h) = record { answer = Ok tt; heap = h.heap; first = h.first; counts = h.counts }
header_says (Err why) = refused_header why

-- What reading the counts gives: refusal 3 if one is over the limit, else all of them.
abbrev pub CountsRead : ℕ → List ℕ → Result (List ℕ) Refusal → Type 0
CountsRead limit s r = r ≡ cond (over_limit limit s 64) (Err TooManyRows) (Ok (row_counts s))
