-- The walk over the tables (ECMA-335 II.24.2.6; the loop of `add_metadata_tables`, `parse_table_type`): where each table begins, its row
-- size, the whole rows that fit, where the walk is left, and which rows are kept. All of it is a function of the index sizes, of what
-- opening found and of the stream's length.
use Rattle.std.specs.Prelude.{◌≡◌, ◌<◌, Bool, true, false, cond, ◌&&◌, ◌||◌, not, List, ℕ, zero, suc, ◌+◌, ◌*◌, ◌-◌, ◌/◌, min, ltb, leb, eqb, length, get_or, replicate}
use Rattle.numbers.specs.Lists.{tabulate}
use Rattle.buffers.specs.Replies.{Answer, refused_by, value, reply_says}
use Rattle.buffers.specs.declared.Refusal.{Refusal}
use Rattle.header.specs.Stream.{opened, Opening, Opened}
use Rattle.header.specs.declared.Options.{Options}
use Rattle.std.specs.Prelude.{Err, Ok}
use Rattle.layouts.specs.Kinds.{type_ref, interface_impl, member_ref, type_spec}
use Rattle.layouts.specs.Columns.{index_sizes, width_in, row_size}
use Rattle.layouts.specs.declared.IndexSizes.{IndexSizes}
use Rattle.tables.specs.declared.Extents.{Extents}

-- The walk's entire reply: the stopping kind, 64 if there is none, or the number that says no; and for each of the 64 kinds where it
-- begins in the stream, its row size and its whole rows.
pub record Walked : Type 0 where
  pub stop : Answer ℕ
  pub starts : List ℕ
  pub sizes : List ℕ
  pub rows : List ℕ

-- What the code's reply says.
abbrev pub walk_says : Extents → Walked
walk_says w = record { stop = reply_says w.answer; starts = w.starts; sizes = w.sizes; rows = w.rows }

-- By the row size of each kind, the row counts, the stream's length and where the first table begins:
module _ (size : ℕ → ℕ) (counts : List ℕ) (n first : ℕ) where
  -- Tables adjoin: where kind k begins, if the walk reaches it.
  unfoldable pub start_of : ℕ → ℕ
  start_of zero = first
  start_of (suc k) = start_of k + get_or counts k 0 * size k

  -- Kind k has rows and is one of the 45 known kinds.
  unfoldable pub is_table : ℕ → Bool
  is_table k = cond (ltb 0 (get_or counts k 0)) (ltb k 45) false

  -- The walk goes on past kind k: it has no rows, or it is known and ends within the stream.
  unfoldable pub passes : ℕ → Bool
  passes k = cond (ltb 0 (get_or counts k 0)) (cond (ltb k 45) (leb (start_of (k + 1)) n) false) true

  -- The first of m kinds from k on that the walk does not pass, or the one after them.
  unfoldable pub stop_from : ℕ → ℕ → ℕ
  stop_from zero k = k
  stop_from (suc m) k = cond (passes k) (stop_from m (k + 1)) k

  unfoldable pub stop_kind : ℕ
  stop_kind = stop_from 64 0

  -- The rows of kind k that are whole in what is left of the stream, up to its count.
  unfoldable pub whole_rows : ℕ → ℕ
  whole_rows k = min (get_or counts k 0) ((n - start_of k) / size k)

  -- A value of kind k: 0 where the kind is empty, unknown or not reached.
  unfoldable pub if_reached : (ℕ → ℕ) → ℕ → ℕ
  if_reached g k = cond (leb k stop_kind) (cond (is_table k) (g k) 0) 0

  unfoldable pub walked : Walked
  walked =
      record {
        stop = value stop_kind;
        starts = tabulate (if_reached start_of) 0 64;
        sizes = tabulate (if_reached size) 0 64;
        rows = tabulate (if_reached whole_rows) 0 64;
      }

-- What the code asks for the row size of a known kind is given by size. post relates a kind to what may be answered.
abbrev pub Gives : (ℕ → ℕ → Type 0) → (ℕ → ℕ) → Type 0
Gives post size = (k r : ℕ) → k < 45 → post k r → r ≡ size k

-- The row size of a kind in a block that has 8 for each, by a setting. Past the last kind it is 0.
abbrev pub in_block : List ℕ → ℕ → ℕ → ℕ
in_block block setting kind = get_or block (8 * kind + setting) 0

-- A refused stream has no extents.
abbrev pub refused_walk : Refusal → Walked
refused_walk why = record { stop = refused_by why; starts = replicate 64 0; sizes = replicate 64 0; rows = replicate 64 0 }

-- Whether DeclSecurity counts for HasCustomAttribute (II.24.2.6): all that is read of the options once a stream is open.
abbrev pub counted : Options → Opening → Bool
counted o h = o.security

-- The index sizes and row sizes of a stream that was opened with these options.
abbrev pub sizes_in : Options → Opening → IndexSizes
sizes_in o h = index_sizes (counted o h) h.heap h.counts

abbrev pub row_size_in : Options → Opening → ℕ → ℕ
row_size_in o h = row_size (width_in (sizes_in o h))

-- The walk's reply, by the index sizes, by what opening found and by the stream's length.
abbrev pub answered : Opened → IndexSizes → Opening → ℕ → Walked
answered (Err why) w h n = refused_walk why
answered (Ok tt) w h n = walked (row_size (width_in w)) h.counts n h.first

unfoldable pub walk_by : IndexSizes → Opening → ℕ → Walked
walk_by w h n = answered h.answer w h n

-- The same by the options, and of a stream.
abbrev pub walk_reply : Options → Opening → ℕ → Walked
walk_reply o h n = walk_by (sizes_in o h) h n

abbrev pub walk_of : Options → List ℕ → Walked
walk_of o s = walk_reply o (opened o s) (length s)

-- A kind's start, row size and whole rows.
pub record Extent : Type 0 where
  pub start : ℕ
  pub size : ℕ
  pub rows : ℕ

unfoldable pub extent_by : IndexSizes → Opening → ℕ → ℕ → Extent
extent_by w h n k =
    let reply = walk_by w h n in
    record { start = get_or reply.starts k 0; size = get_or reply.sizes k 0; rows = get_or reply.rows k 0 }

abbrev pub extent : Options → Opening → ℕ → ℕ → Extent
extent o h n k = extent_by (sizes_in o h) h n k

-- TypeRef, InterfaceImpl, MemberRef and TypeSpec are kept only entire (`read_bytes` of the whole table); of every other table the whole
-- rows before a cut are kept.
unfoldable pub only_entire : ℕ → Bool
only_entire k = eqb k type_ref || (eqb k interface_impl || (eqb k member_ref || eqb k type_spec))

unfoldable pub kept_by : IndexSizes → Opening → ℕ → ℕ → ℕ
kept_by w h n k =
    let rows = (extent_by w h n k).rows in
    cond (only_entire k && not (eqb rows (get_or h.counts k 0))) 0 rows

abbrev pub kept_rows : Options → Opening → ℕ → ℕ → ℕ
kept_rows o h n k = kept_by (sizes_in o h) h n k
