-- Request 2026-13 of document 02: to whom each byte behind the counts belongs, where the bytes begin that no table has, and which indices
-- can have 4 bytes. It is said of the walk's reply, `walk_of` and `table_of`. The words of the request stand in quotes above what says them.
use Rattle.std.specs.Prelude.{◌≡◌, Bool, true, false, List, [], ◌∷◌, ◌⊎◌, ℕ, ◌+◌, ◌*◌, ◌≤◌, ◌<◌, length, get_or}
use Rattle.buffers.specs.Replies.{value}
use Rattle.header.specs.Stream.{base, opened, counts_end}
use Rattle.header.specs.declared.Options.{Options}
use Rattle.std.specs.Prelude.{Ok}
use Rattle.layouts.specs.Columns.{Column, Two, Four, String, Guid, Blob, TypeDef, Field, MethodDef, Param, Event, Property}
use Rattle.layouts.specs.Columns.{ModuleRef, AssemblyRef, GenericParam, TypeDefOrRef, HasConstant, HasCustomAttribute}
use Rattle.layouts.specs.Columns.{HasFieldMarshall, HasDeclSecurity, MemberRefParent, HasSemantics, MethodDefOrRef}
use Rattle.layouts.specs.Columns.{MemberForwarded, Implementation, CustomAttributeType, ResolutionScope, TypeOrMethodDef}
use Rattle.layouts.specs.Columns.{index_sizes, width_in, row_size}
use Rattle.tables.specs.Extents.{start_of, row_size_in, sizes_in, walk_of}
use Rattle.tables.specs.Apart.{Inside, table_of}

-- To whom a byte may belong: a table, by its kind, or the rest.
pub data Owner : Type 0 where
  Table : ℕ → Owner
  Rest : Owner

-- By the options and the tables stream:
module _ (o : Options) (s : List ℕ) where
  -- Where the first table begins, or would begin, and the row count of kind k.
  abbrev pub first_at : ℕ
  first_at = (opened o s).first

  abbrev pub count_of : ℕ → ℕ
  count_of k = get_or (opened o s).counts k 0

  -- Where kind k begins, or would begin: behind all tables before it.
  abbrev pub begin_of : ℕ → ℕ
  begin_of k = start_of (row_size_in o (opened o s)) (opened o s).counts (length s) first_at k

  -- "fully read": kind k has rows, and the reply gives all of them.
  pub record FullyRead (k : ℕ) : Type 0 where
    pub some : 0 < count_of k
    pub all : (table_of o s k).rows ≡ count_of k

  -- Where the table of kind k ends, by the reply.
  abbrev pub end_of : ℕ → ℕ
  end_of k = (table_of o s k).start + (table_of o s k).rows * (table_of o s k).size

  -- And by the kind that the reply names:
  module _ (named : ℕ) where
    -- "the rest begins where the named kind would begin"
    abbrev pub rest_at : ℕ
    rest_at = begin_of named

    -- A fully read table has the bytes of its rows. The rest has those from where it begins to the stream's end.
    abbrev pub Belongs : ℕ → Owner → Type 0
    Belongs p (Table k) = FullyRead k × Inside (table_of o s k) p
    Belongs p Rest = (rest_at ≤ p) × (p < length s)

    pub record Partitioned : Type 0 where
      -- A table's bytes are those of the walk's reply: its start, its row size and its whole rows.
      pub replied : (k : ℕ) → table_of o s k ≡ record {
        start = get_or (walk_of o s).starts k 0;
        size = get_or (walk_of o s).sizes k 0;
        rows = get_or (walk_of o s).rows k 0;
      }
      -- "after the counts and the skipped four or fewer": the first table begins where the counts end, or up to four bytes later.
      pub skipped : (counts_end s ≤ first_at) × (first_at ≤ counts_end s + 4)
      -- "each byte .. belongs to exactly one fully read table or to the rest": it has an owner, and any other is the same;
      pub one : (p : ℕ) → first_at ≤ p → p < length s → (x : Owner) × (Belongs p x) × ((y : Owner) → Belongs p y → x ≡ y)
      -- no other byte has any.
      pub only : (p : ℕ) (x : Owner) → Belongs p x → (first_at ≤ p) × (p < length s)
      -- Fully read are the tables before the named kind, all there are if 64, and no others.
      pub passed : (k : ℕ) → k < named → 0 < count_of k → FullyRead k
      pub no-others : (k : ℕ) → FullyRead k → k < named
      -- So the whole rows of a table that is cut belong to the rest.
      pub cut : (k p : ℕ) → (table_of o s k).rows < count_of k → Inside (table_of o s k) p → Belongs p Rest
      -- "the rest begins where the named kind would begin": where the named kind is a known one, the reply says where that is.
      pub begins : named < 45 → (table_of o s named).start ≡ rest_at
      -- "or after the last table if 64": for 64, and for every other kind too, it begins where the last fully read table ends,
      pub after : (k : ℕ) → FullyRead k → ((j : ℕ) → FullyRead j → j ≤ k) → rest_at ≡ end_of k
      -- and, if there is none, where the first would begin.
      pub alone : ((k : ℕ) → FullyRead k → ⊥) → rest_at ≡ first_at

-- "for every stream that is not refused", and all options: the walk's reply names a kind, and with the kind that it names all of this holds.
pub record Partition : Type 0 where
  pub names : (o : Options) (s : List ℕ) → (opened o s).answer ≡ (Ok tt) → (named : ℕ) × ((walk_of o s).stop ≡ value named)
  pub holds : (o : Options) (s : List ℕ) (named : ℕ) → (walk_of o s).stop ≡ value named → Partitioned o s named

-- "indices that depend on row counts": the 22 into one or several tables.
abbrev pub by_rows : Column → Bool
by_rows Two = false
by_rows Four = false
by_rows String = false
by_rows Guid = false
by_rows Blob = false
by_rows TypeDef = true
by_rows Field = true
by_rows MethodDef = true
by_rows Param = true
by_rows Event = true
by_rows Property = true
by_rows ModuleRef = true
by_rows AssemblyRef = true
by_rows GenericParam = true
by_rows TypeDefOrRef = true
by_rows HasConstant = true
by_rows HasCustomAttribute = true
by_rows HasFieldMarshall = true
by_rows HasDeclSecurity = true
by_rows MemberRefParent = true
by_rows HasSemantics = true
by_rows MethodDefOrRef = true
by_rows MemberForwarded = true
by_rows Implementation = true
by_rows CustomAttributeType = true
by_rows ResolutionScope = true
by_rows TypeOrMethodDef = true

-- "HasCustomAttribute, MemberRefParent and CustomAttributeType"
abbrev pub OfThree : Column → Type 0
OfThree c = (c ≡ HasCustomAttribute) ⊎ ((c ≡ MemberRefParent) ⊎ (c ≡ CustomAttributeType))

-- "under the old limit", the base's
abbrev pub old_limit : ℕ
old_limit = 15_000

-- The bytes of a column in a stream.
abbrev pub width_of : Options → List ℕ → Column → ℕ
width_of o s c = width_in (sizes_in o (opened o s)) c

-- A stream with one table: the first byte of Valid, which has its kind's bit, and 256 times so many rows.
abbrev pub one_table : ℕ → ℕ → List ℕ
one_table mask rows =
    0 ∷ 0 ∷ 0 ∷ 0 ∷ 2 ∷ 0 ∷ 0 ∷ 1 ∷ mask ∷ 0 ∷ 0 ∷ 0 ∷ 0 ∷ 0 ∷ 0 ∷ 0 ∷ 0 ∷ 0 ∷ 0 ∷ 0 ∷ 0 ∷ 0 ∷ 0 ∷ 0 ∷ 0 ∷ rows ∷ 0 ∷ 0 ∷ []

-- A stream that opens in the base, in which the column has 4 bytes.
abbrev pub Widens : List ℕ → Column → Type 0
Widens s c = ((opened base s).answer ≡ (Ok tt)) × (width_of base s c ≡ 4)

pub record FourBytes : Type 0 where
  -- "only HasCustomAttribute, MemberRefParent and CustomAttributeType can have 4 bytes": no other does under any limit of up to 15,000 rows;
  pub only : (o : Options) (s : List ℕ) (c : Column) → o.limit ≤ old_limit → by_rows c ≡ true → width_of o s c ≡ 4 → OfThree c
  -- each of the three does in some stream: 2,048 rows of Field, 8,192 of TypeDef, 8,192 of MethodDef.
  pub attribute : Widens (one_table 0x10 0x08) HasCustomAttribute
  pub parent : Widens (one_table 0x04 0x20) MemberRefParent
  pub type : Widens (one_table 0x40 0x20) CustomAttributeType
  -- "among indices that depend on row counts": the other columns have the same bytes whatever the counts.
  pub others : (decl : Bool) (heap : ℕ) (cs ds : List ℕ) (c : Column) → by_rows c ≡ false
      → width_in (index_sizes decl heap cs) c ≡ width_in (index_sizes decl heap ds) c
  -- In the walk's reply a row has the bytes of its columns, one after the other.
  pub sums : (o : Options) (s : List ℕ) (k : ℕ) → k < 45 → 0 < (table_of o s k).rows → (table_of o s k).size ≡ row_size (width_of o s) k
