-- Where tables lie: the laws behind `TablesApart`. Assumes nothing.
use mathlib.Core.Path.{◌≡◌, refl, sym, subst}
use mathlib.Core.Bool.{Bool, true, false, cond}
use mathlib.Core.List.{List}
use Prim.Native.Nat.{ℕ, zero, suc, ◌+◌, ◌-◌, ◌*◌, ◌/◌, ◌≤◌, ◌<◌, min, zero-le}
use native.Mathlib.Nat.{le_refl, mul-le-mul_right, zero-mul, add-zero, add-suc, div-mul-le_self}
use native.Mathlib.Decide.{dec_lt}
use native.Mathlib.Omega.{arith}
use lib.Dec.{leb}
use lib.ListN.{length, get_or, replicate, length-replicate, get_or-replicate, get_or-eq_default}
use Rattle.numbers.specs.Lists.{tabulate}
use Rattle.numbers.proofs.Lists.{table_at, tabulate-length}
use Rattle.header.specs.Stream.{opened, Opening, Opened}
use Rattle.header.specs.declared.Options.{Options}
use Rattle.std.specs.Prelude.{Err, Ok}
use Rattle.header.proofs.Cases.{ready-first}
use Rattle.layouts.specs.Columns.{width_in, row_size}
use Rattle.layouts.specs.declared.IndexSizes.{IndexSizes}
use Rattle.layouts.proofs.Facts.{size-pos}
use Rattle.tables.specs.Extents.{start_of, is_table, stop_kind, whole_rows, if_reached, walked, row_size_in, counted, sizes_in, answered, walk_by, Extent, extent_by, extent}
use Rattle.tables.specs.Apart.{Inside, TablesApart}

zeros : (k : ℕ) → get_or (replicate {A = ℕ} 64 0) k 0 ≡ 0
zeros k = go (dec_lt k 64)
  where
    go : Dec (k < 64) → get_or (replicate {A = ℕ} 64 0) k 0 ≡ 0
    go (yes l) = get_or-replicate 64 k 0 0 l
    go (no l) = get_or-eq_default (replicate 64 0) 0 {n = k} (omega (arith, length-replicate {A = ℕ} 64 0))

pub past : (g : ℕ → ℕ) (k : ℕ) → 64 ≤ k → get_or (tabulate g 0 64) k 0 ≡ 0
past g k l = get_or-eq_default (tabulate g 0 64) 0 {n = k} (omega (arith, tabulate-length g 0 64))

module _ (size : ℕ → ℕ) (counts : List ℕ) (n first : ℕ) where
  -- Starts rise with the kinds.
  starts-rise : (k d : ℕ) → start_of size counts n first k ≤ start_of size counts n first (k + d)
  unfolding start_of
  starts-rise k zero = rw add-zero (le_refl _)
  starts-rise k (suc d) = rw add-suc (omega (arith, starts-rise k d))

  pub rise : (k m : ℕ) → k ≤ m → start_of size counts n first k ≤ start_of size counts n first m
  rise k m l = let e : k + (m - k) ≡ m = omega arith in rw e at (starts-rise k (m - k))

  -- A byte of kind k lies between its start and the next kind's, after the first table's start and within the stream.
  pub record Lies (k p : ℕ) : Type 0 where
    pub low : start_of size counts n first k ≤ p
    pub high : p < start_of size counts n first (suc k)
    pub from : first ≤ p
    pub within : p < n

  -- The three values of a kind, by whether it is reached and is a table.
  abbrev pub seen : Bool → Bool → ℕ → Extent
  seen a b k =
      record {
        start = cond a (cond b (start_of size counts n first k) 0) 0;
        size = cond a (cond b (size k) 0) 0;
        rows = cond a (cond b (whole_rows size counts n first k) 0) 0;
      }

  pub from_first : (k : ℕ) → first ≤ start_of size counts n first k
  unfolding start_of
  from_first k = rise zero k (omega arith)

  lies-seen : (a b : Bool) (k p : ℕ) → Inside (seen a b k) p → Lies k p
  unfolding start_of whole_rows
  lies-seen false b k p i = absurd (omega (arith, zero-mul 0))
  lies-seen true false k p i = absurd (omega (arith, zero-mul 0))
  lies-seen true true k p i =
      let room : ℕ = n - start_of size counts n first k in
      let few : min (get_or counts k 0) (room / size k) * size k ≤ get_or counts k 0 * size k = mul-le-mul_right (size k) (omega arith) in
      let fit : min (get_or counts k 0) (room / size k) * size k ≤ room / size k * size k = mul-le-mul_right (size k) (omega arith) in
      let most = div-mul-le_self room (size k) in
      record { low = i.0; high = omega arith; from = omega (arith, from_first k); within = omega arith }

  abbrev pub table : ℕ → Extent
  table k =
      record {
        start = get_or (walked size counts n first).starts k 0;
        size = get_or (walked size counts n first).sizes k 0;
        rows = get_or (walked size counts n first).rows k 0;
      }

  -- What the reply has of a kind is what is seen of it.
  pub as_seen : (k : ℕ) → k < 64 → table k ≡ seen (leb k (stop_kind size counts n first)) (is_table size counts n first k) k
  unfolding walked if_reached
  as_seen k l =
      rw (
        table_at (if_reached size counts n first (start_of size counts n first)) 0 64 k l,
        table_at (if_reached size counts n first size) 0 64 k l,
        table_at (if_reached size counts n first (whole_rows size counts n first)) 0 64 k l,
      )

  lies : (k p : ℕ) → Inside (table k) p → Lies k p
  unfolding walked if_reached
  lies k p i = go (dec_lt k 64)
    where
      go : Dec (k < 64) → Lies k p
      go (yes l) =
          lies-seen (leb k (stop_kind size counts n first)) (is_table size counts n first k) k p
          (subst (λ (e : Extent). Inside e p) (as_seen k l) i)
      go (no l) =
          let a = past (if_reached size counts n first (start_of size counts n first)) k (omega arith) in
          let b = past (if_reached size counts n first size) k (omega arith) in
          let c = past (if_reached size counts n first (whole_rows size counts n first)) k (omega arith) in
          absurd (omega (arith, zero-mul 0, rw (a, b, c) at i))

  -- Of two kinds with one byte neither comes before the other.
  not-before : (j k p : ℕ) → Lies j p → Lies k p → j < k → ⊥
  not-before j k p a b l = let up = rise (suc j) k l in omega (arith, a.high, b.low)

  pub one-kind : (j k p : ℕ) → Lies j p → Lies k p → j ≡ k
  one-kind j k p a b = go (dec_lt j k) (dec_lt k j)
    where
      go : Dec (j < k) → Dec (k < j) → j ≡ k
      go (yes l) m = absurd (not-before j k p a b l)
      go (no l) (yes m) = absurd (not-before k j p b a m)
      go (no l) (no m) = omega arith

-- A byte of a table: the stream is opened, and the byte lies there.
pub record Found (o : Options) (h : Opening) (n k p : ℕ) : Type 0 where
  pub ready : h.answer ≡ (Ok tt)
  pub lies_at : Lies (row_size_in o h) h.counts n h.first k p

found-by : (o : Options) (h : Opening) (n : ℕ) (a : Opened) (k p : ℕ) → h.answer ≡ a
    → (let r = answered a (sizes_in o h) h n in Inside (record { start = get_or r.starts k 0; size = get_or r.sizes k 0; rows = get_or r.rows k 0 }) p)
    → Found o h n k p
found-by o h n (Err why) k p e i = absurd (omega (arith, zero-mul 0, rw (zeros k) at i))
found-by o h n (Ok tt) k p e i = record { ready = e; lies_at = lies (row_size_in o h) h.counts n h.first k p i }

pub found : (o : Options) (h : Opening) (n k p : ℕ) → Inside (extent o h n k) p → Found o h n k p
unfolding extent_by walk_by
found o h n k p i = found-by o h n h.answer k p refl i

-- A table with rows in it: its row size is that of its columns, and its rows lie within the stream.
pub record Stands (o : Options) (h : Opening) (n k : ℕ) : Type 0 where
  pub sized : (extent o h n k).size ≡ row_size_in o h k
  pub within : (extent o h n k).start + (extent o h n k).rows * (extent o h n k).size ≤ n

module _ (size : ℕ → ℕ) (counts : List ℕ) (n first : ℕ) where
  stands-seen : (a b : Bool) (k : ℕ) → 0 < size k → 0 < (seen size counts n first a b k).rows
      → ((seen size counts n first a b k).size ≡ size k)
      × ((seen size counts n first a b k).start + (seen size counts n first a b k).rows * (seen size counts n first a b k).size ≤ n)
  unfolding whole_rows
  stands-seen false b k z h = absurd (omega arith)
  stands-seen true false k z h = absurd (omega arith)
  stands-seen true true k z h =
      let room : ℕ = n - start_of size counts n first k in
      let one : 1 * size k ≤ min (get_or counts k 0) (room / size k) * size k = mul-le-mul_right (size k) h in
      let fit : min (get_or counts k 0) (room / size k) * size k ≤ room / size k * size k = mul-le-mul_right (size k) (omega arith) in
      let most = div-mul-le_self room (size k) in
      (refl, omega arith)

  stands-table : (k : ℕ) → k < 64 → 0 < size k → 0 < (table size counts n first k).rows
      → ((table size counts n first k).size ≡ size k)
      × ((table size counts n first k).start + (table size counts n first k).rows * (table size counts n first k).size ≤ n)
  stands-table k l z h =
      let e = as_seen size counts n first k l in
      subst (λ (x : Extent). (x.size ≡ size k) × (x.start + x.rows * x.size ≤ n)) (sym e)
      (stands-seen (leb k (stop_kind size counts n first)) (is_table size counts n first k) k z (subst (λ (x : Extent). 0 < x.rows) e h))

stands_by : (w : IndexSizes) (h : Opening) (n : ℕ) (a : Opened) (k : ℕ) → k < 64 → 0 < row_size (width_in w) k → 0 < get_or (answered a w h n).rows k 0
    → (get_or (answered a w h n).sizes k 0 ≡ row_size (width_in w) k)
    × (get_or (answered a w h n).starts k 0 + get_or (answered a w h n).rows k 0 * get_or (answered a w h n).sizes k 0 ≤ n)
stands_by w h n (Err why) k l z r = absurd (omega (arith, zeros k))
stands_by w h n (Ok tt) k l z r = stands-table (row_size (width_in w)) h.counts n h.first k l z r

pub stands : (o : Options) (h : Opening) (n k : ℕ) → k < 45 → 0 < (extent o h n k).rows → Stands o h n k
unfolding extent_by walk_by
stands o h n k l r =
    let s = stands_by (sizes_in o h) h n h.answer k (omega arith) (size-pos (counted o h) h.heap h.counts k l) r in
    record { sized = s.0; within = s.1 }

-- A table has at most as many whole rows as its count.
module _ (size : ℕ → ℕ) (counts : List ℕ) (n first : ℕ) where
  few-seen : (a b : Bool) (k : ℕ) → (seen size counts n first a b k).rows ≤ get_or counts k 0
  unfolding whole_rows
  few-seen false b k = zero-le
  few-seen true false k = zero-le
  few-seen true true k = omega arith

few-by : (w : IndexSizes) (h : Opening) (n : ℕ) (a : Opened) (k : ℕ) → k < 64 → get_or (answered a w h n).rows k 0 ≤ get_or h.counts k 0
unfolding walked if_reached
few-by w h n (Err why) k l = rw (zeros k) zero-le
few-by w h n (Ok tt) k l =
    let size = row_size (width_in w) in
    rw (table_at (if_reached size h.counts n h.first (whole_rows size h.counts n h.first)) 0 64 k l)
    (few-seen size h.counts n h.first (leb k (stop_kind size h.counts n h.first)) (is_table size h.counts n h.first k) k)

pub few-rows : (o : Options) (h : Opening) (n k : ℕ) → k < 64 → (extent o h n k).rows ≤ get_or h.counts k 0
unfolding extent_by walk_by
few-rows o h n k l = few-by (sizes_in o h) h n h.answer k l

pub tables-apart : TablesApart
tables-apart =
    record {
      apart = λ o s j k p a b.
          one-kind _ _ _ _ j k p (found o (opened o s) (length s) j p a).lies_at (found o (opened o s) (length s) k p b).lies_at;
      after = λ o s k p i.
          let f = found o (opened o s) (length s) k p i in
          omega (arith, f.lies_at.from, ready-first o s f.ready);
      within = λ o s k p i. (found o (opened o s) (length s) k p i).lies_at.within;
    }
