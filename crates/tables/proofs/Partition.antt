-- Each byte behind the counts has one owner, and where the rest begins: the laws behind `Partition`. Assumes nothing.
use mathlib.Core.Path.{◌≡◌, refl, sym, ap, ◌∙◌, subst}
use mathlib.Core.Bool.{true}
use mathlib.Core.List.{List}
use Prim.Native.Nat.{ℕ, zero, suc, ◌+◌, ◌-◌, ◌*◌, ◌≤◌, ◌<◌}
use native.Mathlib.Nat.{zero-mul, add-zero, add-suc}
use native.Mathlib.Numerals.{add-one}
use native.Mathlib.Decide.{dec_lt}
use native.Mathlib.Omega.{arith}
use borrow.Author.Tests.{lt-ltb, le-leb, lt-leb}
use lib.ListN.{length, get_or}
use Rattle.numbers.proofs.Lists.{table_at}
use Rattle.buffers.specs.Replies.{value}
use Rattle.header.specs.Stream.{opened, Opening, Opened}
use Rattle.header.specs.declared.Options.{Options}
use Rattle.std.specs.Prelude.{Err, Ok}
use Rattle.header.proofs.Cases.{ready-first, first-most}
use Rattle.layouts.specs.Columns.{width_in, row_size}
use Rattle.layouts.specs.declared.IndexSizes.{IndexSizes}
use Rattle.layouts.proofs.Facts.{size-pos}
use Rattle.tables.specs.Extents.{start_of, is_table, stop_kind, whole_rows, if_reached, walked, answered, walk_by, walk_of}
use Rattle.tables.specs.Extents.{row_size_in, sizes_in, counted, Extent, extent_by}
use Rattle.tables.specs.Apart.{Inside, table_of}
use Rattle.tables.specs.Partition.{Owner, Table, Rest, count_of, FullyRead, end_of, rest_at, Belongs, Partitioned, Partition}
use Rattle.tables.proofs.Places.{past, rise, from_first, seen, table, as_seen, found, tables-apart}
use Rattle.tables.proofs.Stop.{passed, not-passed, passed-cases, halted-cases, next, entire, cut_short}

-- The walk over tables whose rows all have bytes.
module _ (size : ℕ → ℕ) (counts : List ℕ) (n first : ℕ) (pos : (k : ℕ) → k < 45 → 0 < size k) where
  abbrev begin : ℕ → ℕ
  begin = start_of size counts n first

  abbrev stop : ℕ
  stop = stop_kind size counts n first

  abbrev count : ℕ → ℕ
  count k = get_or counts k 0

  abbrev shown : ℕ → Extent
  shown = table size counts n first

  -- What the reply has of a table that the walk reaches,
  reached : (k : ℕ) → k ≤ stop → 0 < count k → k < 45 → shown k ≡ seen size counts n first true true k
  unfolding is_table
  reached k a b c = as_seen size counts n first k (omega arith) ∙ rw (le-leb k stop a, lt-ltb 0 (count k) b, lt-ltb k 45 c)

  rows-at : (k : ℕ) → k < 64 → (shown k).rows ≡ if_reached size counts n first (whole_rows size counts n first) k
  unfolding walked
  rows-at k l = table_at (if_reached size counts n first (whole_rows size counts n first)) 0 64 k l

  -- of one that it passes,
  record Full (k : ℕ) : Type 0 where
    starts : (shown k).start ≡ begin k
    rows : (shown k).rows ≡ count k
    ends : (shown k).start + (shown k).rows * (shown k).size ≡ begin (k + 1)

  full : (k : ℕ) → k < stop → 0 < count k → Full k
  full k h some =
      passed-cases size counts n first k (passed size counts n first k h) (λ a. absurd (omega arith))
      (λ a b c.
      let r = reached k (omega arith) some b in
      let begins = ap (λ (e : Extent). e.start) r in
      let all = rows-at k (omega arith) ∙ entire size counts n first pos k h in
      record { starts = begins; rows = all; ends = rw (begins, all, ap (λ (e : Extent). e.size) r) (sym (next size counts n first k)) })

  -- and of one that it does not: a row is lacking.
  absent : (g : ℕ → ℕ) (k : ℕ) → stop < k → if_reached size counts n first g k ≡ 0
  unfolding if_reached
  absent g k h = rw (lt-leb k stop h)

  short : (k : ℕ) → stop ≤ k → 0 < count k → (shown k).rows < count k
  unfolding walked
  short k h some = go (dec_lt k 64) (dec_lt stop k)
    where
      go : Dec (k < 64) → Dec (stop < k) → (shown k).rows < count k
      go (no l) d = rw (past (if_reached size counts n first (whole_rows size counts n first)) k (omega arith)) some
      go (yes l) (yes q) = rw (rows-at k l, absent (whole_rows size counts n first) k q) some
      go (yes l) (no q) =
          let e : stop ≡ k = omega arith in
          rw (rows-at k l) (rw e at (cut_short size counts n first pos (omega arith)))

  -- The kind at which the walk is left has rows, and begins where the reply says.
  named_start : stop < 45 → (shown stop).start ≡ begin stop
  named_start h =
      let some = halted-cases size counts n first stop (not-passed size counts n first (omega arith)) (λ a b. a) (λ a b c. a) in
      ap (λ (e : Extent). e.start) (reached stop (omega arith) some h)

  -- Kinds without rows take no bytes.
  flat : (k d : ℕ) → ((j : ℕ) → k ≤ j → j < k + d → count j ≡ 0) → begin (k + d) ≡ begin k
  flat k zero h = rw add-zero
  flat k (suc d) h =
      let e = rw (h (k + d) (omega arith) (omega arith)) at (next size counts n first (k + d)) in
      let f = flat k d (λ j a b. h j a (omega arith)) in
      rw (add-suc, ← add-one) (omega (arith, zero-mul (size (k + d))))

  -- A byte before the start of kind m, which the walk reaches, lies in a table that it passed.
  held : (p m : ℕ) → m ≤ stop → first ≤ p → p < begin m → (k : ℕ) × (k < m) × (0 < count k) × Inside (shown k) p
  unfolding start_of
  held p zero h a b = absurd (omega arith)
  held p (suc m) h a b = go (dec_lt p (begin m)) (dec_lt 0 (count m)) (λ l. held p m (omega arith) a l)
    where
      go : Dec (p < begin m) → Dec (0 < count m) → (p < begin m → (k : ℕ) × (k < m) × (0 < count k) × Inside (shown k) p)
          → (k : ℕ) × (k < suc m) × (0 < count k) × Inside (shown k) p
      go (yes l) c f = let r = f l in (r.0, omega (arith, r.1), r.2, r.3)
      go (no l) (yes c) f =
          let u = full m h c in
          (m, omega arith, c, (omega (arith, u.starts), omega (arith, u.ends, next size counts n first m)))
      go (no l) (no c) f =
          let z : count m ≡ 0 = omega arith in
          let q = rw z at b in
          absurd (omega (arith, zero-mul (size m)))

-- A reply that names a kind is of a stream that opens, and names where its walk is left.
left_by : (w : IndexSizes) (h : Opening) (n named : ℕ) (a : Opened) → h.answer ≡ a → (answered a w h n).stop ≡ value named
    → (h.answer ≡ (Ok tt)) × (stop_kind (row_size (width_in w)) h.counts n h.first ≡ named)
unfolding walked
left_by w h n named (Err why) e r = let z : ◌≡◌ {A = ℕ} 0 1 = cc in absurd (omega arith)
left_by w h n named (Ok tt) e r = (e, cc)

left : (o : Options) (s : List ℕ) (named : ℕ) → (walk_of o s).stop ≡ value named
    → ((opened o s).answer ≡ (Ok tt)) × (stop_kind (row_size_in o (opened o s)) (opened o s).counts (length s) (opened o s).first ≡ named)
unfolding walk_by
left o s named r = left_by (sizes_in o (opened o s)) (opened o s) (length s) named (opened o s).answer refl r

-- The same of a stream that opens.
module _ (o : Options) (s : List ℕ) (ready : (opened o s).answer ≡ (Ok tt)) where
  abbrev sizes : ℕ → ℕ
  sizes = row_size_in o (opened o s)

  abbrev cs : List ℕ
  cs = (opened o s).counts

  abbrev at : ℕ
  at = (opened o s).first

  abbrev kind : ℕ
  kind = stop_kind sizes cs (length s) at

  have-bytes : (k : ℕ) → k < 45 → 0 < sizes k
  have-bytes = size-pos (counted o (opened o s)) (opened o s).heap cs

  is-shown : (k : ℕ) → table_of o s k ≡ table sizes cs (length s) at k
  unfolding extent_by walk_by
  is-shown k = rw ready

  -- Fully read are the tables that the walk passes.
  fully : (k : ℕ) → k < kind → 0 < count_of o s k → FullyRead o s k
  fully k h some =
      let rows = ap (λ (e : Extent). e.rows) (is-shown k) ∙ (full sizes cs (length s) at have-bytes k h some).rows in
      record { some = omega arith; all = omega (arith, rows) }

  module _ (k : ℕ) (f : FullyRead o s k) where
    before-kind : k < kind
    before-kind = go (dec_lt k kind)
      where
        go : Dec (k < kind) → k < kind
        go (yes l) = l
        go (no l) = absurd (omega (arith, rw (is-shown k) at f.all, short sizes cs (length s) at have-bytes k (omega arith) (omega (arith, f.some))))

    ends_at : end_of o s k ≡ start_of sizes cs (length s) at (k + 1)
    ends_at = rw (is-shown k) (full sizes cs (length s) at have-bytes k before-kind (omega (arith, f.some))).ends

    -- No byte of theirs lies in the rest.
    not-both : (p : ℕ) → Inside (table_of o s k) p → Belongs o s kind p Rest → ⊥
    not-both p i r = omega (arith, i.1, ends_at, r.0, rise sizes cs (length s) at (k + 1) kind (omega (arith, before-kind)))

  same-owner : (p : ℕ) (x y : Owner) → Belongs o s kind p x → Belongs o s kind p y → x ≡ y
  same-owner p (Table j) (Table k) a b = ap Table (tables-apart.apart o s j k p a.1 b.1)
  same-owner p (Table j) Rest a b = absurd (not-both j a.0 p a.1 b)
  same-owner p Rest (Table k) a b = absurd (not-both k b.0 p b.1 a)
  same-owner p Rest Rest a b = refl

  owner : (p : ℕ) → at ≤ p → p < length s → (x : Owner) × Belongs o s kind p x
  owner p a b = go (dec_lt p (start_of sizes cs (length s) at kind))
    where
      go : Dec (p < start_of sizes cs (length s) at kind) → (x : Owner) × Belongs o s kind p x
      go (yes l) =
          let f = held sizes cs (length s) at have-bytes p kind (omega arith) a l in
          (Table f.0, (fully f.0 f.1 f.2, rw (is-shown f.0) f.3))
      go (no l) = (Rest, (omega arith, omega arith))

  owned : (p : ℕ) (x : Owner) → Belongs o s kind p x → (at ≤ p) × (p < length s)
  owned p (Table k) b = let l = (found o (opened o s) (length s) k p b.1).lies_at in (l.from, l.within)
  owned p Rest b = (omega (arith, b.0, from_first sizes cs (length s) at kind), omega (arith, b.1))

  -- A byte of a table that is cut has an owner, which is no other table, nor this one.
  in_rest : (k p : ℕ) → (table_of o s k).rows < count_of o s k → Inside (table_of o s k) p → Belongs o s kind p Rest
  in_rest k p short i = let l = (found o (opened o s) (length s) k p i).lies_at in let w = owner p l.from l.within in go w.0 w.1
    where
      go : (x : Owner) → Belongs o s kind p x → Belongs o s kind p Rest
      go (Table j) b = let e = tables-apart.apart o s j k p b.1 i in absurd (omega (arith, rw e at b.0.all))
      go Rest b = b

  -- Kinds from one on, up to the stop, none of which is fully read, take no bytes.
  up-to-rest : (k : ℕ) → k ≤ kind → ((j : ℕ) → k ≤ j → FullyRead o s j → ⊥) → rest_at o s kind ≡ start_of sizes cs (length s) at k
  up-to-rest k h none =
      let e : k + (kind - k) ≡ kind = omega arith in
      rw e at (flat sizes cs (length s) at have-bytes k (kind - k) (λ j a b. go j a (omega arith) (dec_lt 0 (count_of o s j))))
    where
      go : (j : ℕ) → k ≤ j → j < kind → Dec (0 < count_of o s j) → count_of o s j ≡ 0
      go j a b (yes l) = absurd (none j a (fully j b l))
      go j a b (no l) = omega arith

  partitioned : Partitioned o s kind
  unfolding extent_by start_of
  partitioned =
      record {
        replied = λ k. refl;
        skipped = (omega (arith, ready-first o s ready), omega (arith, first-most o s));
        one = λ p a b. let w = owner p a b in (w.0, w.1, λ y c. same-owner p w.0 y w.1 c);
        only = owned;
        passed = fully;
        no-others = before-kind;
        cut = in_rest;
        begins = λ h. ap (λ (e : Extent). e.start) (is-shown kind) ∙ named_start sizes cs (length s) at have-bytes h;
        after = λ k f last.
            up-to-rest (k + 1) (omega (arith, before-kind k f)) (λ j a g. omega (arith, last j g)) ∙ sym (ends_at k f);
        alone = λ none. up-to-rest 0 (omega arith) (λ j a g. none j g);
      }

pub partition : Partition
unfolding walk_by walked
partition =
    record {
      names = λ o s r. (kind o s r, rw r);
      holds = λ o s named r. let l = left o s named r in subst (Partitioned o s) l.1 (partitioned o s l.0);
    }
