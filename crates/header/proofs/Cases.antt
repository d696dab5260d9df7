-- Opening by its cases: what a caller cites. Assumes nothing.
use mathlib.Core.Path.{◌≡◌, refl}
use mathlib.Core.Bool.{Bool, true, false, cond}
use mathlib.Core.List.{List}
use Rattle.std.specs.Prelude.{Ok}
use Prim.Native.Nat.{ℕ, zero, suc, ◌+◌, ◌≤◌, ◌<◌, zero-le}
use native.Mathlib.Nat.{not-suc-le-zero}
use native.Mathlib.Decide.{dec_lt}
use native.Mathlib.Omega.{arith}
use borrow.Author.Tests.{ltb-false}
use lib.Dec.{ltb}
use lib.ListN.{length, get_or, get_or-replicate, length-replicate, get_or-eq_default}
use Rattle.numbers.specs.Bits.{bit_at}
use Rattle.numbers.proofs.Lists.{table_at, tabulate-length}
use Rattle.buffers.specs.declared.Refusal.{Refusal}
use Rattle.buffers.specs.declared.Refusal.TheVariants.{ShortHeader, ShortCounts, TooManyRows}
use Rattle.header.specs.Stream.{Opening, heap_sizes, row_count, row_counts, counts_end, tables_start, over_limit, refused_header, opened}
use Rattle.header.specs.declared.Options.{Options}

abbrev ready : List ℕ → Opening
ready s = record { answer = Ok tt; heap = heap_sizes s; first = tables_start s; counts = row_counts s }

-- Opening by its two ends: what holds of every refusal, and of a stream whose counts are there and within the limit.
opened-by : (P : Opening → Type 0) (o : Options) (s : List ℕ) → ((why : Refusal) → P (refused_header why))
    → (counts_end s ≤ length s → over_limit o.limit s 64 ≡ false → P (ready s)) → P (opened o s)
unfolding opened
opened-by P o s none all = go (ltb (length s) 24) (ltb (length s) (counts_end s)) (over_limit o.limit s 64) refl refl
  where
    go : (short cut over : Bool) → ltb (length s) (counts_end s) ≡ cut → over_limit o.limit s 64 ≡ over
        → P (cond short (refused_header ShortHeader) (cond cut (refused_header ShortCounts) (cond over (refused_header TooManyRows) (ready s))))
    go true cut over c e = none ShortHeader
    go false true over c e = none ShortCounts
    go false false true c e = none TooManyRows
    go false false false c e = all (ltb-false (length s) (counts_end s) c) e

-- The first table begins within the stream, and four bytes after the counts at most;
pub first-within : (o : Options) (s : List ℕ) → (opened o s).first ≤ length s
first-within o s = opened-by (λ (h : Opening). h.first ≤ length s) o s (λ why. zero-le) (λ l e. omega arith)

pub first-most : (o : Options) (s : List ℕ) → (opened o s).first ≤ counts_end s + 4
unfolding bit_at
first-most o s = opened-by (λ (h : Opening). h.first ≤ counts_end s + 4) o s (λ why. zero-le) (λ l e. omega arith)

-- and that of a stream that opens begins after the counts.
pub ready-first : (o : Options) (s : List ℕ) → (opened o s).answer ≡ Ok tt → counts_end s ≤ (opened o s).first
ready-first o s =
    opened-by (λ (h : Opening). h.answer ≡ Ok tt → counts_end s ≤ h.first) o s (λ why r. let z : ◌≡◌ {A = ℕ} 0 1 = cc in absurd (omega arith))
    (λ l e r. omega arith)

-- No count of an opened stream is over the limit.
few-below : (limit : ℕ) (s : List ℕ) (n k : ℕ) → over_limit limit s n ≡ false → k < n → row_count s k ≤ limit
unfolding over_limit
few-below limit s zero k e h = absurd (not-suc-le-zero h)
few-below limit s (suc n) k e h = go (ltb limit (row_count s n)) refl e (dec_lt k n) (λ c l. few-below limit s n k c l)
  where
    go : (b : Bool) → ltb limit (row_count s n) ≡ b → cond b true (over_limit limit s n) ≡ false → Dec (k < n)
        → (over_limit limit s n ≡ false → k < n → row_count s k ≤ limit) → row_count s k ≤ limit
    go true q c d before = let z : ◌≡◌ {A = ℕ} 0 1 = cc in absurd (omega arith)
    go false q c (yes l) before = before c l
    go false q c (no l) before =
        let same : k ≡ n = omega arith in
        rw same (ltb-false limit (row_count s n) q)

pub few-counted : (o : Options) (s : List ℕ) (k : ℕ) → k < 64 → get_or (opened o s).counts k 0 ≤ o.limit
few-counted o s k h =
    opened-by (λ (x : Opening). get_or x.counts k 0 ≤ o.limit) o s (λ why. rw (get_or-replicate {A = ℕ} 64 k 0 0 h) zero-le)
    (λ l e. rw (table_at (row_count s) 0 64 k h) (few-below o.limit s 64 k e h))

-- There are 64 counts: no kind past the last has rows, so that no count at all is over the limit.
counts-many : (o : Options) (s : List ℕ) → length (opened o s).counts ≡ 64
counts-many o s =
    opened-by (λ (h : Opening). length h.counts ≡ 64) o s (λ why. length-replicate {A = ℕ} 64 0) (λ l e. tabulate-length (row_count s) 0 64)

pub all-counted : (o : Options) (s : List ℕ) (k : ℕ) → get_or (opened o s).counts k 0 ≤ o.limit
all-counted o s k = go (dec_lt k 64)
  where
    go : Dec (k < 64) → get_or (opened o s).counts k 0 ≤ o.limit
    go (yes l) = few-counted o s k l
    go (no l) = rw (get_or-eq_default (opened o s).counts 0 {n = k} (omega (arith, counts-many o s))) zero-le
