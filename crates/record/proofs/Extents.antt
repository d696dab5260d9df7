-- What the record needs of extents, beside `TablesApart` (tables/specs/Apart.antt): rows within a table, kept rows, and row sizes. Assumes nothing.
use mathlib.Core.Path.{◌≡◌, refl}
use mathlib.Core.Logic.{◌≢◌}
use mathlib.Core.Bool.{Bool, true, false, cond, ◌&&◌, not}
use Prim.Native.Nat.{ℕ, ◌≤◌, ◌<◌}
use native.Mathlib.Nat.{mul-le-mul_right, suc-mul}
use native.Mathlib.Omega.{arith}
use borrow.Author.Tests.{eq-eqb}
use lib.Dec.{eqb}
use Rattle.header.specs.declared.Options.{Options}
use Rattle.header.specs.Stream.{Opening}
use Rattle.tables.specs.Extents.{Extent, extent, only_entire, kept_by, kept_rows}
use Rattle.tables.specs.Apart.{Inside}
use Rattle.tables.proofs.Places.{found, one-kind}
use Rattle.record.specs.Rows.{count}
use Rattle.record.specs.Rearrangement.{InRow}
use Rattle.std.specs.Prelude.{Ok}

-- A whole row of a table lies inside it.
pub row_inside : (e : Extent) (i p : ℕ) → i < e.rows → InRow e i p → Inside e p
row_inside e i p h r =
    let a = mul-le-mul_right e.size h in
    let b = suc-mul i e.size in
    omega arith

-- Two rows of a table share no byte.
pub rows_apart : (e : Extent) (i j p : ℕ) → i < j → InRow e i p → ¬ InRow e j p
rows_apart e i j p h r q =
    let a = mul-le-mul_right e.size h in
    let b = suc-mul i e.size in
    omega arith

module _ (o : Options) (h : Opening) (n : ℕ) where
  pub kept-le : (k : ℕ) → kept_rows o h n k ≤ (extent o h n k).rows
  unfolding kept_by
  kept-le k = go (only_entire k && not (eqb (extent o h n k).rows (count h k)))
    where
      go : (b : Bool) → cond b 0 (extent o h n k).rows ≤ (extent o h n k).rows
      go true = omega arith
      go false = omega arith

  -- A table that was read whole is kept.
  pub kept_whole : (k : ℕ) → (extent o h n k).rows ≡ count h k → kept_rows o h n k ≡ (extent o h n k).rows
  unfolding kept_by
  kept_whole k w = rw (eq-eqb (extent o h n k).rows (count h k) w) (go (only_entire k))
    where
      go : (b : Bool) → cond (b && false) 0 (extent o h n k).rows ≡ (extent o h n k).rows
      go true = refl
      go false = refl

  -- Two tables share no byte.
  pub apart : (k m p : ℕ) → k ≢ m → Inside (extent o h n k) p → ¬ Inside (extent o h n m) p
  apart k m p ne i j = ne (one-kind _ _ _ _ k m p (found o h n k p i).lies_at (found o h n m p j).lies_at)

  -- A table with a byte in it is of an opened stream, and stands at or after the first table's place.
  pub past_first : (k p : ℕ) → Inside (extent o h n k) p → (h.answer ≡ (Ok tt)) × (h.first ≤ p)
  past_first k p i = let f = found o h n k p i in (f.ready, f.lies_at.from)
