-- Two tables streams that agree outside the side tables open alike and have the same rows in every other table. Assumes nothing.
use mathlib.Core.Path.{◌≡◌, refl, ap, ap₂, ◌∙◌, fun_ext}
use mathlib.Core.Bool.{Bool, true, false, cond}
use mathlib.Core.List.{List}
use mathlib.Core.Option.{none, some}
use Prim.Native.Nat.{ℕ, ◌+◌, ◌*◌, ◌<◌}
use native.Mathlib.Nat.{lt_of_lt_of_le}
use native.Mathlib.Omega.{arith}
use lib.Dec.{ltb}
use lib.ListN.{length, get_or}
use borrow.Author.Tests.{ltb-true}
use Rattle.header.specs.Stream.{counts_end, opened}
use Rattle.tables.specs.Extents.{extent, kept_rows}
use Rattle.record.specs.Rows.{row_bytes}
use Rattle.header.specs.declared.Options.{Options}
use Rattle.record.specs.View.{is_side, place, other_row}
use Rattle.record.specs.Rearrangement.{Elsewhere}
use Rattle.record.proofs.Parts.{part_same}
use Rattle.header.proofs.Cases.{ready-first}
use Rattle.header.proofs.Alike.{opened-alike}
use Rattle.record.proofs.Extents.{row_inside, apart, past_first, kept-le}

module _ (o : Options) (t u : List ℕ) (len : length u ≡ length t) (off : (p : ℕ) → Elsewhere o (opened o t) t p → get_or u p 0 ≡ get_or t p 0) where
  header-byte : (p : ℕ) → p < counts_end t → get_or u p 0 ≡ get_or t p 0
  header-byte p h =
      off p (λ k _ i.
      let a = past_first o (opened o t) (length t) k p i in
      let b = ready-first o t a.0 in
      omega arith)

  pub opened-same : opened o u ≡ opened o t
  opened-same = opened-alike t u len header-byte o

  -- A row of another table.
  other-same : (k i : ℕ) → is_side k ≡ false → i < (place o (opened o t) t k).rows → row_bytes (place o (opened o t) t k) u i ≡ row_bytes (place o (opened o t) t k) t i
  other-same k i n h =
      let e = place o (opened o t) t k in
      part_same u t len (e.start + i * e.size) e.size
      (λ p l m.
      off p λ j s. apart o (opened o t) (length t) k j p (λ e. let b = ap is_side e in let z : ◌≡◌ {A = ℕ} 0 1 = cc in omega arith) (row_inside e i p h (l, m)))

  row_at : (k i : ℕ) → other_row o (opened o u) u k i ≡ other_row o (opened o t) t k i
  unfolding other_row
  row_at k i =
      ap₂ (λ h n. cond (is_side k) none (cond (ltb i (kept_rows o h n k)) (some (row_bytes (extent o h n k) u i)) none)) opened-same len
      ∙ go (is_side k) (ltb i (kept_rows o (opened o t) (length t) k)) refl refl
    where
      go : (a l : Bool) → is_side k ≡ a → ltb i (kept_rows o (opened o t) (length t) k) ≡ l
          → cond a none (cond l (some (row_bytes (place o (opened o t) t k) u i)) none) ≡ cond a none (cond l (some (row_bytes (place o (opened o t) t k) t i)) none)
      go true l p q = refl
      go false false p q = refl
      go false true p q =
          ap some (other-same k i p (lt_of_lt_of_le (ltb-true i (kept_rows o (opened o t) (length t) k) q) (kept-le o (opened o t) (length t) k)))

  pub row_same : other_row o (opened o u) u ≡ other_row o (opened o t) t
  row_same = fun_ext λ k. fun_ext λ i. row_at k i
