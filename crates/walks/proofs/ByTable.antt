-- The walk by the table is the walk. Assumes nothing.
use mathlib.Core.Path.{◌≡◌, sym, ap, ◌∙◌}
use mathlib.Core.Bool.{Bool, cond}
use mathlib.Core.List.{List, []}
use mathlib.Core.Logic.{⊎_elim}
use Prim.Native.Nat.{ℕ, ◌+◌, ◌*◌, ◌/◌, ◌%◌, ◌≤◌, ◌<◌}
use native.Mathlib.Omega.{arith}
use lib.Dec.{eqb, lit<}
use lib.ListN.{get_or}
use Rattle.numbers.specs.Bits.{bit_at}
use Rattle.numbers.specs.Fixed.{TwoOrFour}
use Rattle.header.specs.Stream.{opened, Opening}
use Rattle.header.specs.declared.Options.{Options}
use Rattle.header.proofs.Cases.{all-counted}
use Rattle.layouts.specs.declared.IndexSizes.{IndexSizes}
use Rattle.layouts.specs.Columns.{HasCustomAttribute, MemberRefParent, CustomAttributeType, heap_size, index_sizes, coded_setting, width_in, row_size}
use Rattle.layouts.proofs.Sizes.{made}
use Rattle.layouts.proofs.Facts.{heap-widths, two-or-four, size-pos}
use Rattle.row_table.specs.RowTable.{sizes_under, row_table}
use Rattle.row_table.proofs.Rule.{by-table}
use Rattle.tables.specs.Extents.{counted, in_block, walked, row_size_in}
use Rattle.tables.specs.Partition.{old_limit}
use Rattle.tables.proofs.FourBytes.{no-tag, one_bit, two-bits}
use Rattle.tables.proofs.Outcome.{walk_same}
use Rattle.walks.specs.ByTable.{NarrowSizes, OneReply}

-- The heap setting has the bits of the heap sizes.
module _ (heap : ℕ) where
  same_size : (k : ℕ) → bit_at (heap % 8) k ≡ bit_at heap k → heap_size (heap % 8) k ≡ heap_size heap k
  unfolding heap_size
  same_size k e = ap (λ (b : ℕ). cond (eqb b 1) 4 2) e

  same_bits : (bit_at (heap % 8) 0 ≡ bit_at heap 0) × (bit_at (heap % 8) 1 ≡ bit_at heap 1) × (bit_at (heap % 8) 2 ≡ bit_at heap 2)
  unfolding bit_at
  same_bits = (omega arith, omega arith, omega arith)

  heap_is : (k : ℕ) → k < 3 → bit_at (heap % 8) k ≡ bit_at heap k → 2 + 2 * bit_at (heap % 8) k ≡ heap_size heap k
  heap_is k h e = let few : heap % 8 < 256 = omega arith in heap-widths (heap % 8) k few h ∙ same_size k e

-- The coded setting has the three widths.
quarter : {n : ℕ} → TwoOrFour n → (2 + 2 * (n / 4) ≡ n) × (n / 4 < 2)
quarter {n} t = ⊎_elim (λ e. (omega (arith, e), omega (arith, e))) (λ e. (omega (arith, e), omega (arith, e))) t

bits : (x y z : ℕ) → x < 2 → y < 2 → z < 2
    → (bit_at (x + 2 * y + 4 * z) 0 ≡ x) × (bit_at (x + 2 * y + 4 * z) 1 ≡ y) × (bit_at (x + 2 * y + 4 * z) 2 ≡ z)
unfolding bit_at
bits x y z h k l = (omega arith, omega arith, omega arith)

module _ (decl : Bool) (heap : ℕ) (cs : List ℕ) (few : (t : ℕ) → get_or cs t 0 ≤ old_limit) where
  abbrev w : IndexSizes
  w = index_sizes decl heap cs

  narrow : sizes_under (heap % 8) (coded_setting w) ≡ w
  unfolding sizes_under index_sizes
  narrow =
      let a = quarter (two-or-four decl heap cs HasCustomAttribute) in
      let p = quarter (two-or-four decl heap cs MemberRefParent) in
      let t = quarter (two-or-four decl heap cs CustomAttributeType) in
      let b = bits _ _ _ a.1 p.1 t.1 in
      let same = same_bits heap in
      made w
      (heap_is heap 0 (lit< tt) same.0)
      (heap_is heap 1 (lit< tt) same.1)
      (heap_is heap 2 (lit< tt) same.2)
      (sym (no-tag cs few _))
      (sym (no-tag cs few _))
      (sym (no-tag cs few _))
      (sym (no-tag cs few _))
      (sym (no-tag cs few _))
      (sym (no-tag cs few _))
      (sym (no-tag cs few _))
      (sym (no-tag cs few _))
      (sym (no-tag cs few _))
      (sym (two-bits cs few _))
      (sym (two-bits cs few _))
      (ap (λ (n : ℕ). 2 + 2 * n) b.0 ∙ a.0)
      (sym (one_bit cs few _))
      (sym (two-bits cs few _))
      (ap (λ (n : ℕ). 2 + 2 * n) b.1 ∙ p.0)
      (sym (one_bit cs few _))
      (sym (one_bit cs few _))
      (sym (one_bit cs few _))
      (sym (two-bits cs few _))
      (ap (λ (n : ℕ). 2 + 2 * n) b.2 ∙ t.0)
      (sym (two-bits cs few _))
      (sym (one_bit cs few _))

pub narrow-sizes : NarrowSizes
narrow-sizes o s l = sym (narrow (counted o (opened o s)) (opened o s).heap (opened o s).counts (λ t. omega (arith, all-counted o s t)))

-- There are eight coded settings.
pub coded-few : (decl : Bool) (cs : List ℕ) {coded : ℕ} → ((heap : ℕ) → coded ≡ coded_setting (index_sizes decl heap cs)) → coded < 8
coded-few decl cs setting =
    let n = quarter (two-or-four decl 0 cs HasCustomAttribute) in
    let p = quarter (two-or-four decl 0 cs MemberRefParent) in
    let t = quarter (two-or-four decl 0 cs CustomAttributeType) in
    omega (arith, setting 0, n.1, p.1, t.1)

-- A block of the table, by the settings of a stream: its row sizes are the stream's.
module _ (o : Options) (s : List ℕ) {h : Opening} (e : h ≡ opened o s) (l : o.limit ≤ old_limit) {low coded : ℕ} {block : List ℕ}
    (heap : low ≡ h.heap % 8) (is : block ≡ get_or row_table coded [])
    (setting : (heap : ℕ) → coded ≡ coded_setting (index_sizes o.security heap h.counts)) where
  few : (t : ℕ) → get_or h.counts t 0 ≤ old_limit
  few t = rw e (omega (arith, all-counted o s t))

  sizes-are : in_block block low ≡ row_size_in o h
  sizes-are =
      let m : low < 8 = omega arith in
      ap (λ (x : List ℕ). in_block x low) is
      ∙ by-table low coded m (coded-few o.security h.counts setting)
      ∙ ap (λ (k : ℕ). row_size (width_in (sizes_under k coded))) heap
      ∙ ap (λ (k : ℕ). row_size (width_in (sizes_under (h.heap % 8) k))) (setting h.heap)
      ∙ ap (λ (x : IndexSizes). row_size (width_in x)) (narrow o.security h.heap h.counts few)

  pub block-some : (k : ℕ) → k < 45 → 0 < in_block block low k
  block-some k m = omega (arith, ap (λ (f : ℕ → ℕ). f k) sizes-are, size-pos o.security h.heap h.counts k m)

  pub block-walks : (n : ℕ) → walked (in_block block low) h.counts n h.first ≡ walked (row_size_in o h) h.counts n h.first
  block-walks n = ap (λ (f : ℕ → ℕ). walked f h.counts n h.first) sizes-are

pub one-reply : OneReply
one-reply o s a b e f = walk_same a b (e ∙ sym f)
