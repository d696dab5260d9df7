-- The layout as `lay` fills it: the numbers of its columns, the options, and the rows of tables that are read whole. Assumes nothing.
use mathlib.Core.Path.{◌≡◌, refl, sym, ap, ◌∙◌}
use mathlib.Core.Bool.{false, cond}
use mathlib.Core.List.{List, ◌++◌}
use Prim.Native.Nat.{ℕ, ◌+◌, ◌*◌, ◌≤◌, ◌<◌}
use native.Mathlib.Omega.{arith}
use lib.Dec.{eqb}
use lib.ListN.{length, get_or, set}
use lib.Seq.{ext_get_or}
use Rattle.header.specs.declared.Options.{Options}
use Rattle.header.specs.Stream.{Opening}
use Rattle.layouts.specs.Kinds.{constant, custom_attribute, module_ref, assembly_ref}
use Rattle.layouts.specs.Read.{reference_columns, reference_column}
use Rattle.tables.specs.Extents.{Walked, walk_says, walk_reply, extent_by, only_entire, kept_by, sizes_in}
use Rattle.tables.specs.declared.Extents.{Extents}
use Rattle.rows.specs.Layout.{column_numbers, option_numbers}
use Rattle.rows.proofs.Numbers.{numbers-at}
use Rattle.opening.proofs.Filling.{Filled, put}
use Rattle.references.specs.Columns as columns
use Rattle.references.specs.Layout.{entire_by, entire_numbers, layout_of}

module _ (o : Options) (h : Opening) (n : ℕ) where
  pub layout-at : (c d : ℕ) → c < columns.count → d < columns.numbers → get_or (layout_of o h n) (columns.numbers * c + d) 0 ≡ get_or (column_numbers o h n (reference_column c)) d 0
  unfolding layout_of
  layout-at c d l k = numbers-at o h n reference_columns (option_numbers o h n ++ entire_numbers o h n) (reference_column columns.count) c d l k

  -- The rows of a table that is given only if it is read whole, as the code has them.
  pub entire-is : (r : Extents) → walk_says r ≡ walk_reply o h n → (k : ℕ) → only_entire k ≡ false → {v : ℕ}
      → v ≡ cond (eqb (get_or r.rows k 0) (get_or h.counts k 0)) (get_or r.rows k 0) 0 → v ≡ entire_by (sizes_in o h) h n k
  unfolding entire_by kept_by extent_by
  entire-is r e k f ev = ev ∙ rw (ap (λ (w : Walked). w.rows) e, f)

  pub layout-size : length (layout_of o h n) ≡ columns.size
  unfolding layout_of
  layout-size = refl

  -- All turns are done, and the rest is stored.
  pub whole : {l : List ℕ} (c : ℕ) {x y z a b d e : ℕ} → Filled columns.size (layout_of o h n) l (columns.numbers * c) → c ≤ columns.count → columns.count ≤ c
      → x ≡ o.limit → y ≡ cond o.security 1 0 → z ≡ cond o.taker 1 0
      → a ≡ entire_by (sizes_in o h) h n constant → b ≡ entire_by (sizes_in o h) h n custom_attribute
      → d ≡ entire_by (sizes_in o h) h n module_ref → e ≡ entire_by (sizes_in o h) h n assembly_ref
      → set (set (set (set (set (set (set l columns.limit x) columns.security y) columns.taker z) columns.constants a)
      columns.attributes b) columns.module_refs d) columns.assembly_refs e ≡ layout_of o h n
  unfolding layout_of
  whole {l} c {x} {y} {z} {a} {b} {d} {e} f p q ex ey ez ea eb ed ee =
      let end : columns.numbers * c ≡ columns.limit = omega arith in
      let options = put (put (put (rw end at f) (omega arith) x ex) (omega arith) y ey) (omega arith) z ez in
      let all = put (put (put (put options (omega arith) a ea) (omega arith) b eb) (omega arith) d ed) (omega arith) e ee in
      ext_get_or 0 _ (layout_of o h n) (all.long ∙ sym layout-size) (λ k lt. all.same k (omega (arith, all.long)))
