-- Which ClassLayout row (ECMA-335 II.22.8) says the packing and the size of a class.
use Rattle.std.specs.Prelude.{◌≡◌, List, ℕ, ◌<◌, Some, None}
use Rattle.buffers.specs.Replies.{refused_by, value}
use Rattle.buffers.specs.declared.Refusal.TheVariants.{NoSuchRow}
use Rattle.record.specs.Answers.{the_layout}
use Rattle.rows.specs.Columns as columns
use Rattle.rows.specs.Layout.{rows_at, cell, view_in}
use Rattle.keys.specs.Keyed.{Row}

-- Class c has packing and size as the row at a place says, from 0; or it has neither, or there is no such class.
pub data LayoutRowIs (t l : List ℕ) (c : ℕ) : Row → Type 0 where
  at-layout : {i : ℕ} → i < rows_at l columns.layout_parent
      → ((strings blob : List ℕ) → the_layout (view_in t l strings blob) c ≡ value (record { packing = cell t l columns.packing_size i; size = cell t l columns.class_size i }))
      → LayoutRowIs t l c (Some i)
  no-layout : ((strings blob : List ℕ) → the_layout (view_in t l strings blob) c ≡ refused_by NoSuchRow) → LayoutRowIs t l c None
