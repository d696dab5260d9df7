use mathlib.Core.Path.{refl, sym, ap, ◌∙◌}
use native.Mathlib.Omega.{arith}
use lib.ListN.{length, get_or, length-set}
use Rattle.header.specs.Stream.{Opening}
use Rattle.layouts.specs.Kinds.{constant, custom_attribute, module_ref, assembly_ref}
use Rattle.layouts.specs.Read.{reference_columns, reference_column, offset_in, bytes_in}
use Rattle.layouts.proofs.Facts.{size-pos}
use Rattle.tables.specs.Extents.{walk_by, only_entire}
use Rattle.tables.proofs.Outcome.{same-walk}
use Rattle.references.specs.Columns as columns
use Rattle.references.specs.Layout.{layout_of}
use Rattle.opening.proofs.Laying.{bit_is}
use Rattle.opening.proofs.Starts.{start-within}
use Rattle.opening.proofs.Filling.{empty, turn, read_at, kind-below, first-is, low-is, high_is, step_is, width_is, kept-is}
use Rattle.references.proofs.Laying.{layout-at, entire-is, whole}
use Rattle.references.proofs.lay.Goals as goal
use Rattle.std.specs.Prelude.{Ok}

pub walk_tables-walk-requires : goal.walk_tables-walk-requires
walk_tables-walk-requires c = record { first_le_len = c.requires.first_le_len.0; by_index = λ k h. rw c.index_sizes-sizes.ensures (size-pos _ _ _ k h) }

pub loop-c-init : goal.loop-c-init
loop-c-init c = (omega arith, rw c.requires.layout_value (empty columns.size _))

pub offset_bounds-walk-kind : goal.offset_bounds-walk-kind
offset_bounds-walk-kind c = omega (arith, kind-below reference_columns refl _ c.column_kinds-kinds.ensures c.loop-c.c)

pub bounds-walk-kind : goal.bounds-walk-kind
bounds-walk-kind c = kind-below reference_columns refl _ c.column_kinds-kinds.ensures _

pub overflow_add-first : goal.overflow_add-first
overflow_add-first c =
    let s = start-within _ _ _ _ c.requires.first_le_len.0 c.walk_tables-walk.result c.walk_tables-walk.ensures (get_or c.column_kinds-kinds.result c.loop-c.c 0) in
    let w = c.wide.ensures.1 in
    omega (arith, s, c.requires.first_le_len.1)

pub overflow_cast-layout-in-loop-c : goal.overflow_cast-layout-in-loop-c
overflow_cast-layout-in-loop-c c =
    let s = start-within _ _ _ _ c.requires.first_le_len.0 c.walk_tables-walk.result c.walk_tables-walk.ensures (get_or c.column_kinds-kinds.result c.loop-c.c 0) in
    let w = c.wide.ensures.1 in
    omega (arith, s, c.requires.first_le_len.1)

pub bounds-layout-at-in-loop-c : goal.bounds-layout-at-in-loop-c
bounds-layout-at-in-loop-c c = simp length-set (omega (arith, c.loop-c-test.true, c.loop-c.invariant.1.long))

pub offset_bounds-walk-kind-in-loop-c : goal.offset_bounds-walk-kind-in-loop-c
offset_bounds-walk-kind-in-loop-c c = omega (arith, kind-below reference_columns refl _ c.column_kinds-kinds.ensures c.loop-c.c)

pub bounds-walk-kind-in-loop-c : goal.bounds-walk-kind-in-loop-c
bounds-walk-kind-in-loop-c c = kind-below reference_columns refl _ c.column_kinds-kinds.ensures _

pub bounds-layout-at-in-loop-c-2 : goal.bounds-layout-at-in-loop-c-2
bounds-layout-at-in-loop-c-2 c = simp length-set (omega (arith, c.loop-c-test.true, c.loop-c.invariant.1.long))

pub bounds-layout-at-in-loop-c-3 : goal.bounds-layout-at-in-loop-c-3
bounds-layout-at-in-loop-c-3 c = simp length-set (omega (arith, c.loop-c-test.true, c.loop-c.invariant.1.long))

pub offset_bounds-walk-kind-in-loop-c-2 : goal.offset_bounds-walk-kind-in-loop-c-2
offset_bounds-walk-kind-in-loop-c-2 c = omega (arith, kind-below reference_columns refl _ c.column_kinds-kinds.ensures c.loop-c.c)

pub bounds-walk-kind-in-loop-c-2 : goal.bounds-walk-kind-in-loop-c-2
bounds-walk-kind-in-loop-c-2 c = kind-below reference_columns refl _ c.column_kinds-kinds.ensures _

pub offset_bounds-counts-kind : goal.offset_bounds-counts-kind
offset_bounds-counts-kind c = omega (arith, kind-below reference_columns refl _ c.column_kinds-kinds.ensures c.loop-c.c)

pub bounds-counts-kind : goal.bounds-counts-kind
bounds-counts-kind c = kind-below reference_columns refl _ c.column_kinds-kinds.ensures _

pub bounds-layout-at-in-loop-c-4 : goal.bounds-layout-at-in-loop-c-4
bounds-layout-at-in-loop-c-4 c = simp length-set (omega (arith, c.loop-c-test.true, c.loop-c.invariant.1.long))

pub loop-c-preserved : goal.loop-c-preserved
unfolding walk_by
loop-c-preserved c =
    let here = c.loop-c-test.true in
    let d₀ = reference_column columns.count in
    let k = read_at (λ x. x.kind) reference_columns d₀ _ c.column_kinds-kinds.ensures _ here in
    let w = c.index_sizes-sizes.ensures in
    let r = c.walk_tables-walk.result in
    let e = c.walk_tables-walk.ensures ∙ same-walk w _ _ _ in
    let a = c.args in
    let o = a.options in
    let h : Opening = record { answer = (Ok tt); heap = a.heap; first = a.first; counts = a.counts.now } in
    let n = a.len in
    let all = layout_of o h n in
    let at = layout-at o h n in
    let first = first-is o h n reference_columns d₀ all at r e _ _ here k _ _ _ w (read_at (offset_in _) reference_columns d₀ _ c.column_offsets-offsets.ensures _ here) c.wide.ensures.0 in (
      omega arith,
      turn _ c.loop-c.invariant.1 (omega arith)
          (low-is o h n reference_columns d₀ all at _ here first)
          (high_is o h n reference_columns d₀ all at _ here first)
          (step_is o h n reference_columns d₀ all at r e _ _ here k _ refl)
          (width_is o h n reference_columns d₀ all at _ here _ _ _ w (read_at (bytes_in _) reference_columns d₀ _ c.column_widths-widths.ensures _ here) refl)
          (kept-is o h n reference_columns d₀ all at r e _ _ here k _ c.kept_rows.ensures),
    )

pub bounds-layout-109 : goal.bounds-layout-109
bounds-layout-109 c = simp length-set (omega (arith, c.loop-c.invariant.1.long))

pub bounds-layout-110 : goal.bounds-layout-110
bounds-layout-110 c = simp length-set (omega (arith, c.loop-c.invariant.1.long))

pub bounds-layout-111 : goal.bounds-layout-111
bounds-layout-111 c = simp length-set (omega (arith, c.loop-c.invariant.1.long))

pub shape_of-layout : goal.shape_of-layout
shape_of-layout c = simp length-set (c.loop-c.invariant.1.long ∙ sym (ap length c.requires.layout_value))

pub returns : goal.returns
unfolding walk_by only_entire
returns c =
    let args = c.args in
    let o = args.options in
    let h : Opening = record { answer = (Ok tt); heap = args.heap; first = args.first; counts = args.counts.now } in
    let n = args.len in
    let r = c.walk_tables-walk.result in
    let e = c.walk_tables-walk.ensures ∙ same-walk c.index_sizes-sizes.ensures _ _ _ in
    whole o h n _ c.loop-c.invariant.1 c.loop-c.invariant.0 c.loop-c-test.false refl (c.from.ensures ∙ bit_is _) (c.from-2.ensures ∙ bit_is _)
    (entire-is o h n r e constant refl c.entire_rows.ensures)
    (entire-is o h n r e custom_attribute refl c.entire_rows-2.ensures)
    (entire-is o h n r e module_ref refl c.entire_rows-3.ensures)
    (entire-is o h n r e assembly_ref refl c.entire_rows-4.ensures)
