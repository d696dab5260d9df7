use mathlib.Core.Bool.{false}
use native.Mathlib.Omega.{arith}
use lib.Dec.{lit<}
use Rattle.numbers.specs.Bits.{bit_at}
use Rattle.layouts.specs.Columns.{index_sizes}
use Rattle.layouts.proofs.Sizes.{made, sized}
use Rattle.layouts.proofs.Facts.{heap-widths}
use Rattle.layouts.proofs.index_sizes.Goals as goal

pub returns : goal.returns
unfolding index_sizes bit_at
returns c =
    let byte = c.ranges.heap.fits in
    made _
    (omega (arith, c.heap_index_size.ensures, heap-widths _ 0 byte (lit< tt)))
    (omega (arith, c.heap_index_size-2.ensures, heap-widths _ 1 byte (lit< tt)))
    (omega (arith, c.heap_index_size-3.ensures, heap-widths _ 2 byte (lit< tt)))
    c.index_size.ensures
    c.index_size-2.ensures
    c.index_size-3.ensures
    c.index_size-4.ensures
    c.index_size-5.ensures
    c.index_size-6.ensures
    c.index_size-7.ensures
    c.index_size-8.ensures
    c.index_size-9.ensures
    (sized _ _ _ _ c.coded_index_size.ensures tt tt)
    (sized _ _ _ _ c.coded_index_size-2.ensures tt tt)
    c.has_custom_attribute_size.ensures
    (sized _ _ _ _ c.coded_index_size-3.ensures tt tt)
    (sized _ _ _ _ c.coded_index_size-4.ensures tt tt)
    (c.member_ref_parent_size.ensures false 0)
    (sized _ _ _ _ c.coded_index_size-5.ensures tt tt)
    (sized _ _ _ _ c.coded_index_size-6.ensures tt tt)
    (sized _ _ _ _ c.coded_index_size-7.ensures tt tt)
    (sized _ _ _ _ c.coded_index_size-8.ensures tt tt)
    (c.custom_attribute_type_size.ensures false 0)
    (sized _ _ _ _ c.coded_index_size-9.ensures tt tt)
    (sized _ _ _ _ c.coded_index_size-10.ensures tt tt)
