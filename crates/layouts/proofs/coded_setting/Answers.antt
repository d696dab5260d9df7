use native.Mathlib.Omega.{arith}
use Rattle.layouts.specs.Columns.{index_sizes}
use Rattle.layouts.proofs.coded_setting.Goals as goal

pub returns : goal.returns
unfolding index_sizes
returns c = λ heap.
    omega (arith, c.from.ensures, c.from-2.ensures, c.from-3.ensures, c.custom_attribute_type_size-kind.ensures c.args.decl_security heap, c.member_ref_parent_size-parent.ensures c.args.decl_security heap, c.has_custom_attribute_size-attribute.ensures)
