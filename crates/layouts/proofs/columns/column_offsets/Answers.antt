use Rattle.std.proofs.Common.{refl, arith, ◌∙◌}
use Rattle.layouts.specs.Columns.{tables, sum_of}
use Rattle.layouts.proofs.Lists.{◌▸◌}
use Rattle.layouts.proofs.columns.column_offsets.Goals as goal

pub returns : goal.returns
unfolding tables sum_of
returns c =
    (c.sum.ensures ∙ omega arith) ▸ (c.sum-2.ensures ∙ omega arith) ▸ refl ▸ refl ▸ (c.sum-3.ensures ∙ omega arith) ▸
    (c.sum-4.ensures ∙ omega arith) ▸ (c.sum-5.ensures ∙ omega arith) ▸ refl ▸ refl ▸ (c.sum-6.ensures ∙ omega arith) ▸
    (c.sum-7.ensures ∙ omega arith) ▸ refl ▸ refl ▸ (c.sum-8.ensures ∙ omega arith) ▸ refl ▸
    refl ▸ (c.sum-9.ensures ∙ omega arith) ▸ refl ▸ (c.sum-10.ensures ∙ omega arith) ▸ refl ▸
    refl ▸ refl ▸ refl
