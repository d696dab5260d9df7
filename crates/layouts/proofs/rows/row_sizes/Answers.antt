use Rattle.std.proofs.Common.{refl, arith, ◌∙◌}
use Rattle.layouts.specs.Columns.{tables, sum_of}
use Rattle.layouts.proofs.Lists.{◌▸◌}
use Rattle.layouts.proofs.rows.row_sizes.Goals as goal

pub returns : goal.returns
unfolding tables sum_of
returns c =
    (c.sum.ensures ∙ omega arith) ▸ (c.sum-2.ensures ∙ omega arith) ▸ (c.sum-3.ensures ∙ omega arith) ▸ (c.from.ensures ∙ omega arith) ▸ (c.sum-4.ensures ∙ omega arith) ▸
    (c.from-2.ensures ∙ omega arith) ▸ (c.sum-5.ensures ∙ omega arith) ▸ (c.from-3.ensures ∙ omega arith) ▸ (c.sum-6.ensures ∙ omega arith) ▸ (c.sum-7.ensures ∙ omega arith) ▸
    (c.sum-8.ensures ∙ omega arith) ▸ (c.sum-9.ensures ∙ omega arith) ▸ (c.sum-10.ensures ∙ omega arith) ▸ (c.sum-11.ensures ∙ omega arith) ▸ (c.sum-12.ensures ∙ omega arith) ▸
    (c.sum-13.ensures ∙ omega arith) ▸ (c.sum-14.ensures ∙ omega arith) ▸ (c.from-4.ensures ∙ omega arith) ▸ (c.sum-15.ensures ∙ omega arith) ▸ (c.from-5.ensures ∙ omega arith) ▸
    (c.sum-16.ensures ∙ omega arith) ▸ (c.sum-17.ensures ∙ omega arith) ▸ (c.from-6.ensures ∙ omega arith) ▸ (c.sum-18.ensures ∙ omega arith) ▸ (c.sum-19.ensures ∙ omega arith) ▸
    (c.sum-20.ensures ∙ omega arith) ▸ (c.from-7.ensures ∙ omega arith) ▸ (c.from-8.ensures ∙ omega arith) ▸ (c.sum-21.ensures ∙ omega arith) ▸ (c.sum-22.ensures ∙ omega arith) ▸
    refl ▸ refl ▸ (c.sum-23.ensures ∙ omega arith) ▸ refl ▸ refl ▸
    (c.sum-24.ensures ∙ omega arith) ▸ (c.sum-25.ensures ∙ omega arith) ▸ (c.sum-26.ensures ∙ omega arith) ▸ (c.sum-27.ensures ∙ omega arith) ▸ (c.sum-28.ensures ∙ omega arith) ▸
    (c.sum-29.ensures ∙ omega arith) ▸ (c.sum-30.ensures ∙ omega arith) ▸ (c.sum-31.ensures ∙ omega arith) ▸ (c.sum-32.ensures ∙ omega arith) ▸ (c.sum-33.ensures ∙ omega arith) ▸
    refl
