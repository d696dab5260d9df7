use mathlib.Core.Path.{◌∙◌}
use native.Mathlib.Omega.{arith}
use Rattle.references.proofs.Laws.{reads as column-reads}
use Rattle.references.proofs.read_column.Goals as goal

pub overflow_mul-i : goal.overflow_mul-i
overflow_mul-i c =
    let r = column-reads c.requires.laid _ _ c.requires.column_lt_count.0 c.requires.column_lt_count.1 c.wide-low.ensures.0 c.wide-high.ensures.0 c.wide-step.ensures.0 c.wide-width.ensures.0 in
    record { fits = omega (arith, r.small) }

pub overflow_add-low-2 : goal.overflow_add-low-2
overflow_add-low-2 c =
    let r = column-reads c.requires.laid _ _ c.requires.column_lt_count.0 c.requires.column_lt_count.1 c.wide-low.ensures.0 c.wide-high.ensures.0 c.wide-step.ensures.0 c.wide-width.ensures.0 in
    record { fits = omega (arith, r.within) }

pub read_word-requires : goal.read_word-requires
read_word-requires c =
    let r = column-reads c.requires.laid _ _ c.requires.column_lt_count.0 c.requires.column_lt_count.1 c.wide-low.ensures.0 c.wide-high.ensures.0 c.wide-step.ensures.0 c.wide-width.ensures.0 in
    (r.sized, r.within)

pub returns : goal.returns
returns c =
    let r = column-reads c.requires.laid _ _ c.requires.column_lt_count.0 c.requires.column_lt_count.1 c.wide-low.ensures.0 c.wide-high.ensures.0 c.wide-step.ensures.0 c.wide-width.ensures.0 in
    c.read_word.ensures ∙ r.is
