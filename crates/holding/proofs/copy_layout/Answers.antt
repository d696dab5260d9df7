use mathlib.Core.Path.{sym, ◌∙◌}
use native.Mathlib.Omega.{arith}
use lib.Seq.{length-take-le}
use Rattle.numbers.proofs.Lists.{front_length, front-zero}
use Rattle.rows.specs.Columns as columns
use Rattle.holding.proofs.Laws.{copied}
use Rattle.holding.proofs.copy_layout.Goals as goal

pub slice_bounds-clear_words-end-2 : goal.slice_bounds-clear_words-end-2
slice_bounds-clear_words-end-2 c = sym (length-take-le columns.size c.args.work.now c.requires.0)

pub slice_bounds-copy_from_slice-end-2 : goal.slice_bounds-copy_from_slice-end-2
slice_bounds-copy_from_slice-end-2 c =
    sym (length-take-le columns.held _ (omega (arith, front_length c.args.work.now columns.size c.requires.0 c.clear_words.ensures, c.requires.0)))

pub slice_bounds-copy_from_slice-end-3 : goal.slice_bounds-copy_from_slice-end-3
slice_bounds-copy_from_slice-end-3 c = sym (length-take-le columns.held c.args.layout.now (omega (arith, c.requires.1)))

pub copy_from_slice-requires : goal.copy_from_slice-requires
copy_from_slice-requires c =
    length-take-le columns.held _ (omega (arith, front_length c.args.work.now columns.size c.requires.0 c.clear_words.ensures, c.requires.0))
    ∙ sym (length-take-le columns.held c.args.layout.now (omega (arith, c.requires.1)))

pub returns : goal.returns
returns c =
    copied _ _ _ c.requires.1 (front-zero c.args.work.now columns.size c.requires.0 c.clear_words.ensures) c.copy_from_slice.ensures.after
