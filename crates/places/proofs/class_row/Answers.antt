use native.Mathlib.Omega.{arith}
use Rattle.places.specs.Places.{at_row, no_row}
use Rattle.places.proofs.Laws.{row_low, row_is}
use Rattle.places.proofs.class_row.Goals as goal
use Rattle.places.proofs.class_row.Goals.{then-r-lt2-via-then-r-lt2, then-r-lt2-via-else-r-lt2+then-count_rows-r}

pub returns-then-r-lt2 : goal.returns-then-r-lt2
returns-then-r-lt2 c =
    elim c.then-r-lt2.branch [
      | then-r-lt2-via-then-r-lt2 w ↦ no_row (omega (arith, row_low _ c.row_of-row.ensures (omega (arith, c.wide-r.ensures.0, w.if-r-lt2.true))))
      | then-r-lt2-via-else-r-lt2+then-count_rows-r w ↦ no_row (omega (arith, w.count_rows.ensures, w.if-count_rows-r.true, c.wide-r.ensures.0, row_is _ c.row_of-row.ensures (omega (arith, c.wide-r.ensures.0, w.if-r-lt2.false))))
    ]

pub returns : goal.returns
returns c =
    let is = row_is _ c.row_of-row.ensures (omega (arith, c.wide-r.ensures.0)) in
    at_row is (omega (arith, c.count_rows.ensures, c.wide-r.ensures.0))
