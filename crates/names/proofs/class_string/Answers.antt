use native.Mathlib.Omega.{arith}
use Rattle.names.proofs.Leaves.{class_low, class-past, class-looked}
use Rattle.names.proofs.class_string.Goals as goal
use Rattle.names.proofs.class_string.Goals.{then-r-lt2-via-then-r-lt2, then-r-lt2-via-else-r-lt2+then-count_rows-r}

pub returns-then-r-lt2 : goal.returns-then-r-lt2
returns-then-r-lt2 c =
    elim c.then-r-lt2.branch [
      | then-r-lt2-via-then-r-lt2 w ↦ class_low _ _ _ _ _ w.if-r-lt2.true
      | then-r-lt2-via-else-r-lt2+then-count_rows-r w ↦ class-past _ _ _ _ _ c.requires.laid c.requires.column_lt_count.0 c.requires.column_lt_count.1 w.if-r-lt2.false (omega (arith, w.count_rows.ensures, w.if-count_rows-r.true))
    ]

pub returns : goal.returns
returns c =
    class-looked _ _ _ _ _ c.requires.laid c.requires.column_lt_count.0 c.requires.column_lt_count.1 (omega arith) (omega (arith, c.count_rows.ensures)) _ c.read_string.ensures c.ok.ensures.value
