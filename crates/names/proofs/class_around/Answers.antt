use mathlib.Core.Path.{refl, sym, ap, ◌∙◌}
use mathlib.Core.Option.{some}
use native.Mathlib.Omega.{arith}
use Rattle.rows.proofs.Laws.{same_rows}
use Rattle.names.proofs.Leaves.{around-low, around-other, around-out, around-in}
use Rattle.rows.specs.Columns as columns
use Rattle.names.proofs.class_around.Goals as goal
use Rattle.names.proofs.class_around.Goals.{then-nested-lt2-via-then-nested-lt2, then-nested-lt2-via-else-nested-lt2+then-nested-row}

pub returns-then-nested-lt2 : goal.returns-then-nested-lt2
returns-then-nested-lt2 c =
    elim c.then-nested-lt2.branch [
      | then-nested-lt2-via-then-nested-lt2 w ↦ around-low _ _ _ _ (omega (arith, c.read_column-nested.ensures, w.if-nested-lt2.true))
      | then-nested-lt2-via-else-nested-lt2+then-nested-row w ↦ around-other _ _ _ _ (λ e. w.if-nested-row.true (c.read_column-nested.ensures ∙ e))
    ]

pub read_column-enclosing-requires : goal.read_column-enclosing-requires
read_column-enclosing-requires c = record { laid = c.requires.laid; column_lt_count = (omega arith, omega (arith, same_rows c.requires.laid columns.nested columns.enclosing (omega arith) (omega arith) refl)) }

pub returns-then-enclosing-lt2 : goal.returns-then-enclosing-lt2
returns-then-enclosing-lt2 c = around-out _ _ _ _ (omega (arith, c.read_column-enclosing.ensures))

pub returns : goal.returns
returns c = ap some c.read_column-enclosing.ensures
    ∙ around-in _ _ _ _ (omega (arith, c.read_column-nested.ensures)) (omega (arith, c.read_column-enclosing.ensures)) (sym c.read_column-nested.ensures ∙ c.if-nested-row.false)
