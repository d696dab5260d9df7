use native.Mathlib.Omega.{arith}
use Rattle.rows.specs.Columns as columns
use Rattle.rows.proofs.Laws.{rows-narrow}
use Rattle.holding.proofs.Laws.{hold-start, hold-end}
use Rattle.holding.proofs.hold_nests.Goals as goal

pub overflow_add-types : goal.overflow_add-types
overflow_add-types c = record { fits = omega (arith, rows-narrow c.requires.laid columns.type_name (omega arith), c.count_rows-types.ensures) }

pub hold_nested-end-requires : goal.hold_nested-end-requires
hold_nested-end-requires c = record { laid = c.requires.laid; keys_bound = omega (arith, rows-narrow c.requires.laid columns.type_name (omega arith), c.count_rows-types.ensures); holding = hold-start _ _ _ (omega (arith, c.requires.size_in_bounds)) c.copy_layout.ensures }

pub returns : goal.returns
returns c = hold-end _ c.requires.laid c.hold_nested-end.ensures
