use native.Mathlib.Omega.{arith}
use Rattle.rows.specs.Columns as columns
use Rattle.rows.proofs.Laws.{rows-narrow}
use Rattle.holding.proofs.Laws.{hold-start, hold-end}
use Rattle.holding.proofs.hold.Goals as goal

pub hold_sorted-nested_at-requires : goal.hold_sorted-nested_at-requires
hold_sorted-nested_at-requires c =
    let bare = hold-start _ _ _ (omega (arith, c.requires.size_in_bounds)) c.copy_layout.ensures in
    record { laid = c.requires.laid; column_lt_count = (omega arith, omega arith, omega (arith, rows-narrow c.requires.laid columns.type_name (omega arith), rows-narrow c.requires.laid columns.method_name (omega arith), c.count_rows-types.ensures, c.count_rows-methods.ensures, c.max.ensures), λ m s. s); holding = bare }

pub overflow_add-types : goal.overflow_add-types
overflow_add-types c = record { fits = omega (arith, rows-narrow c.requires.laid columns.type_name (omega arith), c.count_rows-types.ensures) }

pub hold_nested-class_at-requires : goal.hold_nested-class_at-requires
hold_nested-class_at-requires c = record { laid = c.requires.laid; keys_bound = omega (arith, rows-narrow c.requires.laid columns.type_name (omega arith), c.count_rows-types.ensures); holding = c.hold_sorted-nested_at.ensures }

pub overflow_add-types-2 : goal.overflow_add-types-2
overflow_add-types-2 c = record { fits = omega (arith, rows-narrow c.requires.laid columns.type_name (omega arith), c.count_rows-types.ensures) }

pub hold_sorted-layout_at-requires : goal.hold_sorted-layout_at-requires
hold_sorted-layout_at-requires c = record { laid = c.requires.laid; column_lt_count = (omega arith, omega arith, omega (arith, rows-narrow c.requires.laid columns.type_name (omega arith), c.count_rows-types.ensures), λ m s. s); holding = c.hold_nested-class_at.ensures }

pub overflow_add-types-3 : goal.overflow_add-types-3
overflow_add-types-3 c = record { fits = omega (arith, rows-narrow c.requires.laid columns.type_name (omega arith), c.count_rows-types.ensures) }

pub hold_sorted-end-requires : goal.hold_sorted-end-requires
hold_sorted-end-requires c = record { laid = c.requires.laid; column_lt_count = (omega arith, omega arith, omega (arith, rows-narrow c.requires.laid columns.type_name (omega arith), c.count_rows-types.ensures), λ m s. s); holding = c.hold_sorted-layout_at.ensures }

pub returns : goal.returns
returns c = hold-end _ c.requires.laid c.hold_sorted-end.ensures
