use borrow.Author.Rules.{rules}
use native.Mathlib.Omega.{arith}
use Rattle.rows.specs.Columns as columns
use Rattle.rows.proofs.Laws.{rows-narrow}
use Rattle.holding.proofs.Laws.{hold-done}
use Rattle.holding.proofs.hold_nested.Goals as goal

pub memory_end-requires : goal.memory_end-requires
memory_end-requires c = (c.requires.holding.long, search rules, c.requires.keys_bound, omega (arith, c.count_rows-n.ensures, rows-narrow c.requires.laid columns.nested (omega arith)))

pub returns : goal.returns
returns c =
    let ends = c.in-Some.ensures in
    hold-done c.args.work.now c.requires.holding columns.by_nested _ (omega arith) ends.0 ends.1
    c.nest_rows.new.memory c.nest_rows.auto.memory _ c.note_memory.ensures c.nest_rows.ensures
