use borrow.Author.Rules.{rules}
use native.Mathlib.Omega.{arith}
use Rattle.rows.proofs.Laws.{rows-narrow}
use Rattle.holding.proofs.Laws.{hold-done}
use Rattle.holding.proofs.hold_sorted.Goals as goal

pub memory_end-requires : goal.memory_end-requires
memory_end-requires c = (c.requires.holding.long, search rules, c.requires.column_lt_count.2, omega (arith, c.count_rows-n.ensures, rows-narrow c.requires.laid c.args.column c.requires.column_lt_count.0))

pub returns : goal.returns
returns c =
    let ends = c.in-Some.ensures in
    hold-done c.args.work.now c.requires.holding c.args.j _ c.requires.column_lt_count.1 ends.0 ends.1
    c.sort_rows.new.memory c.sort_rows.auto.memory _ c.note_memory.ensures (c.requires.column_lt_count.3 _ c.sort_rows.ensures)
