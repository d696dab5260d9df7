use mathlib.Core.Path.{sym, ◌∙◌}
use Prim.Native.Nat.{◌-◌}
use lib.ListN.{length}
use lib.Seq.{length-take-le}
use Rattle.numbers.proofs.Lists.{front_length, front-zero}
use native.Mathlib.Omega.{arith}
use Rattle.rows.specs.Columns as columns
use Rattle.rows.proofs.Laws.{rows-narrow, same-enclosing}
use Rattle.nests.proofs.Laws.{nest-small, nest-start, nest-end}
use Rattle.nests.proofs.nest_rows.Goals as goal

pub returns-then-memory-n : goal.returns-then-memory-n
returns-then-memory-n c = nest-small _ _ _ _ (omega (arith, c.count_rows-n.ensures))

pub slice_bounds-clear_words-end-2 : goal.slice_bounds-clear_words-end-2
slice_bounds-clear_words-end-2 c = sym (length-take-le _ c.args.memory.now (omega arith))

pub loop-i-init : goal.loop-i-init
loop-i-init c =
    let rows = c.count_rows-n.ensures in
    let memory = c.args.memory.now in
    let room = length memory - c.count_rows-n.result in
    let zeros = c.clear_words.ensures in
    let long = front_length memory room (omega arith) zeros in
    nest-start _ _ _ _ (λ k h. front-zero memory room (omega arith) zeros k (omega (arith, long, rows)))

pub read_column-requires-in-loop-i : goal.read_column-requires-in-loop-i
read_column-requires-in-loop-i c = record { laid = c.requires; column_lt_count = (omega arith, omega (arith, c.count_rows-n.ensures, same-enclosing c.requires)) }

pub nest_row-requires : goal.nest_row-requires
nest_row-requires c = (
  omega (arith, c.loop-i.auto.memory, front_length c.args.memory.now (length c.args.memory.now - c.count_rows-n.result) (omega arith) c.clear_words.ensures),
  omega (arith, c.count_rows-n.ensures, rows-narrow c.requires columns.nested (omega arith)),
)

pub loop-i-preserved : goal.loop-i-preserved
loop-i-preserved c = c.nest_row.ensures _ _ _ (omega (arith, c.count_rows-n.ensures))
    (omega (arith, c.count_rows-n.ensures, c.loop-i.auto.memory, front_length c.args.memory.now (length c.args.memory.now - c.count_rows-n.result) (omega arith) c.clear_words.ensures))
    (c.wide-nested.ensures.0 ∙ c.read_column.ensures) (c.wide-enclosing.ensures.0 ∙ c.read_column-in-loop-i.ensures) c.loop-i.invariant

pub returns : goal.returns
returns c = nest-end _ _ _ _ c.loop-i.i (omega (arith, c.count_rows-n.ensures)) c.loop-i.invariant
