use native.Mathlib.Omega.{arith}
use Rattle.numbers.proofs.Parts.{cut-is}
use Rattle.backwards.proofs.Laws.{behind-then, placed-from, placed-then, placed-none, moved-wrote}
use Rattle.rows.proofs.Left.{none_left}
use Rattle.names.proofs.Full.{front-wrote, over-name, over-front}
use Rattle.names.proofs.push_behind_front.Goals as goal

pub put_front-requires : goal.put_front-requires
put_front-requires c =
    let first = placed-from _ c.put_before.ensures c.in-Some.is in
    record { laid = c.requires.laid; floor_le_end = (first.low, omega (arith, first.place, first.long)) }

pub move_down-requires : goal.move_down-requires
move_down-requires c =
    let first = placed-from _ c.put_before.ensures c.in-Some.is in
    let all = behind-then first (placed-from _ c.put_front.ensures c.in-Some-put_front.is) in
    (all.low, omega (arith, all.place, all.long))

pub overflow_sub-result : goal.overflow_sub-result
overflow_sub-result c =
    let first = placed-from _ c.put_before.ensures c.in-Some.is in
    let all = behind-then first (placed-from _ c.put_front.ensures c.in-Some-put_front.is) in
    omega (arith, all.place)

pub returns : goal.returns
returns c =
    let first = placed-from _ c.put_before.ensures c.in-Some.is in
    let all = behind-then first (placed-from _ c.put_front.ensures c.in-Some-put_front.is) in
    front-wrote _ _ _ _ (cut-is _ _ _ _ c.requires.len_in_bounds c.cut-text.ensures).bytes (moved-wrote all c.move_down.ensures)

pub returns-in_default-put_front : goal.returns-in_default-put_front
returns-in_default-put_front c =
    let first = placed-from _ c.put_before.ensures c.in-Some.is in
    let none = placed-none _ (placed-then first _ _ c.put_front.result c.put_front.ensures) (none_left c.in_default-put_front.not-Some) in
    over-front _ _ _ _ (cut-is _ _ _ _ c.requires.len_in_bounds c.cut-text.ensures).bytes none.0 none.1

pub returns-in_default : goal.returns-in_default
returns-in_default c =
    let none = placed-none _ c.put_before.ensures (none_left c.in_default.not-Some) in
    over-name _ _ _ _ (cut-is _ _ _ _ c.requires.len_in_bounds c.cut-text.ensures).bytes none.0 none.1
