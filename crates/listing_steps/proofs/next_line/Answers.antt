use mathlib.Core.List.{[]}
use Rattle.listing_steps.proofs.Beginning.{stop-next, number-next, name-next, done_next, name-room, name-within}
use Rattle.listing_steps.proofs.next_line.Goals as goal

pub name_line-requires : goal.name_line-requires
name_line-requires c =
    let start = c.requires in
    let same = start.by_index in
    let begun = c.begin_line.ensures in
    let told = c.in-Name.is in
    record { laid = start.laid; knows = start.knows; name_room_in_bounds = name-room (same [] []) begun told start.line_room_in_bounds; blob_value = name-within (same _ _) begun told start.c_value }

pub returns-in-Stop : goal.returns-in-Stop
returns-in-Stop c = (stop-next _ c.begin_line.ensures _ c.in-Stop.is c.stop_line-step.ensures, c.requires.knows)

pub returns-in-Number : goal.returns-in-Number
returns-in-Number c =
    let line = c.number_line.ensures in
    (number-next _ c.begin_line.ensures (c.requires.by_index _ _) c.in-Number.is line.0, line.1)

pub returns-in-Name : goal.returns-in-Name
returns-in-Name c =
    let line = c.name_line.ensures in
    (name-next _ c.begin_line.ensures (c.requires.by_index _ _) c.in-Name.is line.0, line.1)

pub returns-in-Done : goal.returns-in-Done
returns-in-Done c = (done_next _ c.begin_line.ensures _ c.in-Done.is (c.done_line-step.ensures _), c.requires.knows)
