use Rattle.passing.proofs.Forms.{generic-unread, generic-passes}
use Rattle.passing.proofs.over_var.Goals as goal

pub returns-in-Ok : goal.returns-in-Ok
returns-in-Ok c = λ blob.
    let a = c.args in
    let x = c.in-Ok.ensures in
    let there = rw c.owner_by-owner.ensures at (c.has_generic-there.ensures blob) in
    generic-passes _ a.sig.now a.pos x c.wide.ensures.0 (c.tell.ensures _ there)

pub returns-in-Err : goal.returns-in-Err
returns-in-Err c = λ blob.
    let a = c.args in
    generic-unread _ a.sig.now a.pos c.in-Err.ensures
