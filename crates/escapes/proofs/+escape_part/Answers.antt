use Rattle.std.proofs.Common.{◌+◌, ◌-◌, ◌*◌, ◌≤◌, length, arith, rules}
use Rattle.numbers.proofs.Parts.{cut-is}
use Rattle.escapes.proofs.Writing.{below-eight, marked-kept, marked-part, copied-wrote, made_inside, space-wrote}
use Rattle.escapes.proofs.+escape_part.Goals as goal

pub returns-then-out-end : goal.returns-then-out-end
returns-then-out-end t c =
    let a = c.args in
    let in_b : a.start + (a.end - a.start) ≤ length a.out.now = omega (arith, c.requires.0, c.requires.1) in
    let few : a.end - a.start ≤ 4096 = omega (arith, c.requires.2) in
    let text = (cut-is _ _ _ _ in_b c.cut.ensures).bytes in
    let inside = made_inside _ _ _ in_b few (search rules) text c.push.ensures c.escape_part-made.ensures in
    space-wrote _ _ _ in_b few (search rules) text c.push.ensures c.escape_part-made.ensures
    (cut-is _ _ _ _ inside c.cut-then-out-end.ensures).bytes c.push-then-out-end.ensures

pub returns : goal.returns
returns t c =
    let a = c.args in
    let room : a.end + (2 * (a.end - a.start) + 16) + 8 ≤ length c.copy_away.new.out =
    omega (arith, c.copy_away.ensures.0.long, c.if-out-end.false, c.requires.0, c.requires.1)
    in
    copied-wrote _ _ _ _ c.requires.0 c.requires.1 (marked-kept _ _ _ _ c.requires.0 c.copy_away.ensures.0)
    (marked-part _ _ _ _ _ c.requires.0 (below-eight room) c.copy_away.ensures.1) c.write_anew.ensures
