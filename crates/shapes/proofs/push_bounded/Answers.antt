use native.Mathlib.Nat.{pos_of_ne-zero}
use Rattle.shapes.proofs.Dims.{bounded-zero, bounded-open, bounded_closed}
use Rattle.shapes.proofs.push_bounded.Goals as goal

pub returns-then-low-eq0 : goal.returns-then-low-eq0
returns-then-low-eq0 c = bounded-zero c.args.minus _ c.if-low-eq0.true c.push_size.ensures

pub returns-in-Ok : goal.returns-in-Ok
returns-in-Ok c =
    let low = c.push_signed-k.ensures in
    let dots = c.push-next.ensures in
    bounded_closed c.args.minus c.wide.ensures.0 (pos_of_ne-zero c.if-low-eq0.false) low dots
    c.in-Ok.is c.push_upper.ensures

pub returns-in-Err : goal.returns-in-Err
returns-in-Err c =
    let low = c.push_signed-k.ensures in
    let dots = c.push-next.ensures in
    bounded-open c.args.minus c.wide.ensures.0 (pos_of_ne-zero c.if-low-eq0.false) low dots
    c.in-Err.is
