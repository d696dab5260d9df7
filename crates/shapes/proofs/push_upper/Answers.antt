use Rattle.shapes.proofs.Dims.{upper-plus, upper-far, upper-near}
use Rattle.shapes.proofs.push_upper.Goals as goal

pub returns-then-not-minus : goal.returns-then-not-minus
returns-then-not-minus c =
    let low = c.wide-m.ensures.0 in
    let size = c.wide-n.ensures.0 in
    upper-plus c.args.minus low size c.requires c.if-not-minus.true c.push_decimal.ensures

pub returns-then-m-n : goal.returns-then-m-n
returns-then-m-n c =
    let low = c.wide-m.ensures.0 in
    let size = c.wide-n.ensures.0 in
    upper-far c.args.minus low size c.requires c.if-not-minus.false c.if-m-n.true c.push_decimal-then-m-n.ensures

pub returns : goal.returns
returns c =
    let low = c.wide-m.ensures.0 in
    let size = c.wide-n.ensures.0 in
    upper-near c.args.minus low size c.requires c.if-not-minus.false c.if-m-n.false c.push_signed.ensures
