use Rattle.shapes.proofs.Dims.{signed-plus, signed-minus}
use Rattle.shapes.proofs.push_signed.Goals as goal

pub returns-then-not-minus : goal.returns-then-not-minus
returns-then-not-minus c = signed-plus c.args.minus _ c.if-not-minus.true c.push_decimal.ensures

pub returns : goal.returns
returns c =
    let sign = c.push-k.ensures in
    signed-minus c.args.minus _ c.if-not-minus.false c.requires sign c.push_decimal-2.ensures
