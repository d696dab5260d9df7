use Rattle.passing.proofs.Laws.{rendered-over, rendered-missing}
use Rattle.passing.proofs.Shapes.{shape_free}
use Rattle.passing.proofs.over_shape.Goals as goal

pub returns-in-Ok : goal.returns-in-Ok
returns-in-Ok c =
    let a = c.args in
    rendered-over (shape_free a.sig.now a.pos) a.steps c.in-Ok.ensures

pub returns-in-Err : goal.returns-in-Err
returns-in-Err c =
    let a = c.args in
    rendered-missing (shape_free a.sig.now a.pos) a.steps c.in-Err.ensures
