use native.Mathlib.Omega.{arith}
use Rattle.std.proofs.lemmas.Result.{err_from_is_err_and}
use Rattle.shapes.specs.Runs.{ran, broke}
use Rattle.shapes.proofs.Runs.{run-start, plain_end, past-modifier, run-vector, run-modifier, run-torn, run-other}
use Rattle.shapes.proofs.skip_run.Goals as goal

pub loop-p-init : goal.loop-p-init
loop-p-init c = (omega arith, run-start _ _)

pub overflow_add-count : goal.overflow_add-count
overflow_add-count c = omega (arith, c.loop-p.invariant.0)

pub loop-p-preserved-in-Vector : goal.loop-p-preserved-in-Vector
loop-p-preserved-in-Vector c =
    let l = c.loop-p in
    (omega (arith, l.invariant.0), run-vector (rw c.in-Vector.is at c.in_ok-read_tag.ensures) l.invariant.1)

pub loop-p-smaller : goal.loop-p-smaller
loop-p-smaller c = omega (arith, past-modifier (rw c.in-Modifier.is at c.in_ok-read_tag.ensures))

pub loop-p-preserved : goal.loop-p-preserved
loop-p-preserved c =
    let l = c.loop-p in
    let t = rw c.in-Modifier.is at c.in_ok-read_tag.ensures in
    (omega (arith, l.invariant.0, past-modifier t), run-modifier t l.invariant.1)

pub returns-in_err-read_tag : goal.returns-in_err-read_tag
returns-in_err-read_tag c =
    let up = err_from_is_err_and c.from_residual.result c.from_residual.ensures.1 in
    rw (up.1, up.2) (broke (run-torn c.in_err-read_tag.ensures c.loop-p.invariant.1))

pub returns-in-Other : goal.returns-in-Other
returns-in-Other c = ran c.loop-p.invariant.1 (run-other (rw c.in-Other.is at c.in_ok-read_tag.ensures))

pub returns : goal.returns
returns c = ran c.loop-p.invariant.1 (plain_end c.loop-p-test.false)
