use mathlib.Core.Path.{sym}
use native.Mathlib.Omega.{arith}
use Rattle.std.proofs.lemmas.Result.{err_from_is_err_and}
use Rattle.shapes.proofs.Runs.{tag-vector, tag-other, modifies, tag-modifier, tag-torn}
use Rattle.shapes.proofs.read_tag.Goals as goal

pub returns-in-29 : goal.returns-in-29
returns-in-29 c = tag-vector c.requires c.in-29.is

pub returns-in_ok-next-in-31 : goal.returns-in_ok-next-in-31
returns-in_ok-next-in-31 c = tag-modifier (modifies c.requires (omega arith) (omega arith)) (sym c.in_ok-next-in-31.ensures)

pub returns-in_err-next-in-31 : goal.returns-in_err-next-in-31
returns-in_err-next-in-31 c =
    let up = err_from_is_err_and c.from_residual.result c.from_residual.ensures.1 in
    rw (up.1, up.2) (tag-torn (modifies c.requires (omega arith) (omega arith)) (sym c.in_err-next-in-31.ensures))

pub returns-in_default : goal.returns-in_default
returns-in_default c = tag-other c.requires (omega arith) (omega arith) (omega arith)

pub returns-in_default-2 : goal.returns-in_default-2
returns-in_default-2 c = tag-other c.requires (omega arith) (omega arith) (omega arith)
