use borrow.Author.Tests.{eqb-false}
use Rattle.passing.proofs.Bounds.{names-other, names-torn}
use Rattle.passing.proofs.names_spec.Goals as goal

pub returns-in-Ok : goal.returns-in-Ok
returns-in-Ok c = λ e h.
    names-other c.in-Ok.ensures (eqb-false _ _ e) h

pub returns-in-Err : goal.returns-in-Err
returns-in-Err c = λ _ h. names-torn c.in-Err.ensures h
