use mathlib.Core.Path.{refl}
use native.Mathlib.Omega.{arith}
use Rattle.rows.proofs.Classes.{methods-are}
use Rattle.rows.specs.Columns as columns
use Rattle.places.proofs.Laws.{method-found, same_place, no_place}
use Rattle.method_answers.proofs.row_inside.Goals as goal

pub returns-in_err-i : goal.returns-in_err-i
returns-in_err-i c = rw c.from_residual.ensures (λ j e. absurd (no_place e), λ t strings blob laid k m h. rw c.in_err-i.was at h)

pub returns-then-count_rows-i : goal.returns-then-count_rows-i
returns-then-count_rows-i c = (
  λ j e. absurd (no_place e),
  λ t strings blob laid k m h. absurd (omega (arith, (method-found h c.in_ok-i.was).1, methods-are laid strings blob columns.method_name (omega arith) refl, c.count_rows.ensures, c.if-count_rows-i.true)),
)

pub returns : goal.returns
returns c = (λ j e. omega (arith, same_place e, c.count_rows.ensures, c.if-count_rows-i.false), λ t strings blob laid k m h. rw c.in_ok-i.was at h)
