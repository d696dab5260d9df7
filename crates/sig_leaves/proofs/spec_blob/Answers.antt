use native.Mathlib.Omega.{arith}
use Rattle.sig_leaves.proofs.Specs.{spec-null, spec-past, spec-read}
use Rattle.sig_leaves.proofs.spec_blob.Goals as goal

pub returns-in_err-i : goal.returns-in_err-i
returns-in_err-i c = λ strings. rw c.from_residual.ensures (spec-null c.requires strings _ _ (omega (arith, c.in_err-i.ensures)))

pub returns-then-count_rows-i : goal.returns-then-count_rows-i
returns-then-count_rows-i c = λ strings.
    spec-past c.requires strings _ _ (omega (arith, c.in_ok-i.ensures)) (omega (arith, c.in_ok-i.ensures, c.count_rows.ensures))

pub returns : goal.returns
returns c = λ strings.
    rw c.ok.ensures.value
    (spec-read c.requires strings _ _ (omega (arith, c.in_ok-i.ensures)) (omega (arith, c.in_ok-i.ensures, c.count_rows.ensures)) _
    (rw c.in_ok-i.ensures.1 at c.read_column-index.ensures) c.get_blob.ensures)
