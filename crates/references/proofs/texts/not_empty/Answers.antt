use Rattle.references.proofs.Parts.{none-empty, some-filled, none-absent}
use native.Mathlib.Omega.{arith}
use mathlib.Core.Path.{◌≡◌}
use borrow.Author.Rules.{rules}
use Rattle.std.specs.Prelude.{Err}
use Rattle.references.proofs.texts.not_empty.Goals as goal

pub returns-in_err-span : goal.returns-in_err-span
returns-in_err-span c s i =
    let e : c.from_residual.result ≡ Err c.in_err-span.field-0.0 = search rules in
    rw e (omega arith, none-absent s c.in_err-span.was)

pub returns-then-span-eq0 : goal.returns-then-span-eq0
returns-then-span-eq0 c s i = (omega arith, none-empty s c.in_ok-span.was c.if-span-eq0.true)

pub returns : goal.returns
returns c s i = (rw c.in_ok-span.was at i, some-filled s c.in_ok-span.was c.if-span-eq0.false i)
