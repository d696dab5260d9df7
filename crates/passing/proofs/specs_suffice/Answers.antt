use native.Mathlib.Omega.{arith}
use Rattle.passing.proofs.Specs.{up-to-none, up-to-next, specs-within}
use Rattle.passing.proofs.specs_suffice.Goals as goal

pub loop-i-init : goal.loop-i-init
loop-i-init c = λ strings. up-to-none c.requires strings c.args.blob.now c.args.most

pub loop-i-preserved : goal.loop-i-preserved
loop-i-preserved c = λ strings.
    up-to-next c.requires strings c.args.blob.now c.args.most (c.loop-i.invariant strings)
    (λ spec is. c.spec_suffices.ensures strings spec c.if-not-spec_suffices.false is)

pub returns : goal.returns
returns c = λ strings g h e.
    specs-within c.requires strings c.args.blob.now c.args.most
    (λ r spec k is. c.loop-i.invariant strings r spec (omega (arith, k, c.count_rows-i-end.ensures, c.loop-i-test.false)) is) g h
