use mathlib.Core.Path.{refl}
use borrow.Author.Tests.{eq-eqb, ne_eqb}
use Rattle.signatures.specs.Parts.{owner_by}
use Rattle.passing.proofs.owner_by.Goals as goal

pub returns-then-tag-eq19 : goal.returns-then-tag-eq19
unfolding owner_by
returns-then-tag-eq19 c = rw (eq-eqb c.args.tag 0x13 c.if-tag-eq19.true) refl

pub returns : goal.returns
unfolding owner_by
returns c = rw (ne_eqb c.args.tag 0x13 c.if-tag-eq19.false) refl
