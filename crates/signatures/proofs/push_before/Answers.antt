use borrow.Author.Tests.{eq-eqb, ne_eqb}
use Rattle.signatures.specs.Parts.{before}
use Rattle.signatures.proofs.push_before.Goals as goal

pub returns-then-tag-eq15 : goal.returns-then-tag-eq15
unfolding before
returns-then-tag-eq15 c = rw (eq-eqb c.args.tag 0x0F c.if-tag-eq15.true) c.push.ensures

pub returns : goal.returns
unfolding before
returns c = rw (ne_eqb c.args.tag 0x0F c.if-tag-eq15.false) c.push-2.ensures
