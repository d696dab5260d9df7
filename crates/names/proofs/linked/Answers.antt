use native.Mathlib.Omega.{arith}
use Rattle.rows.proofs.Laws.{same-enclosing}
use Rattle.names.proofs.Links.{last-missed, last_found}
use Rattle.names.proofs.linked.Goals as goal

pub returns-then-link-eq0 : goal.returns-then-link-eq0
returns-then-link-eq0 c = λ end row h. last-missed _ _ h c.if-link-eq0.true

pub read_column-enclosing-requires : goal.read_column-enclosing-requires
read_column-enclosing-requires c = record { laid = c.requires.laid; column_lt_count = (omega arith, omega (arith, same-enclosing c.requires.laid, c.wide-i.ensures.0, c.requires.link_bound)) }

pub returns : goal.returns
returns c = λ end row h. last_found _ _ h (omega arith) c.wide-i.ensures.0 c.read_column-enclosing.ensures
