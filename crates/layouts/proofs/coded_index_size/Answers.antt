use Rattle.std.proofs.Common.{◌<◌, rules, tests}
use Rattle.std.proofs.lemmas.Grind.{get_or_default_zero}
use Rattle.std.proofs.lemmas.Iterator.{YieldsList-from_slice}
use Rattle.std.proofs.lemmas.Iterator.Adapters.{serves_from_places}
use Rattle.std.proofs.lemmas.Iterator.Search.{any_from_yields_List}
use Rattle.layouts.proofs.Reaches.{below, reached_at, size-by_any}
use Rattle.layouts.proofs.coded_index_size.Goals as goal

pub any-requires-clause-callable : goal.any-requires-clause-callable
any-requires-clause-callable c =
    let ts = c.args.tables.now in
    serves_from_places (YieldsList-from_slice ts cc) (λ x q r. search rules)
    (λ x k h e. let b : x.now < 64 = rw (e, get_or_default_zero ts k x.now h) (below ts c.requires.1 k) in search rules)

pub returns-then-any : goal.returns-then-any
returns-then-any c =
    let a = c.args in
    rw (size-by_any _ _ _ (any_from_yields_List (reached_at a.counts.now a.bits) _ _ _ c.any.ensures.ran (YieldsList-from_slice a.tables.now cc) (λ x b q k. search (rules, tests))), c.if-any.true)

pub returns : goal.returns
returns c =
    let a = c.args in
    rw (size-by_any _ _ _ (any_from_yields_List (reached_at a.counts.now a.bits) _ _ _ c.any.ensures.ran (YieldsList-from_slice a.tables.now cc) (λ x b q k. search (rules, tests))), c.if-any.false)
