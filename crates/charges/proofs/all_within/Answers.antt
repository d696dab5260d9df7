use mathlib.Core.Path.{sym, subst}
use native.Mathlib.Omega.{arith}
use lib.Dec.{T}
use Rattle.rows.specs.Columns as columns
use Rattle.rows.proofs.Laws.{rows-narrow}
use Rattle.charges.proofs.Laws.{one-at-least, share-fits, all_fit}
use borrow.Author.Rules.{rules}
use Rattle.charges.proofs.all_within.Goals as goal

pub returns-then-not-is_read_once : goal.returns-then-not-is_read_once
returns-then-not-is_read_once c = λ strings e. absurd (subst T (sym e) tt)

pub overflow_add-rows : goal.overflow_add-rows
overflow_add-rows c = search (rules, rows-narrow c.requires columns.impl_class (omega arith))

pub returns-then-types-gt-CEILING : goal.returns-then-types-gt-CEILING
returns-then-types-gt-CEILING c = λ strings e. absurd (subst T (sym e) tt)

pub overflow_sub-types : goal.overflow_sub-types
overflow_sub-types c =
    let sized = c.max-types.ensures in
    one-at-least _ (omega (arith, c.if-types-gt-CEILING.false)) (omega (arith, sized))

pub returns : goal.returns
returns c = λ strings e.
    let sized = c.max-types.ensures in
    let a = c.args in
    let once = c.is_read_once.ensures a.tables.now strings a.blob.now in
    let yes = c.if-not-is_read_once.false in
    let few = share-fits c.max-types.result (omega (arith, c.if-types-gt-CEILING.false)) (omega (arith, sized)) in
    all_fit c.requires strings a.blob.now once yes few (omega (arith, sized)) (omega (arith, sized, c.count_rows-rows.ensures))
    (λ g h. c.specs_suffice.ensures strings g h e)
