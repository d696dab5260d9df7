use Rattle.std.proofs.Common.{refl, ◌∙◌, rules}
use Rattle.heaps.proofs.Lookups.{find_past, find-end}
use borrow.Author.Rules.{rules}
use Rattle.heaps.proofs.find_byte.Goals as goal

pub loop-i-init : goal.loop-i-init
loop-i-init c = refl

pub returns-then-not-none_is : goal.returns-then-not-none_is
returns-then-not-none_is c = c.find_near.ensures ∙ c.loop-i.invariant

pub overflow_add-i : goal.overflow_add-i
overflow_add-i c = search (rules, (c.none_is.ensures c.if-not-none_is.false).room)

pub loop-i-preserved : goal.loop-i-preserved
loop-i-preserved c = find_past _ _ 8 _ (c.none_is.ensures c.if-not-none_is.false) c.loop-i.invariant

pub returns : goal.returns
returns c = find-end _ _ _ c.loop-i.invariant c.loop-i-test.false
