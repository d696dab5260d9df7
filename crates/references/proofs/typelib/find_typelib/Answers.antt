use mathlib.Core.Path.{sym, ◌∙◌}
use mathlib.Core.List.{[]}
use native.Mathlib.Omega.{arith}
use borrow.Author.Count.{below_more}
use Rattle.references.proofs.typelib.find_typelib.Goals as goal

pub loop-row-init : goal.loop-row-init
loop-row-init c = λ j h. absurd (omega arith)

pub is_typelib-requires : goal.is_typelib-requires
is_typelib-requires c = record { laid = c.requires; i_bound = omega (arith, c.count_entire-n.ensures, c.loop-row-test.true) }

pub returns-then-is_typelib : goal.returns-then-is_typelib
returns-then-is_typelib c =
    let l = c.loop-row in
    (omega (arith, c.count_entire-n.ensures, c.loop-row-test.true), sym (c.is_typelib.ensures []) ∙ c.if-is_typelib.true, l.invariant)

pub loop-row-preserved : goal.loop-row-preserved
loop-row-preserved c =
    let l = c.loop-row in
    below_more _ _ l.invariant (sym (c.is_typelib.ensures []) ∙ c.if-is_typelib.false)

pub returns : goal.returns
returns c j h =
    let l = c.loop-row in l.invariant j (omega (arith, c.count_entire-n.ensures, c.loop-row-test.false))
