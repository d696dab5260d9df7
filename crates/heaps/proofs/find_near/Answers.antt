use Rattle.std.proofs.Common.{refl, sym, arith}
use Rattle.heaps.proofs.Lookups.{find-end, find-within, near-here, near-past, near-end}
use Rattle.heaps.proofs.find_near.Goals as goal

pub overflow_add-result : goal.overflow_add-result
overflow_add-result c = rw (c.unwrap_or.ensures, c.first.ensures, near-end c.args.x c.args.s.now c.loop-i.i refl (omega arith)) (omega (arith, find-within c.args.x c.args.s.now c.loop-i.i (omega arith)))

pub returns-then-s-i-lt4 : goal.returns-then-s-i-lt4
returns-then-s-i-lt4 c = rw (c.unwrap_or.ensures, c.first.ensures) (near-end _ _ _ c.loop-i.invariant (omega arith))

pub returns-in-Some : goal.returns-in-Some
returns-in-Some c = near-here _ _ _ c.loop-i.invariant _ (omega arith) (sym c.in-Some.ensures)

pub loop-i-preserved : goal.loop-i-preserved
loop-i-preserved c = near-past _ _ _ c.loop-i.invariant _ (omega arith) (sym c.in_default.ensures) _ (omega arith)

pub returns : goal.returns
returns c = find-end _ _ _ c.loop-i.invariant c.loop-i-test.false
