use mathlib.Core.Path.{◌≡◌, refl, sym, ◌∙◌}
use Prim.Native.Nat.{◌<◌}
use native.Mathlib.Nat.{le_refl}
use native.Mathlib.Omega.{arith}
use lib.ListN.{length}
use Rattle.frames.specs.Stack as spec
use Rattle.frames.proofs.Turns as turns
use lib.ListN.{set, length-set}
use mathlib.Core.Logic.{inl, inr}
use Rattle.frames.proofs.descend.Goals as goal

pub loop-p-init : goal.loop-p-init
loop-p-init c = (omega arith, c.requires, refl, turns.moves-none _ _ _, le_refl _, omega arith)

pub returns-then-n-frames : goal.returns-then-n-frames
returns-then-n-frames c =
    let l = c.loop-p in spec.arrived l.invariant.4 l.invariant.0 l.invariant.1 l.invariant.3 (spec.full (λ o. o.no-generic c.loop-p-test.true c.in-21.is) c.if-n-frames.true)

pub loop-p-preserved-in-21 : goal.loop-p-preserved-in-21
loop-p-preserved-in-21 c =
    let l = c.loop-p in
    let a = l.frames in
    let n = l.n in
    let lt : n < length a = omega (arith, l.invariant.1, c.if-n-frames.false) in
    let same : length (set a n 0) ≡ length a = length-set a n 0 in
    (omega (arith, l.invariant.0), omega (arith, lt, same), same ∙ l.invariant.2, turns.descend-generic a n l.invariant.3 c.loop-p-test.true c.in-21.is lt, omega (arith, l.invariant.4), omega (arith, l.invariant.5))

pub returns-then-n-frames-2 : goal.returns-then-n-frames-2
returns-then-n-frames-2 c =
    let l = c.loop-p in spec.arrived l.invariant.4 l.invariant.0 l.invariant.1 l.invariant.3 (spec.full (λ o. o.plain.no-vector c.loop-p-test.true c.in-29.is) c.if-n-frames-2.true)

pub loop-p-preserved-in-29 : goal.loop-p-preserved-in-29
loop-p-preserved-in-29 c =
    let l = c.loop-p in
    let y = c.add_pair-n.ensures in
    let same = c.add_pair-n.auto.frames in
    let lt : l.n < length l.frames = omega (arith, l.invariant.1, c.if-n-frames-2.false) in
    (omega (arith, l.invariant.0, y.room), omega (arith, lt, same, y.room), same ∙ l.invariant.2, turns.descend-vector l.frames l.n l.invariant.3 c.loop-p-test.true c.in-29.is _ _ y, omega (arith, l.invariant.4), omega (arith, l.invariant.5))

pub returns-in-Err : goal.returns-in-Err
returns-in-Err c =
    let l = c.loop-p in
    let tag : spec.Modifier c.args.sig.now l.p = turns.modifier _ c.loop-p-test.true (omega arith) (omega arith) in
    turns.descend-torn l.frames l.n l.invariant.3 tag (sym c.in-Err.ensures)

pub loop-p-smaller : goal.loop-p-smaller
loop-p-smaller c = omega (arith, c.loop-p-test.true, turns.read-ahead _ c.loop-p.p (sym c.in-Ok.ensures))

pub loop-p-preserved : goal.loop-p-preserved
loop-p-preserved c =
    let l = c.loop-p in
    let on = turns.read-ahead _ l.p (sym c.in-Ok.ensures) in
    let tag : spec.Modifier c.args.sig.now l.p = turns.modifier _ c.loop-p-test.true (omega arith) (omega arith) in
    (omega (arith, l.invariant.0, on), l.invariant.1, l.invariant.2, turns.descend-modifier l.frames l.n l.invariant.3 tag (sym c.in-Ok.ensures), omega (arith, l.invariant.4, on), omega (arith, l.invariant.5, on))

pub returns-in_default : goal.returns-in_default
returns-in_default c =
    let l = c.loop-p in spec.arrived l.invariant.4 l.invariant.0 l.invariant.1 l.invariant.3 (spec.other (turns.other_tag _ _ (omega arith) (omega arith) (inl (omega arith))))

pub returns-in_default-2 : goal.returns-in_default-2
returns-in_default-2 c =
    let l = c.loop-p in spec.arrived l.invariant.4 l.invariant.0 l.invariant.1 l.invariant.3 (spec.other (turns.other_tag _ _ (omega arith) (omega arith) (inr (omega arith))))

pub returns-after-loop-p : goal.returns-after-loop-p
returns-after-loop-p c =
    let l = c.loop-p in spec.arrived l.invariant.4 l.invariant.0 l.invariant.1 l.invariant.3 (spec.other (turns.other-end c.loop-p-test.false))
