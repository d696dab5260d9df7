use mathlib.Core.Path.{◌≡◌, refl, sym, ◌∙◌}
use Prim.Native.Nat.{◌+◌, ◌-◌, ◌<◌}
use native.Mathlib.Nat.{sub-zero}
use native.Mathlib.Omega.{arith}
use Rattle.numbers.proofs.Parts.{cut-is}
use Rattle.listing_steps.proofs.Filling.{going-out, going_done, made-long, made_inside, moved-full, moved_on, moved-short}
use borrow.Author.Rules.{rules}
use Rattle.listing_steps.proofs.fill_rest.Goals as goal

pub loop-init : goal.loop-init
loop-init c =
    (λ p b g s. rw sub-zero (g, s), c.requires.knows, refl, omega arith, refl, c.requires.next_value)

pub returns-then-is_done : goal.returns-then-is_done
returns-then-is_done c =
    let inv = c.loop.invariant in
    (λ d b h. going-out (going_done (inv.0 _ _ h.going h.room).0 c.is_done.ensures c.if-is_done.true) (omega arith), inv.1)

pub slice_bounds-fill_some-end : goal.slice_bounds-fill_some-end
slice_bounds-fill_some-end c = search (rules, c.loop.invariant.4)

pub fill_some-one-requires : goal.fill_some-one-requires
fill_some-one-requires c =
    let start = c.requires in
    record { laid = start.laid; by_index = start.by_index; knows = c.loop.invariant.1; all_fit = start.all_fit; next_value = c.loop.invariant.5; left_nonzero = omega arith; at_in_bounds = omega arith }

pub returns-then-out-after : goal.returns-then-out-after
returns-then-out-after c =
    let inv = c.loop.invariant in
    let one = c.fill_some-one.ensures in
    let undone = sym c.is_done.ensures ∙ c.if-is_done.false in
    let is = (cut-is _ _ _ _ (made_inside one.0 inv.3 undone) c.cut.ensures).bytes in (
      λ d b h.
          let x = inv.0 _ _ h.going h.room in
          going-out (moved-full one.0 inv.3 x.0 (x.1 (omega (arith, c.loop-test.true))) undone is c.push-after.ensures c.if-out-after.true) (omega arith),
      inv.1,
    )

pub loop-preserved : goal.loop-preserved
loop-preserved c =
    let inv = c.loop.invariant in
    let one = c.fill_some-one.ensures in
    let more : 0 < c.args.from.left - c.loop.counter = omega (arith, c.loop-test.true) in
    let fewer : c.args.from.left - (c.loop.counter + 1) ≡ c.args.from.left - c.loop.counter - 1 = omega arith in
    let undone = sym c.is_done.ensures ∙ c.if-is_done.false in
    let is = (cut-is _ _ _ _ (made_inside one.0 inv.3 undone) c.cut.ensures).bytes in
    let pushed = c.push-after.ensures in (
      λ p b g s.
          let x = inv.0 p b g s in
          rw fewer (
            moved_on one.0 inv.3 x.0 (x.1 more) undone is pushed more c.is_done.ensures c.if-is_done.false c.if-out-after.false,
            λ h. moved-short one.0 inv.3 x.0 (x.1 more) undone is pushed,
          ),
      one.1,
      pushed.keeps.long ∙ inv.2,
      omega (arith, made-long one.0 inv.3, inv.3),
      made-long one.0 inv.3 ∙ inv.4,
      one.0.within,
    )

pub returns-after-loop : goal.returns-after-loop
returns-after-loop c =
    let inv = c.loop.invariant in
    (λ d b h. going-out (inv.0 _ _ h.going h.room).0 (omega (arith, c.loop-test.false)), inv.1)
