use mathlib.Core.Path.{refl, ◌∙◌}
use mathlib.Core.List.{[]}
use native.Mathlib.Omega.{arith}
use lib.ListN.{length-set}
use Rattle.name_section.proofs.Filling.{fill_start, fill-turn, fill-far, fill-over, fill_done, unfit, number_small, names-counted, name_of}
use Rattle.name_section.proofs.Slots.{fit-classes}
use Rattle.name_section.proofs.write_slots.Goals as goal

pub returns-then-offsets-classes : goal.returns-then-offsets-classes
returns-then-offsets-classes c = λ blob.
    let count = names-counted c.requires c.count_classes-classes.ensures c.args.strings.now blob in
    unfit refl refl (fit-classes _ _ _ (omega (arith, count, c.if-offsets-classes.true))) c.refuse.ensures

pub loop-c-init : goal.loop-c-init
loop-c-init c = (refl, refl, λ blob. fill_start _ _ _)

pub returns-in_default : goal.returns-in_default
returns-in_default c = λ blob.
    let l = c.loop-c in
    let count = names-counted c.requires c.count_classes-classes.ensures c.args.strings.now blob in
    unfit l.invariant.0 l.invariant.1 (fill-far (l.invariant.2 blob) (omega (arith, count, c.loop-c-test.true)) (c.in_default.ensures.1 refl)) c.refuse-in_default.ensures

pub overflow_cast-c : goal.overflow_cast-c
overflow_cast-c c = omega (arith, number_small c.requires c.count_classes-classes.ensures _ c.loop-c-test.true)

pub push_slot-at-requires : goal.push_slot-at-requires
push_slot-at-requires c = record { laid = c.requires; class_bound = number_small c.requires c.count_classes-classes.ensures _ c.loop-c-test.true }

pub returns-then-section-at : goal.returns-then-section-at
returns-then-section-at c = λ blob.
    let l = c.loop-c in
    let wrote = c.push_slot-at.ensures blob in
    let less = c.loop-c-test.true in
    let count = names-counted c.requires c.count_classes-classes.ensures c.args.strings.now blob in
    let is = name_of c.requires c.count_classes-classes.ensures c.args.strings.now blob _ less in
    unfit (wrote.keeps.long ∙ l.invariant.0) l.invariant.1 (fill-over (l.invariant.2 blob) (omega (arith, count, less)) is wrote c.if-section-at.true) c.refuse-then-section-at.ensures

pub loop-c-preserved : goal.loop-c-preserved
loop-c-preserved c =
    let l = c.loop-c in
    let less = c.loop-c-test.true in
    let count = c.count_classes-classes.ensures in
    let slot = c.push_slot-at.ensures in (
      (slot []).keeps.long ∙ l.invariant.0,
      length-set l.offsets l.c c.in-Some.offset ∙ l.invariant.1,
      λ blob.
          let all = names-counted c.requires count c.args.strings.now blob in
          let is = name_of c.requires count c.args.strings.now blob _ less in
          let fits = c.in-Some.ensures.0 _ refl in
          rw fits.1 (fill-turn (l.invariant.2 blob) (omega (arith, all, less)) is (slot blob) (omega (arith, l.invariant.1)) fits.0 c.if-section-at.false),
    )

pub returns : goal.returns
returns c = λ blob.
    let l = c.loop-c in
    let count = names-counted c.requires c.count_classes-classes.ensures c.args.strings.now blob in
    fill_done (l.invariant.2 blob) (omega (arith, count, c.loop-c-test.false)) count (omega (arith, l.invariant.1)) c.clear_from.ensures c.clear_offsets.ensures
