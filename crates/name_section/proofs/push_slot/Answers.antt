use mathlib.Core.Path.{ap}
use mathlib.Core.List.{[]}
use native.Mathlib.Omega.{arith}
use Rattle.buffers.specs.Writes.{place_says}
use Rattle.name_section.proofs.Filling.{row-known, name-ends, slot-name, slot-over, slot-missing}
use Rattle.name_section.proofs.push_slot.Goals as goal

pub returns-then-section-end : goal.returns-then-section-end
returns-then-section-end c = λ blob.
    let said = rw (ap place_says c.in-Some.is) at (c.push_class_name.ensures blob) in
    slot-over _ _ _ (row-known c.args.class c.row_of-row.ensures c.requires.class_bound) said c.if-section-end.true

pub overflow_sub-end : goal.overflow_sub-end
overflow_sub-end c =
    let said = rw (ap place_says c.in-Some.is) at (c.push_class_name.ensures []) in
    let h = name-ends _ _ _ (row-known c.args.class c.row_of-row.ensures c.requires.class_bound) said c.if-section-end.false in
    omega arith

pub returns : goal.returns
returns c = λ blob.
    let said = rw (ap place_says c.in-Some.is) at (c.push_class_name.ensures blob) in
    let zeros = rw c.zeros_behind.ensures at c.push_zeros-2.ensures in
    slot-name _ _ _ (row-known c.args.class c.row_of-row.ensures c.requires.class_bound) said c.if-section-end.false zeros

pub returns-in_default : goal.returns-in_default
returns-in_default c = λ blob.
    let said = rw (ap place_says c.in_default.is) at (c.push_class_name.ensures blob) in
    slot-missing _ _ _ (row-known c.args.class c.row_of-row.ensures c.requires.class_bound) said c.push_zeros.ensures
