use Rattle.std.proofs.Common.{refl, arith}
use Rattle.escapes.proofs.Writing.{special-above, byte-percent, two-percents, anew-start, anew-before, anew-room, anew-byte, anew-two, anew-eight, anew-rest, anew-done}
use Rattle.escapes.proofs.write_anew.Goals as goal

pub loop-from-init : goal.loop-from-init
loop-from-init c = anew-start _ _ _ _ c.requires.0

pub bounds-out-from : goal.bounds-out-from
bounds-out-from c = omega (arith, c.requires.1, c.loop-from.invariant.wrote.long, c.loop-from-test.true)

pub bounds-out-from-then-b-gt-HIGHEST : goal.bounds-out-from-then-b-gt-HIGHEST
bounds-out-from-then-b-gt-HIGHEST c = omega (arith, c.requires.1, c.loop-from.invariant.wrote.long, c.loop-from-test.true)

pub put_percent-requires : goal.put_percent-requires
put_percent-requires c = omega (arith, c.requires.1, c.loop-from.invariant.wrote.long, anew-before c.requires.0 c.requires.1 c.requires.2 c.loop-from.invariant c.loop-from-test.true, c.loop-from-test.true)

pub put_percent-requires-then-c-gt-HIGHEST : goal.put_percent-requires-then-c-gt-HIGHEST
put_percent-requires-then-c-gt-HIGHEST c = omega (arith, c.put_percent.ensures.long, c.requires.1, c.loop-from.invariant.wrote.long, anew-before c.requires.0 c.requires.1 c.requires.2 c.loop-from.invariant c.loop-from-test.true, c.loop-from-test.true)

pub overflow_add-to-then-c-gt-HIGHEST : goal.overflow_add-to-then-c-gt-HIGHEST
overflow_add-to-then-c-gt-HIGHEST c = omega (arith, anew-before c.requires.0 c.requires.1 c.requires.2 c.loop-from.invariant c.loop-from-test.true, c.requires.1, c.loop-from-test.true)

pub overflow_add-to : goal.overflow_add-to
overflow_add-to c = omega (arith, anew-before c.requires.0 c.requires.1 c.requires.2 c.loop-from.invariant c.loop-from-test.true, c.requires.1, c.loop-from-test.true)

pub loop-from-preserved-then-c-gt-HIGHEST : goal.loop-from-preserved-then-c-gt-HIGHEST
loop-from-preserved-then-c-gt-HIGHEST c = anew-two c.requires.0 c.requires.1 c.requires.2 c.loop-from.invariant c.loop-from-test.true refl refl c.requires.3 c.if-c-gt-HIGHEST.true (two-percents _ _ (special-above _ c.if-b-gt-HIGHEST.true) (special-above _ c.if-c-gt-HIGHEST.true) c.put_percent.ensures c.put_percent-then-c-gt-HIGHEST.ensures)

pub put_percent-requires-then-b-gt-HIGHEST : goal.put_percent-requires-then-b-gt-HIGHEST
put_percent-requires-then-b-gt-HIGHEST c = omega (arith, c.requires.1, c.loop-from.invariant.wrote.long, anew-before c.requires.0 c.requires.1 c.requires.2 c.loop-from.invariant c.loop-from-test.true, c.loop-from-test.true)

pub overflow_add-to-then-b-gt-HIGHEST : goal.overflow_add-to-then-b-gt-HIGHEST
overflow_add-to-then-b-gt-HIGHEST c = omega (arith, anew-before c.requires.0 c.requires.1 c.requires.2 c.loop-from.invariant c.loop-from-test.true, c.requires.1, c.loop-from-test.true)

pub loop-from-preserved-then-b-gt-HIGHEST : goal.loop-from-preserved-then-b-gt-HIGHEST
loop-from-preserved-then-b-gt-HIGHEST c = anew-byte c.requires.0 c.requires.1 c.requires.2 c.loop-from.invariant c.loop-from-test.true refl (byte-percent _ (special-above _ c.if-b-gt-HIGHEST.true) refl c.put_percent-then-b-gt-HIGHEST.ensures)

pub read_eight-v-requires : goal.read_eight-v-requires
read_eight-v-requires c = omega (arith, c.requires.1, c.loop-from.invariant.wrote.long, c.loop-from-test.true)

pub write_eight-requires : goal.write_eight-requires
write_eight-requires c = omega (arith, c.requires.1, c.loop-from.invariant.wrote.long, anew-before c.requires.0 c.requires.1 c.requires.2 c.loop-from.invariant c.loop-from-test.true, c.loop-from-test.true)

pub overflow_add-to-then-stand_word : goal.overflow_add-to-then-stand_word
overflow_add-to-then-stand_word c = omega (arith, anew-before c.requires.0 c.requires.1 c.requires.2 c.loop-from.invariant c.loop-from-test.true, c.requires.1, c.loop-from-test.true)

pub loop-from-preserved-then-stand_word : goal.loop-from-preserved-then-stand_word
loop-from-preserved-then-stand_word c = anew-eight c.requires.0 c.requires.1 c.requires.2 c.loop-from.invariant c.loop-from-test.true (c.stand_word.ensures _ _ (λ j. (c.slice_known-in-loop-from-1.given j).fits) c.read_eight-v.ensures c.if-stand_word.true) (c.write_eight.ensures _ _ (λ j. (c.slice_known-in-loop-from-1.given j).fits) (anew-room c.requires.0 c.requires.1 c.requires.2 c.loop-from.invariant c.loop-from-test.true) c.read_eight-v.ensures)

pub put_byte-to-requires : goal.put_byte-to-requires
put_byte-to-requires c = (omega (arith, c.requires.1, c.loop-from.invariant.wrote.long, anew-before c.requires.0 c.requires.1 c.requires.2 c.loop-from.invariant c.loop-from-test.true, c.loop-from-test.true), c.if-b-gt-HIGHEST.false)

pub loop-from-preserved : goal.loop-from-preserved
loop-from-preserved c = anew-byte c.requires.0 c.requires.1 c.requires.2 c.loop-from.invariant c.loop-from-test.true refl c.put_byte-to.ensures

pub overflow_sub-result-2 : goal.overflow_sub-result-2
overflow_sub-result-2 c = omega (arith, anew-rest c.requires.0 c.requires.1 c.requires.2 c.loop-from.invariant c.loop-from-test.false)

pub shape_of-out : goal.shape_of-out
shape_of-out c = c.loop-from.invariant.wrote.long

pub returns : goal.returns
returns c = anew-done c.requires.0 c.requires.1 c.requires.2 c.loop-from.invariant c.loop-from-test.false
