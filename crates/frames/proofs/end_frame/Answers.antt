use mathlib.Core.Path.{refl}
use native.Mathlib.Omega.{arith}
use Rattle.std.proofs.lemmas.Result.{err_from_is_err_and}
use Rattle.frames.proofs.Turns as turns
use Rattle.frames.proofs.end_frame.Goals as goal

pub returns-in_err-count : goal.returns-in_err-count
returns-in_err-count c =
    let up = err_from_is_err_and c.from_residual.result c.from_residual.ensures.1 in
    rw (up.1, up.2) (turns.end-uncounted _ _ c.if-v-eq-FIRST_TYPE.true c.in_err-count.ensures)

pub returns-then-count-eq0 : goal.returns-then-count-eq0
returns-then-count-eq0 c = turns.end_empty _ _ c.if-v-eq-FIRST_TYPE.true c.in_ok-count.ensures c.if-count-eq0.true c.push.ensures

pub overflow_cast-result : goal.overflow_cast-result
overflow_cast-result c = omega (arith, turns.count_small _ _ c.in_ok-count.ensures)

pub returns-then-v-eq-FIRST_TYPE : goal.returns-then-v-eq-FIRST_TYPE
returns-then-v-eq-FIRST_TYPE c = turns.end-counted _ _ c.if-v-eq-FIRST_TYPE.true c.in_ok-count.ensures c.if-count-eq0.false refl c.push-then-v-eq-FIRST_TYPE.ensures

pub returns-then-v-eq1 : goal.returns-then-v-eq1
returns-then-v-eq1 c = turns.end-last _ _ c.if-v-eq1.true c.push-then-v-eq1.ensures

pub returns-then-v-le-MOST_ARGUMENTS : goal.returns-then-v-le-MOST_ARGUMENTS
returns-then-v-le-MOST_ARGUMENTS c = turns.end-argument _ _ c.if-v-eq-FIRST_TYPE.false c.if-v-eq1.false c.if-v-le-MOST_ARGUMENTS.true c.push-then-v-le-MOST_ARGUMENTS.ensures

pub returns : goal.returns
returns c = turns.end-brackets _ _ c.if-v-le-MOST_ARGUMENTS.false c.from.ensures c.push_brackets.ensures
