use native.Mathlib.Omega.{arith}
use Rattle.bases.proofs.Laws.{pass-start, pass-more, pass_spent, pass-past, pass_all, candidates-most}
use Rattle.bases.proofs.pass_bases.Goals as goal

pub loop-i-init : goal.loop-i-init
loop-i-init c = pass-start

pub loop-i-preserved : goal.loop-i-preserved
loop-i-preserved c = pass-more c.loop-i.invariant (c.in-Some.ensures _ _) c.pass_base.ensures c.in_ok-have.was

pub returns-in_err-have : goal.returns-in_err-have
returns-in_err-have c = rw c.from_residual.ensures (pass_spent c.loop-i.invariant (c.in-Some.ensures _ _) c.pass_base.ensures c.in_err-have.was)

pub returns-in_default : goal.returns-in_default
returns-in_default c = pass-past c.loop-i.invariant (c.in_default.ensures _ _)

pub returns-after-loop-i : goal.returns-after-loop-i
returns-after-loop-i c = pass_all c.loop-i.invariant
    (omega (
      arith,
      c.loop-i-test.false,
      c.count_rows-n.ensures,
      candidates-most c.requires.laid c.args.strings.now c.args.blob.now _ c.requires.lt_row.0,
    ))
