use native.Mathlib.Omega.{arith}
use Rattle.buffers.specs.Writes.{written}
use Rattle.buffers.proofs.Writing.{kept_same, wrote_then, said-missing}
use Rattle.method_signatures.proofs.Values.{name-missing, name-numbered, said-param, said-no-param}
use Rattle.method_signatures.proofs.push_param_name.Goals as goal

pub returns-then-first-eq0 : goal.returns-then-first-eq0
returns-then-first-eq0 c = λ blob. said-missing (name-missing c.requires.laid _ blob _ c.requires.m_bound c.read_column-first.ensures _ c.if-first-eq0.true) (kept_same _ _)

pub returns-then-count_rows-first : goal.returns-then-count_rows-first
returns-then-count_rows-first c = λ blob. rw (name-numbered c.requires.laid c.args.strings.now blob c.args.m c.requires.m_bound c.read_column-first.ensures c.args.p c.if-first-eq0.false (omega (arith, c.if-count_rows-first.true, c.count_rows.ensures))) (written (wrote_then c.push-end.ensures c.push_decimal.ensures))

pub returns-in-Ok : goal.returns-in-Ok
returns-in-Ok c = λ blob. said-param c.requires.laid _ blob _ c.requires.m_bound c.read_column-first.ensures _ c.if-first-eq0.false (omega (arith, c.if-count_rows-first.false, c.count_rows.ensures)) c.read_string.ensures c.in-Ok.is c.cut-name.ensures c.push.ensures

pub returns-in-Err : goal.returns-in-Err
returns-in-Err c = λ blob.
    said-no-param c.requires.laid _ blob _ c.requires.m_bound c.read_column-first.ensures _ c.if-first-eq0.false (omega (arith, c.if-count_rows-first.false, c.count_rows.ensures)) c.read_string.ensures c.in-Err.is c.push-in-Err.ensures
