use mathlib.Core.Path.{refl}
use native.Mathlib.Omega.{arith}
use Rattle.rows.specs.Layout.{view_in}
use Rattle.method_signatures.proofs.Laws.{read_next, read-by-none, others-on, reads_on, alone-reads}
use Rattle.method_signatures.proofs.Steps.{pay-start, pay-end, pay-more, pay-spent, takes-in}
use Rattle.method_signatures.proofs.pass_readings.Goals as goal

pub loop-reader-init : goal.loop-reader-init
loop-reader-init c = pay-start _ _ _ _

pub returns-then-alone : goal.returns-then-alone
returns-then-alone c =
    let l = c.loop-reader in
    let a = c.args in
    let v = view_in a.tables.now a.layout.now a.strings.now a.blob.now in
    let next = c.in-Some.ensures a.strings.now a.blob.now in
    let alone = alone-reads c.requires.laid _ _ a.m (c.is_read_once-alone.ensures _ _ _) next c.if-alone.true in
    takes-in v a.taker.0 a.m (c.first_reader-class.ensures a.strings.now a.blob.now)
    (pay-end v a.m (pay-more v a.m l.invariant (read_next v a.m next) c.pass_by.ensures c.in_ok-have.was alone) refl)

pub loop-reader-smaller : goal.loop-reader-smaller
loop-reader-smaller c =
    let a = c.args in
    let next = c.in-Some.ensures a.strings.now a.blob.now in
    let on = reads_on c.requires.laid _ _ a.m (c.is_read_once-alone.ensures _ _ _) next c.if-alone.false in
    omega (arith, on.0, on.1)

pub loop-reader-preserved : goal.loop-reader-preserved
loop-reader-preserved c =
    let l = c.loop-reader in
    let a = c.args in
    let v = view_in a.tables.now a.layout.now a.strings.now a.blob.now in
    let next = c.in-Some.ensures a.strings.now a.blob.now in
    let on = others-on c.requires.laid _ _ a.m (c.is_read_once-alone.ensures _ _ _) c.if-alone.false _ in
    pay-more v a.m l.invariant (read_next v a.m next) c.pass_by.ensures c.in_ok-have.was on

pub returns-in_err-have : goal.returns-in_err-have
returns-in_err-have c =
    let l = c.loop-reader in
    let a = c.args in
    let v = view_in a.tables.now a.layout.now a.strings.now a.blob.now in
    let next = c.in-Some.ensures a.strings.now a.blob.now in
    rw c.from_residual.ensures (takes-in v a.taker.0 a.m (c.first_reader-class.ensures a.strings.now a.blob.now)
    (pay-spent v a.m l.invariant (read_next v a.m next) c.pass_by.ensures c.in_err-have.was))

pub returns : goal.returns
returns c =
    let l = c.loop-reader in
    let a = c.args in
    let v = view_in a.tables.now a.layout.now a.strings.now a.blob.now in
    let is = read-by-none v a.m (c.in_default.ensures a.strings.now a.blob.now) in
    takes-in v a.taker.0 a.m (c.first_reader-class.ensures a.strings.now a.blob.now) (pay-end v a.m l.invariant is)
