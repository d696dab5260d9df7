use mathlib.Core.Path.{refl, ap, ◌∙◌}
use native.Mathlib.Omega.{arith}
use Rattle.buffers.proofs.Writing.{kept_same}
use Rattle.rows.specs.Layout.{view_in}
use Rattle.method_signatures.specs.Signatures.{missing}
use Rattle.method_signatures.proofs.Laws.{read_next, read-by-none, others-on, reads_on, alone-reads, standing, nobody-stands, reader-stands, reader-fails, reading-in, reading-behind, kept-twice, reading-stands}
use Rattle.method_signatures.proofs.Laws.{reading-lost, alone-stands}
use mathlib.Core.Path.{sym}
use Rattle.method_signatures.proofs.read_signature.Goals.{then-alone-via-then-alone, then-alone-via-else-alone+then-is_some}
use Rattle.method_signatures.proofs.read_signature.Goals as goal

pub loop-reader-init : goal.loop-reader-init
loop-reader-init c = (kept_same _ _, refl)

pub loop-reader-smaller : goal.loop-reader-smaller
loop-reader-smaller c =
    let a = c.args in
    let next = c.in_ok-reader.ensures a.strings.now a.blob.now in
    let on = reads_on c.requires.laid _ _ a.m (c.is_read_once-alone.ensures _ _ _) next c.if-alone.false in
    omega (arith, on.0, on.1)

pub loop-reader-preserved : goal.loop-reader-preserved
loop-reader-preserved c =
    let l = c.loop-reader in
    let a = c.args in
    let v = view_in a.tables.now a.layout.now a.strings.now a.blob.now in
    let is = read_next v a.m (c.in_ok-reader.ensures a.strings.now a.blob.now) in
    let gone = reading-lost c.read_by-reading.ensures (sym c.is_some.ensures ∙ c.if-is_some.false) in
    let on = others-on c.requires.laid _ _ a.m (c.is_read_once-alone.ensures _ _ _) c.if-alone.false _ in
    (kept-twice l.invariant.0 gone.1, l.invariant.1 ∙ reader-fails v a.m is gone.0 ∙ ap (standing v a.m) on)

pub returns-then-alone : goal.returns-then-alone
returns-then-alone c =
    let l = c.loop-reader in
    let a = c.args in
    let v = view_in a.tables.now a.layout.now a.strings.now a.blob.now in
    let next = c.in_ok-reader.ensures a.strings.now a.blob.now in
    let is = read_next v a.m next in
    reading-in a.taker.0 (c.first_reader-class.ensures a.strings.now a.blob.now)
    (reading-behind l.invariant.0
    (elim c.then-alone.branch [
      | then-alone-via-then-alone w ↦
          let alone = alone-reads c.requires.laid _ _ a.m (c.is_read_once-alone.ensures _ _ _) next w.if-alone.true in
          rw (l.invariant.1 ∙ alone-stands v a.m is alone) c.read_by-reading.ensures
      | then-alone-via-else-alone+then-is_some w ↦
          reading-stands (λ s e. l.invariant.1 ∙ reader-stands v a.m is s e) c.read_by-reading.ensures (sym w.is_some.ensures ∙ w.if-is_some.true)
    ]))

pub returns-in_err-reader : goal.returns-in_err-reader
returns-in_err-reader c =
    let l = c.loop-reader in
    let a = c.args in
    let v = view_in a.tables.now a.layout.now a.strings.now a.blob.now in
    let is = read-by-none v a.m (c.in_err-reader.ensures a.strings.now a.blob.now) in
    rw c.from_residual.ensures (reading-in a.taker.0 (c.first_reader-class.ensures a.strings.now a.blob.now)
    (missing (l.invariant.1 ∙ nobody-stands v a.m is) l.invariant.0))
