use mathlib.Core.Path.{◌≡◌, ap, ◌∙◌}
use Prim.Native.Nat.{◌-◌}
use native.Mathlib.Omega.{arith}
use Rattle.record.specs.Methods.{left_after}
use Rattle.methods.proofs.Laws.{all_left, class-takes}
use Rattle.methods.proofs.scan_left.Goals as goal

pub loop-r-init : goal.loop-r-init
loop-r-init c = (omega (arith, c.count_rows-n.ensures), λ strings blob. all_left c.requires.laid strings blob (omega (arith, c.count_rows-n.ensures)) c.count_rows-n.ensures c.count_rows-left.ensures)

pub loop-r-preserved : goal.loop-r-preserved
loop-r-preserved c =
    let l = c.loop-r in (
      omega arith,
      λ strings blob.
          class-takes c.requires.laid strings blob l.r (omega arith) (omega (arith, c.count_rows-n.ensures)) c.read_column-first.ensures (l.invariant.1 strings blob) c.take_from-left.ensures,
    )

pub returns : goal.returns
returns c strings blob =
    let l = c.loop-r in
    let same : l.r - 1 ≡ c.args.row - 1 = omega arith in
    l.invariant.1 strings blob ∙ ap (left_after _) same
