use Rattle.std.proofs.Common.{arith, eqb-true}
use Rattle.heaps.proofs.Lookups.{eight-without}
use Rattle.heaps.proofs.none_is.Goals as goal

pub returns : goal.returns
returns c = λ e.
    eight-without c.args.x c.args.s.now c.args.at (omega (arith, c.if-s-at-lt-TURN.false, c.if-s-at.false)) c.ranges.x.fits (λ j. (c.type_inv.s j).fits)
    c.read_eight.type_inv c.read_eight.ensures (eqb-true _ _ (rw c.from.ensures at e))
