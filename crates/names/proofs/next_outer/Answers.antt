use mathlib.Core.Path.{◌≡◌}
use Prim.Native.Nat.{◌-◌}
use native.Mathlib.Omega.{arith}
use lib.ListN.{length}
use Rattle.rows.specs.Columns as columns
use Rattle.rows.specs.Layout.{rows_at}
use Rattle.names.proofs.Links.{head_at, link_at, last-of-all}
use Rattle.names.proofs.next_outer.Goals as goal
use Rattle.names.proofs.next_outer.Goals.{then-i-n, else-i-n}

pub returns : goal.returns
returns c =
    let room : c.saturating_sub-room.result ≡ length c.args.memory.now - c.count_rows-n.result = omega (arith, c.saturating_sub-room.ensures) in
    let b = c.requires.i_bound in
    elim c.if-i-n.branch [
      | then-i-n w ↦ c.linked.ensures _ _ (rw (w.at-is, room) (link_at c.requires.nested (omega (arith, c.count_rows-n.ensures, w.if-i-n.true)) (b.1 (omega (arith, c.count_rows-n.ensures, w.if-i-n.true))) c.wide-class.ensures.0 c.count_rows-n.ensures (omega (arith, room, c.count_rows-n.ensures))))
      | else-i-n w ↦ last-of-all _ _ {n = rows_at c.args.layout.now columns.nested} _ c.linked.result (omega (arith, c.count_rows-n.ensures, w.if-i-n.false, b.0)) (c.linked.ensures _ _ (rw w.at-is (head_at c.requires.nested c.wide-class.ensures.0 (omega (arith, room, c.count_rows-n.ensures)))))
    ]
