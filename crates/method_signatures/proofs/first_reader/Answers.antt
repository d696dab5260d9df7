use Prim.Native.Nat.{◌+◌, ◌<◌}
use native.Mathlib.Omega.{arith}
use Rattle.rows.specs.Columns as columns
use Rattle.rows.specs.Layout.{cell}
use Rattle.rows.proofs.Laws.{marked-ascends}
use Rattle.method_signatures.proofs.Laws.{from-begun, first_any}
use Rattle.method_signatures.proofs.first_reader.Goals as goal

pub returns-then-column-m : goal.returns-then-column-m
returns-then-column-m c =
    let a = c.args in
    let laid = c.requires.laid in
    let up = marked-ascends laid columns.method_list (omega arith) c.is_marked.ensures c.if-is_marked.true in
    let here = c.place_of-place.ensures in
    let begun : cell a.tables.now a.layout.now columns.method_list (a.taker.0 + 1) < a.m + 2 =
    rw (← here) (omega (arith, c.if-column-m.true, c.read_column-column.ensures)) in
    λ strings blob.
    first_any _ a.m (c.is_taker.ensures a.tables.now strings blob) c.if-is_taker.false a.taker.0
    (from-begun laid strings blob up a.m a.taker.0 (omega (arith, here, c.if-place-count_rows.true, c.count_rows.ensures)) begun)
