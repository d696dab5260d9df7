use mathlib.Core.Path.{◌≡◌}
use Prim.Native.Nat.{◌-◌}
use Rattle.buffers.specs.Writes.{Kept}
use Rattle.record.specs.Names.{classes}
use Rattle.rows.specs.Layout.{view_in}
use Rattle.method_signatures.proofs.Laws.{readers_in, standing}
use Rattle.method_signatures.proofs.read_signature.Given as goal

abbrev pub invariant-loop-reader : goal.invariant-loop-reader
invariant-loop-reader l = let v = view_in l.tables l.layout l.strings l.blob in
    Kept l.initial.buf l.at l.buf × (standing v l.m (readers_in v l.m l.initial.class.0) ≡ standing v l.m (readers_in v l.m l.class.0))

abbrev pub decreases-loop-reader : goal.decreases-loop-reader
decreases-loop-reader l = classes (view_in l.tables l.layout l.strings l.blob) - l.class.0
