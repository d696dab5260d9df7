use Prim.Native.Nat.{◌-◌}
use Rattle.record.specs.Names.{classes}
use Rattle.rows.specs.Layout.{view_in}
use Rattle.method_signatures.proofs.Laws.{readers_in}
use Rattle.method_signatures.proofs.Steps.{Paying}
use Rattle.method_signatures.proofs.pass_readings.Given as goal

abbrev pub invariant-loop-reader : goal.invariant-loop-reader
invariant-loop-reader l = let v = view_in l.tables l.layout l.strings l.blob in Paying v l.m (readers_in v l.m l.initial.class.0) l.steps (readers_in v l.m l.class.0) l.have

abbrev pub decreases-loop-reader : goal.decreases-loop-reader
decreases-loop-reader l = classes (view_in l.tables l.layout l.strings l.blob) - l.class.0
