use mathlib.Core.Path.{◌≡◌}
use Prim.Native.Nat.{◌-◌}
use Rattle.record.specs.Names.{levels}
use Rattle.record.specs.Types.{type}
use Rattle.signatures.specs.Environment.{env_in}
use Rattle.method_signatures.specs.Signatures.{behind}
use Rattle.method_signatures.proofs.skip_types.Given as goal

abbrev pub invariant-loop-i : goal.invariant-loop-i
invariant-loop-i l =
    let type = type (env_in l.tables l.layout l.strings l.blob l.class l.method) levels in
    behind type (l.count - l._i) l.sig l.p ≡ behind type l.count l.sig l.pos
