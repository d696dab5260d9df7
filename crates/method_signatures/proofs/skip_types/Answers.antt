use mathlib.Core.Path.{◌≡◌, sym, ◌∙◌}
use Prim.Native.Nat.{suc, ◌+◌, ◌-◌}
use native.Mathlib.Nat.{sub-zero}
use native.Mathlib.Omega.{arith}
use Rattle.method_signatures.proofs.Laws.{behind_more, behind-none, rendered-next}
use Rattle.method_signatures.proofs.skip_types.Goals.{in-Ok, in-Ok-2}
use Rattle.method_signatures.proofs.skip_types.Goals as goal

pub loop-i-init : goal.loop-i-init
loop-i-init c = rw sub-zero

pub loop-i-preserved : goal.loop-i-preserved
loop-i-preserved c =
    let step : c.args.count - c.loop-i._i ≡ suc (c.args.count - (c.loop-i._i + 1)) = omega (arith, c.loop-i-test.true) in
    elim c.match-parse_sig_type.branch [
      | in-Ok w ↦ rw w.p-is (sym (behind_more _ _ step (rendered-next c.parse_sig_type.ensures w.in-Ok.is)) ∙ c.loop-i.invariant)
      | in-Ok-2 w ↦ rw w.p-is (sym (behind_more _ _ step (rendered-next c.parse_sig_type.ensures w.in-Ok.is)) ∙ c.loop-i.invariant)
    ]

pub returns : goal.returns
returns c = (sym (behind-none _ _ _ (omega (arith, c.loop-i-test.false))) ∙ c.loop-i.invariant, c.loop-i.auto.buf)
