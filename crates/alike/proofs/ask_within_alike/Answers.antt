-- Both calls ask the question within the same allowance.
use Rattle.std.proofs.Common.{ℕ, subst}
use Rattle.record.specs.View.{view}
use Rattle.asks.specs.Asked.{Asked}
use Rattle.alike.proofs.Laws.{asked-alike}
use Rattle.alike.proofs.ask_within_alike.Goals as goal

pub returns : goal.returns
returns c =
    let a = c.args in
    let second = c.ask_within-after.ensures in
    let spent = subst (λ (n : ℕ). Asked (view a.options a.u.now a.strings.now a.blob.now) a.question n a.other.now c.ask_within-after.new.buf
    c.ask_within-after.result c.ask_within-after.new.allowance.left) c.requires.2 second
    in
    asked-alike c.requires.0 a.strings.now a.blob.now a.question _ _ _ _ _ _ _ _ _ c.requires.1 c.ask_within-before.ensures spent
