use mathlib.Core.Path.{sym, subst, ◌∙◌}
use mathlib.Core.List.{List}
use mathlib.Core.Option.{some-injective, none-ne-some}
use Prim.Native.Nat.{ℕ}
use Rattle.numbers.proofs.Parts.{cut-is}
use Rattle.sig_leaves.proofs.Specs.{blob-there, blob-missing}
use Rattle.passing.specs.Passing.{Suffices}
use Rattle.passing.proofs.spec_suffices.Goals as goal

pub returns-in-Some : goal.returns-in-Some
returns-in-Some c = λ strings spec e is.
    let found = blob-there (c.spec_blob.ensures strings) c.in-Some.is in
    let bytes = (cut-is _ _ _ _ found.1 c.cut-spec.ensures).bytes in
    let same = some-injective _ _ (sym is ∙ found.0) in
    subst (λ (s : List ℕ). Suffices s c.args.most) (bytes ∙ sym same) (c.surely_suffices.ensures e)

pub returns-in-None : goal.returns-in-None
returns-in-None c = λ strings spec e is.
    absurd (none-ne-some _ (sym (blob-missing (c.spec_blob.ensures strings) c.in-None.is) ∙ is))
