use mathlib.Core.Path.{refl}
use Rattle.method_signatures.proofs.Known.{knows-none}
use Rattle.method_signatures.proofs.unread_signature.Goals as goal

pub returns : goal.returns
returns c =
    let narrow = c.requires in
    (λ v heap e. knows-none v heap _ _ narrow c.key_of.ensures _ e, record { narrow = narrow; method = c.key_of.ensures }, refl)
