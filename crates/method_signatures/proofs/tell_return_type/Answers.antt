use Rattle.method_signatures.proofs.Laws.{method-narrow, reading-missed}
use Rattle.method_signatures.proofs.Values.{made, told-return, no_return}
use Rattle.method_signatures.proofs.Known.{knows-first}
use Rattle.method_signatures.proofs.tell_return_type.Goals as goal

pub returns-in_default : goal.returns-in_default
returns-in_default c = (no_return _ c.in_default.ensures, c.unread_signature-signature.ensures.0 _ _ (reading-missed c.in_default.ensures).0)

pub returns : goal.returns
returns c =
    let k = made c.in-Some.ensures in
    (told-return k, rw c.known_behind.ensures (knows-first _ _ _ _ k (method-narrow c.requires.laid c.args.m c.requires.m_bound)))
