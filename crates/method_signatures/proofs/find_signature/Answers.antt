use mathlib.Core.Path.{◌∙◌}
use native.Mathlib.Omega.{arith}
use Rattle.numbers.proofs.Parts.{cut-is}
use Rattle.signatures.specs.Environment.{env_in}
use Rattle.method_signatures.proofs.Laws.{method-narrow, reading-missed}
use Rattle.method_signatures.proofs.Values.{made}
use Rattle.method_signatures.proofs.Known.{knows-past, knows-behind}
use mathlib.Core.Path.{refl}
use Rattle.method_signatures.proofs.find_signature.Goals as goal

pub returns-in_default : goal.returns-in_default
returns-in_default c =
    let gone = c.unread_signature.ensures in
    (gone.0 _ _ (reading-missed c.in_default.ensures).0, gone.1, gone.2 ∙ c.wide-read.ensures.0)

pub returns-then-reading-p : goal.returns-then-reading-p
returns-then-reading-p c =
    let narrow = method-narrow c.requires.laid c.args.m c.requires.m_bound in
    rw c.known_behind.ensures (
      knows-past _ _ _ _ (made c.in-Some.ensures) narrow (omega (arith, c.if-reading-p.true, c.wide-read.ensures.0)),
      record { narrow = narrow; method = refl },
      c.wide-read.ensures.0,
    )

pub returns : goal.returns
unfolding env_in
returns c =
    let k = made c.in-Some.ensures in
    let is = (cut-is _ _ _ _ k.inside c.cut-sig.ensures).bytes in
    let narrow = method-narrow c.requires.laid c.args.m c.requires.m_bound in
    rw c.known_behind-2.ensures (
      knows-behind _ _ _ _ k narrow (omega (arith, c.if-reading-p.false, c.wide-read.ensures.0)) is c.skip_types-behind.ensures.0,
      record { narrow = narrow; method = refl },
      c.wide-read.ensures.0,
    )
