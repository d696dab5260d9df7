use native.Mathlib.Omega.{arith}
use Rattle.numbers.proofs.Parts.{cut-is}
use Rattle.signatures.specs.Environment.{env_in}
use Rattle.method_signatures.proofs.Known.{part-inside, told-past, told-type, told-no-type}
use Rattle.method_signatures.proofs.tell_next_type.Goals as goal

pub returns-then-known : goal.returns-then-known
returns-then-known c =
    let k = c.requires.knows_signature in
    (told-past _ _ _ _ _ _ k.0 k.1 k.2 _ _ c.if-known.true, k.0)

pub returns-in-Ok : goal.returns-in-Ok
unfolding env_in
returns-in-Ok c =
    let k = c.requires.knows_signature in
    let is = (cut-is _ _ _ _ (part-inside _ _ _ _ _ _ k.0 k.1 k.2) c.cut-sig.ensures).bytes in
    told-type _ _ _ _ _ _ k.0 k.1 k.2 (omega (arith, c.if-known.false)) is c.parse_sig_type.ensures c.in-Ok.is c.read_more.ensures

pub returns-in-Err : goal.returns-in-Err
unfolding env_in
returns-in-Err c =
    let k = c.requires.knows_signature in
    let is = (cut-is _ _ _ _ (part-inside _ _ _ _ _ _ k.0 k.1 k.2) c.cut-sig.ensures).bytes in
    told-no-type _ _ _ _ _ _ k.0 k.1 k.2 (omega (arith, c.if-known.false)) is c.parse_sig_type.ensures c.in-Err.is c.read_more-in-Err.ensures
