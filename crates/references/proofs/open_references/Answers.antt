use mathlib.Core.Path.{refl, ap}
use native.Mathlib.Omega.{arith}
use Rattle.header.specs.Stream.{Opening}
use Rattle.header.proofs.Cases.{first-within}
use Rattle.references.proofs.Opening.{is-refused, is-ready}
use borrow.Author.Rules.{rules}
use Rattle.references.proofs.open_references.Goals as goal

pub lay-requires : goal.lay-requires
lay-requires c =
    let first = ap (λ (x : Opening). x.first) c.in_ok-h.ensures in
    record { first_le_len = (omega (arith, first, first-within c.args.options c.args.tables.now), search rules); layout_value = c.requires }

pub returns-in_err-h : goal.returns-in_err-h
returns-in_err-h c = is-refused c.in_err-h.ensures refl (search rules, c.requires)

pub returns : goal.returns
returns c = is-ready c.in_ok-h.ensures refl c.lay.ensures
