use mathlib.Core.Path.{sym, ◌∙◌, ap}
use Rattle.header.specs.declared.Options.{Options}
use Rattle.record.specs.View.{view}
use Rattle.opening.proofs.Laws.{opened-laid}
use Rattle.name_section.proofs.Filling.{of-refused, of-ready}
use borrow.Author.Rules.{rules}
use Rattle.name_section.proofs.name_section.Goals as goal

pub hold_nests-requires : goal.hold_nests-requires
hold_nests-requires c = record { laid = opened-laid c.open.ensures c.in_default.is; size_in_bounds = search rules }

pub returns-in-Err : goal.returns-in-Err
returns-in-Err c =
    let opened = c.open.ensures in
    of-refused c.args.options c.args.tables.now c.args.strings.now c.args.blob.now _ (sym opened.answer ∙ c.in-Err.is) c.refuse.ensures

pub returns : goal.returns
returns c =
    let opened = c.open.ensures in
    let ready = c.in_default.is in
    let held = c.hold_nests.ensures in
    let same = ap (λ (o : Options). view o c.args.tables.now c.args.strings.now c.args.blob.now) (held.options ∙ opened.options ready) in
    of-ready c.args.options c.args.tables.now c.args.strings.now c.args.blob.now (sym opened.answer ∙ ready) (rw same at (c.write_slots.ensures c.args.blob.now))
