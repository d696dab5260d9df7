use mathlib.Core.Path.{◌∙◌, ap, subst}
use Rattle.charges.specs.Within.{AllFit}
use Rattle.header.specs.declared.Options.{Options}
use Rattle.record.specs.View.{view}
use Rattle.listing_text.proofs.fill_held.Goals as goal

pub fill_opened-on-requires : goal.fill_opened-on-requires
fill_opened-on-requires c = record { laid = c.requires.laid; by_index = c.requires.by_index; knows = c.nothing_known-known.ensures _ _; all_fit = λ e. subst AllFit (c.requires.by_index _ _) (c.all_within-all.ensures _ e) }

pub fill_opened-on-requires-2 : goal.fill_opened-on-requires-2
fill_opened-on-requires-2 c =
    let held = c.hold.ensures in
    record { laid = held.laid; by_index = λ s b. ap (λ (o : Options). view o c.args.tables.now s b) held.options ∙ c.requires.by_index s b; knows = c.nothing_known-known.ensures _ _; all_fit = λ e. subst AllFit (c.requires.by_index _ _) (c.all_within-all.ensures _ e) }
