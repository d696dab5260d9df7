use mathlib.Core.Path.{◌∙◌, ap}
use Rattle.header.specs.declared.Options.{Options}
use Rattle.tables.specs.Extents.{walk_of}
use Rattle.walks.proofs.walk.Goals as goal

pub returns : goal.returns
returns c = c.walk_with.ensures ∙ ap (λ (o : Options). walk_of o c.args.tables.now) c.base_options-base.ensures
