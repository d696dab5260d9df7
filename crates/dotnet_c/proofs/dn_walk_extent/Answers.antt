use mathlib.Core.Path.{◌∙◌, ap}
use Rattle.header.specs.declared.Options.{Options}
use Rattle.tables.specs.Extents.{Walked, walk_of}
use Rattle.c_replies.specs.Told.{told_extent}
use Rattle.dotnet_c.proofs.dn_walk_extent.Goals as goal

pub returns : goal.returns
returns c =
    let a = c.args in
    c.extent_of.ensures ∙ ap (λ (w : Walked). told_extent w a.kind) (c.walk_with.ensures ∙ ap (λ (o : Options). walk_of o a.tables.now) c.options_of.ensures)
