use mathlib.Core.Path.{◌∙◌, ap}
use Rattle.header.specs.declared.Options.{Options}
use Rattle.tables.specs.Extents.{Walked, walk_of}
use Rattle.c_replies.specs.Told.{told}
use Rattle.dotnet_c.proofs.dn_walk_stop.Goals as goal

pub returns : goal.returns
returns c =
    let a = c.args in
    c.stop_of.ensures ∙ ap (λ (w : Walked). told w.stop) (c.walk_with.ensures ∙ ap (λ (o : Options). walk_of o a.tables.now) c.options_of.ensures)
