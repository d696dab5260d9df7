use Rattle.charges.proofs.tally_method.Goals as goal

pub returns : goal.returns
returns c =
    let a = c.args in
    let at = c.place_method-placed.ensures a.strings.now a.blob.now (c.no_own.ensures _) in
    c.pass_readings_of.ensures _ at.0
