use Rattle.listing.proofs.write_pieces.Goals as goal

pub loop-init : goal.loop-init
loop-init g c = c.nothing_known-known.ensures _ _
