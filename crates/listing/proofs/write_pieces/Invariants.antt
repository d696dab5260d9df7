use Rattle.rows.specs.Layout.{view_in}
use Rattle.answers.specs.Known.{Knows}
use Rattle.listing.proofs.write_pieces.Given as goal

abbrev pub invariant-loop : goal.invariant-loop
invariant-loop g l = Knows (view_in l.tables l.layout l.strings l.blob) l.blob l.known
