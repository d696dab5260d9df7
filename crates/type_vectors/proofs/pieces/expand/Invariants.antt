use Rattle.std.proofs.Common.{length}
use Rattle.type_vectors.proofs.pieces.expand.Given as goal

abbrev pub decreases-loop-c : goal.decreases-loop-c
decreases-loop-c l = length l.rest
