use Rattle.std.proofs.Common.{◌+◌, ◌-◌, ◌*◌, length}
use Rattle.escapes.proofs.+escape_part.Given as goal

abbrev pub decreases-escape_part : goal.decreases-escape_part
decreases-escape_part l = 2 * (l.end - l.start) + 32 - (length l.out.now - l.end)
