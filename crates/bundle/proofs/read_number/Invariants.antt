use Rattle.std.proofs.Common.{◌≡◌, ◌≤◌, drop}
use Rattle.bundle.specs.Input.{more_digits, number_at}
use Rattle.bundle.proofs.read_number.Given as goal

abbrev pub invariant-loop-i : goal.invariant-loop-i
invariant-loop-i l = (l.n ≤ 65536) × (more_digits l.n l.i (drop l.i l.s) ≡ number_at l.s l.at)
