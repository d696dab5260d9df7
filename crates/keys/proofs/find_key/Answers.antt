use native.Mathlib.Omega.{arith}
use Rattle.keys.proofs.Laws.{keyed-none}
use Rattle.keys.proofs.find_key.Goals as goal

pub find_key_from-requires : goal.find_key_from-requires
find_key_from-requires c = record { laid = c.requires.laid; column_lt_count = (c.requires.column_lt_count, omega arith, keyed-none _ _, omega arith) }
