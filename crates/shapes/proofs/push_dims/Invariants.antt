use mathlib.Core.Path.{◌≡◌}
use mathlib.Core.List.{List, ◌++◌}
use Prim.Native.Nat.{ℕ, ◌-◌}
use lib.ListN.{length}
use Rattle.numbers.specs.Compressed.{uint, sint}
use Rattle.buffers.specs.Texts.{q}
use Rattle.buffers.specs.Writes.{Wrote}
use Rattle.record.specs.Dims.{dims}
use Rattle.shapes.specs.Series.{numbers, items}
use Rattle.shapes.proofs.Dims.{ahead}
use Rattle.shapes.proofs.push_dims.Given as goal

abbrev pub invariant-loop-i : goal.invariant-loop-i
invariant-loop-i l = (length l.buf ≡ length l.initial.buf)
    × ((b : List ℕ) (r : ℕ) → Wrote l.buf l.k (ahead (l.rank - l.i) l.i (numbers (l.sizes.count - l.i) uint l.sig l.size_pos)
    (numbers (l.bounds.count - l.i) sint l.sig l.bound_pos)) b r
    → Wrote l.initial.buf l.at (dims l.rank 0 (items uint l.sig l.sizes) (items sint l.sig l.bounds) ++ q "]") b r)
