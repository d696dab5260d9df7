use Rattle.std.proofs.Common.{◌≡◌, ◌*◌, ◌≤◌, length, drop}
use Rattle.buffers.specs.Writes.{Wrote}
use Rattle.case_text.specs.Digits.{hex_bytes}
use Rattle.case_text.proofs.read_hex.Given as goal

abbrev pub invariant-loop-pair : goal.invariant-loop-pair
invariant-loop-pair l = record {
  even : l.pair-iterator.size ≡ 2;
  below : 2 * length l.yielded ≤ length l.hex;
  rest : l.pair-iterator.rest.now ≡ drop (2 * length l.yielded) l.hex;
  wrote : Wrote l.initial.out 0 (hex_bytes (length l.yielded) l.hex) l.out l.n;
}
