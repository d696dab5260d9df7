use Rattle.std.proofs.Common.{take}
use Rattle.buffers.specs.Writes.{Wrote}
use Rattle.section_text.specs.Output.{all_bytes}
use Rattle.section_text.proofs.push_offsets.Given as goal

abbrev pub invariant-loop-offset : goal.invariant-loop-offset
invariant-loop-offset l = Wrote l.initial.out l.at (all_bytes (take l.offset-index l.first)) l.out l.next
