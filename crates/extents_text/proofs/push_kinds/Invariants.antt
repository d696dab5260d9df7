use Rattle.buffers.specs.Writes.{Wrote}
use Rattle.tables.specs.Extents.{walk_says}
use Rattle.extents_text.specs.Lines.{kind_lines}
use Rattle.extents_text.proofs.push_kinds.Given as goal

abbrev pub invariant-loop-kind : goal.invariant-loop-kind
invariant-loop-kind l = Wrote l.initial.out 0 (kind_lines (walk_says l.w) l.kind) l.out l.at
