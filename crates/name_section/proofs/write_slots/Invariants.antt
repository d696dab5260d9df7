use mathlib.Core.Path.{◌≡◌}
use mathlib.Core.List.{List}
use Prim.Native.Nat.{ℕ}
use lib.ListN.{length}
use Rattle.record.specs.Record.{class_record}
use Rattle.rows.specs.Layout.{view_in}
use Rattle.name_section.specs.Section.{names_of}
use Rattle.name_section.proofs.Filling.{Filling}
use Rattle.name_section.proofs.write_slots.Given as goal

abbrev pub invariant-loop-c : goal.invariant-loop-c
invariant-loop-c l = (length l.section ≡ length l.initial.section)
    × (length l.offsets ≡ length l.initial.offsets)
    × ((blob : List ℕ) → Filling (names_of (class_record (view_in l.tables l.layout l.strings blob))) l.initial.section l.initial.offsets l.section l.offsets l.c l.at)
