use mathlib.Core.Path.{refl}
use Rattle.buffers.specs.Telling as telling
use Rattle.buffers.proofs.Telling.{told_same}
use Rattle.buffers.proofs.Writing.{kept_same}
use Rattle.references.proofs.NameAnswers.{ref-name-is, ref-name-past, assembly-ref-row}
use native.Mathlib.Omega.{arith}
use Rattle.references.specs.Columns as columns
use Rattle.references.proofs.names.tell_assembly_ref_name.Goals as goal

pub returns-then-count_entire-row : goal.returns-then-count_entire-row
returns-then-count_entire-row c blob = telling.no_row (ref-name-past c.requires _ blob _ (omega (arith, c.count_entire.ensures, c.if-count_entire-row.true))) (kept_same _ _)

pub tell_string-requires : goal.tell_string-requires
tell_string-requires c = record { laid = c.requires; column_lt_count = (omega arith, assembly-ref-row c.requires columns.assembly_ref_name (omega arith) refl _ (omega (arith, c.count_entire.ensures, c.if-count_entire-row.false))) }

pub returns : goal.returns
returns c blob = told_same (ref-name-is c.requires _ blob _ (omega (arith, c.count_entire.ensures, c.if-count_entire-row.false))) c.tell_string.ensures
