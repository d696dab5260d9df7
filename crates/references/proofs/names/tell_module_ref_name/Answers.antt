use Rattle.buffers.specs.Telling as telling
use Rattle.buffers.proofs.Telling.{told_same}
use Rattle.buffers.proofs.Writing.{kept_same}
use Rattle.references.proofs.NameAnswers.{module-ref-is, module-ref-past, module-ref-row}
use native.Mathlib.Omega.{arith}
use Rattle.references.proofs.names.tell_module_ref_name.Goals as goal

pub returns-then-count_entire-row : goal.returns-then-count_entire-row
returns-then-count_entire-row c blob = telling.no_row (module-ref-past c.requires _ blob _ (omega (arith, c.count_entire.ensures, c.if-count_entire-row.true))) (kept_same _ _)

pub tell_string-requires : goal.tell_string-requires
tell_string-requires c = record { laid = c.requires; column_lt_count = (omega arith, module-ref-row c.requires _ (omega (arith, c.count_entire.ensures, c.if-count_entire-row.false))) }

pub returns : goal.returns
returns c blob = told_same (module-ref-is c.requires _ blob _ (omega (arith, c.count_entire.ensures, c.if-count_entire-row.false))) c.tell_string.ensures
