use mathlib.Core.Path.{sym, ◌∙◌}
use Rattle.buffers.specs.Telling as telling
use Rattle.buffers.proofs.Telling.{told_same}
use Rattle.buffers.proofs.Writing.{kept_same}
use Rattle.references.proofs.NameAnswers.{assembly-name-is, assembly-name-gone}
use Rattle.references.proofs.names.tell_assembly_name.Goals as goal

pub returns-then-count_rows-eq0 : goal.returns-then-count_rows-eq0
returns-then-count_rows-eq0 c blob = telling.no_row (assembly-name-gone c.requires _ blob (sym c.count_rows.ensures ∙ c.if-count_rows-eq0.true)) (kept_same _ _)

pub returns : goal.returns
returns c blob = told_same (assembly-name-is c.requires _ blob (λ z. c.if-count_rows-eq0.false (c.count_rows.ensures ∙ z))) c.tell_string.ensures
