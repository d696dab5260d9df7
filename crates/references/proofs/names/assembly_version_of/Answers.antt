use mathlib.Core.Path.{sym, ap, ◌∙◌}
use native.Mathlib.Omega.{arith}
use Rattle.buffers.specs.Replies.{value}
use Rattle.references.proofs.NameAnswers.{version-row, assembly-version-is, assembly-version-past, assembly-version-gone}
use Rattle.references.proofs.names.assembly_version_of.Goals as goal

pub returns-then-count_rows-eq0 : goal.returns-then-count_rows-eq0
returns-then-count_rows-eq0 c strings blob = sym (assembly-version-gone c.requires strings blob _ (sym c.count_rows.ensures ∙ c.if-count_rows-eq0.true))

pub returns-then-part-ge-VERSION_PARTS : goal.returns-then-part-ge-VERSION_PARTS
returns-then-part-ge-VERSION_PARTS c strings blob = sym (assembly-version-past c.requires strings blob _ (omega (arith, c.if-part-ge-VERSION_PARTS.true)) (λ z. c.if-count_rows-eq0.false (c.count_rows.ensures ∙ z)))

pub read_column-number-requires : goal.read_column-number-requires
read_column-number-requires c = record { laid = c.requires; column_lt_count = (omega (arith, c.if-part-ge-VERSION_PARTS.false), version-row c.requires _ (omega (arith, c.if-part-ge-VERSION_PARTS.false)) (λ z. c.if-count_rows-eq0.false (c.count_rows.ensures ∙ z))) }

pub returns : goal.returns
returns c strings blob = ap value c.read_column-number.ensures
    ∙ sym (assembly-version-is c.requires strings blob _ (omega (arith, c.if-part-ge-VERSION_PARTS.false)) (λ z. c.if-count_rows-eq0.false (c.count_rows.ensures ∙ z)))
