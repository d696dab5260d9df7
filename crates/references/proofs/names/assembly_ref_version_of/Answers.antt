use mathlib.Core.Path.{sym, ap, ◌∙◌}
use native.Mathlib.Omega.{arith}
use Rattle.buffers.specs.Replies.{value}
use Rattle.references.proofs.NameAnswers.{ref-version-row, ref-version-is, ref-version-past, ref-version-gone}
use Rattle.references.proofs.names.assembly_ref_version_of.Goals as goal

pub returns-then-count_entire-row : goal.returns-then-count_entire-row
returns-then-count_entire-row c strings blob = sym (ref-version-gone c.requires strings blob _ _ (omega (arith, c.count_entire.ensures, c.if-count_entire-row.true)))

pub returns-then-part-ge-VERSION_PARTS : goal.returns-then-part-ge-VERSION_PARTS
returns-then-part-ge-VERSION_PARTS c strings blob = sym (ref-version-past c.requires strings blob _ _ (omega (arith, c.if-part-ge-VERSION_PARTS.true)) (omega (arith, c.count_entire.ensures, c.if-count_entire-row.false)))

pub read_column-number-requires : goal.read_column-number-requires
read_column-number-requires c = record { laid = c.requires; column_lt_count = (omega (arith, c.if-part-ge-VERSION_PARTS.false), ref-version-row c.requires _ (omega (arith, c.if-part-ge-VERSION_PARTS.false)) _ (omega (arith, c.count_entire.ensures, c.if-count_entire-row.false))) }

pub returns : goal.returns
returns c strings blob = ap value c.read_column-number.ensures
    ∙ sym (ref-version-is c.requires strings blob _ _ (omega (arith, c.if-part-ge-VERSION_PARTS.false)) (omega (arith, c.count_entire.ensures, c.if-count_entire-row.false)))
