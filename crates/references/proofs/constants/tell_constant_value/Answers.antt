use mathlib.Core.Path.{refl, sym, ap, ◌∙◌}
use mathlib.Core.List.{[]}
use native.Mathlib.Omega.{arith}
use Rattle.buffers.specs.Replies.{name_or_5}
use Rattle.buffers.specs.Telling as telling
use Rattle.buffers.proofs.Telling.{told_same}
use Rattle.buffers.proofs.Writing.{kept_same}
use Rattle.heaps.specs.Lookups.{blob_at}
use Rattle.heaps.proofs.Lookups.{blob-inside}
use Rattle.references.specs.Columns as columns
use Rattle.references.proofs.Parts.{blob-bytes}
use Rattle.references.proofs.ConstantAnswers.{constant-row, found-row, constant-empty, constant-blob, constant-past}
use Rattle.rows.proofs.Left.{none_left}
use Rattle.references.proofs.constants.tell_constant_value.Goals as goal

pub read_column-index-requires : goal.read_column-index-requires
read_column-index-requires c =
    let here = found-row c.requires [] [] _ _ c.find_string.ensures c.in-Some.is in
    record { laid = c.requires; column_lt_count = (omega arith, constant-row c.requires columns.constant_value (omega arith) refl _ here) }

pub returns-then-index-eq0 : goal.returns-then-index-eq0
returns-then-index-eq0 c strings = telling.name []
    (constant-empty c.requires strings _ _ _ c.find_string.ensures c.in-Some.is (sym c.read_column-index.ensures ∙ c.if-index-eq0.true))
    c.push.ensures

pub tell_part-requires : goal.tell_part-requires
tell_part-requires c = rw c.get_blob.ensures (blob-inside _ _)

pub returns : goal.returns
returns c strings = told_same
    (constant-blob c.requires strings _ _ _ c.find_string.ensures c.in-Some.is (λ z. c.if-index-eq0.false (c.read_column-index.ensures ∙ z))
    ∙ ap name_or_5 (blob-bytes _ _ (c.get_blob.ensures ∙ ap (blob_at _) c.read_column-index.ensures))) c.tell_part.ensures

pub returns-in_default : goal.returns-in_default
returns-in_default c strings = telling.no_row (constant-past c.requires strings _ _ c.find_string.ensures (none_left c.in_default.not-Some)) (kept_same _ _)
