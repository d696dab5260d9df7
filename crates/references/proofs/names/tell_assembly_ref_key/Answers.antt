use mathlib.Core.Path.{refl, sym, ap, ◌∙◌}
use native.Mathlib.Omega.{arith}
use Rattle.buffers.specs.Replies.{name_or_5}
use Rattle.buffers.specs.Telling as telling
use Rattle.buffers.proofs.Telling.{told_same}
use Rattle.buffers.proofs.Writing.{kept_same}
use Rattle.heaps.specs.Lookups.{blob_at}
use Rattle.heaps.proofs.Lookups.{blob-inside}
use Rattle.record.specs.Missing.{and_then}
use Rattle.record.specs.References.{not_empty}
use Rattle.references.specs.Columns as columns
use Rattle.references.proofs.Parts.{blob-bytes}
use Rattle.references.proofs.NameAnswers.{assembly-ref-row, ref-key-is, ref-key-past}
use Rattle.references.proofs.names.tell_assembly_ref_key.Goals as goal

pub returns-then-count_entire-row : goal.returns-then-count_entire-row
returns-then-count_entire-row c strings = telling.no_row (ref-key-past c.requires strings _ _ (omega (arith, c.count_entire.ensures, c.if-count_entire-row.true))) (kept_same _ _)

pub read_column-index-requires : goal.read_column-index-requires
read_column-index-requires c = record { laid = c.requires; column_lt_count = (omega arith, assembly-ref-row c.requires columns.assembly_ref_key (omega arith) refl _ (omega (arith, c.count_entire.ensures, c.if-count_entire-row.false))) }

pub tell_part-requires : goal.tell_part-requires
tell_part-requires c = (c.not_empty.ensures c.args.blob.now (rw c.get_blob-key.ensures (blob-inside _ _))).0

pub returns : goal.returns
returns c strings =
    let bytes = blob-bytes _ _ (c.get_blob-key.ensures ∙ ap (blob_at _) c.read_column-index.ensures) in
    let key = (c.not_empty.ensures c.args.blob.now (rw c.get_blob-key.ensures (blob-inside _ _))).1 in
    told_same
    (ref-key-is c.requires strings _ _ (omega (arith, c.count_entire.ensures, c.if-count_entire-row.false))
    ∙ ap (λ o. name_or_5 (and_then o not_empty)) bytes ∙ ap name_or_5 (sym key)) c.tell_part.ensures
