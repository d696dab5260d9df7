use mathlib.Core.Path.{sym, ap, ◌∙◌}
use Rattle.buffers.specs.Replies.{name_or_5}
use Rattle.buffers.specs.Telling as telling
use Rattle.buffers.specs.declared.Reason.TheVariants.{Untold}
use Rattle.buffers.proofs.Telling.{told_same}
use Rattle.buffers.proofs.Writing.{kept_same}
use Rattle.heaps.specs.Lookups.{blob_at}
use Rattle.record.specs.Missing.{and_then}
use Rattle.record.specs.References.{guid_text}
use Rattle.references.proofs.Parts.{blob-there, blob-gone}
use Rattle.rows.proofs.Left.{err_left}
use Rattle.references.proofs.typelib.tell_guid.Goals as goal

pub returns : goal.returns
returns c =
    let value = blob-there _ _ (c.get_blob.ensures ∙ ap (blob_at _) c.read_column-index.ensures) c.in-Ok.is c.cut-value.ensures in
    told_same (ap (λ o. name_or_5 (and_then o guid_text)) value ∙ ap name_or_5 (sym c.guid_part.ensures.1)) c.tell_part.ensures

pub returns-in_default : goal.returns-in_default
returns-in_default c =
    let none = blob-gone _ _ (c.get_blob.ensures ∙ ap (blob_at _) c.read_column-index.ensures) (err_left c.in_default.not-Ok).1 in
    telling.missing {why = Untold} (ap (λ o. name_or_5 (and_then o guid_text)) none) (kept_same _ _)
