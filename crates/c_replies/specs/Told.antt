-- What the calls for C answer, by the definitions of the library's calls: the numbers of document 01, side by side.
use Rattle.std.specs.Prelude.{◌≡◌, cond, List, ℕ, eqb, ltb, length, get_or}
use Rattle.buffers.specs.Texts.{Text}
use Rattle.buffers.specs.Replies.{number, reason, Answer, refused, value, name_reply, name_buffer}
use Rattle.buffers.specs.declared.Reason.{Reason}
use Rattle.buffers.specs.declared.Reason.TheVariants.{Untold}
use Rattle.buffers.specs.declared.Refusal.TheVariants.{NotFound}
use Rattle.heaps.specs.Lookups.{Part, string_at, blob_at, part_number, part_reason, part_start, part_length}
use Rattle.tables.specs.Extents.{Walked}
use Rattle.record.specs.Allowance.{Charged}
use Rattle.c_replies.specs.declared.DnReply.{DnReply}
use Rattle.c_replies.specs.declared.DnPart.{DnPart}
use Rattle.c_replies.specs.declared.DnExtent.{DnExtent}

-- The version of the interface, DN_VERSION in the header: whatever changes a signature, a struct or the longest line raises both.
abbrev pub the_version : ℕ
the_version = 5

-- An answer: its value and 0, or 0, the number that says no and the reason beside it.
abbrev pub told : Answer ℕ → DnReply
told (value n) = record { value = n; refusal = 0; reason = 0 }
told (refused w) = record { value = 0; refusal = w.number; reason = w.reason }

-- The promise of a call for a name, as `Named` is that of the library's: the entire reply and the entire final buffer.
pub record ToldName (a : Answer Text) (before : List ℕ) (r : DnReply) (after : List ℕ) : Type 0 where
  pub reply : r ≡ told (name_reply a (length before))
  pub buffer : after ≡ name_buffer a (length before)

-- The promises of a call that counts: of the reply, of the buffer, and of what is left of the allowance.
pub record ToldNumberCharged (a : Charged ℕ) (r : DnReply) (left : ℕ) : Type 0 where
  pub reply : r ≡ told a.answer
  pub leaves : left ≡ a.left

pub record ToldNameCharged (a : Charged Text) (before : List ℕ) (r : DnReply) (after : List ℕ) (left : ℕ) : Type 0 where
  pub name : ToldName a.answer before r after
  pub leaves : left ≡ a.left

-- A lookup that finds nothing, and why.
abbrev pub no_part : Reason → DnPart
no_part why = record { start = 0; len = 0; refusal = number (NotFound why); reason = reason (NotFound why) }

-- The place of a lookup in its heap.
abbrev pub told_part : Part → DnPart
told_part p = record { start = part_start p; len = part_length p; refusal = part_number p; reason = part_reason p }

-- The raw lookup: heap 0 is that of the strings and 1 that of the blobs; in another heap nothing is found, for no reason told.
unfoldable pub told_lookup : List ℕ → List ℕ → ℕ → ℕ → DnPart
told_lookup strings blobs which i =
    cond (eqb which 0) (told_part (string_at strings i))
    (cond (eqb which 1) (told_part (blob_at blobs i)) (no_part Untold))

-- What a walk says of one of the 64 kinds; all is 0 for a number that is no kind.
unfoldable pub told_extent : Walked → ℕ → DnExtent
told_extent w k =
    cond (ltb k 64) (record { start = get_or w.starts k 0; size = get_or w.sizes k 0; rows = get_or w.rows k 0 })
    (record { start = 0; size = 0; rows = 0 })
