-- What the call for a type-name section answers to C, by the definitions of the library's call (2026-14).
use Rattle.std.specs.Prelude.{◌≡◌, List, ℕ, length}
use Rattle.std.proofs.Math.Option.{Option}
use Rattle.buffers.specs.Texts.{Text}
use Rattle.buffers.specs.Replies.{Answer, refused, value}
use Rattle.name_section.specs.Section.{Used, section_reply, section_buffer, offset_buffer}
use Rattle.c_section.specs.declared.DnSection.{DnSection}

-- A reply: the bytes, the classes and 0; or 0, 0 and the number that says no.
abbrev pub told_used : Answer Used → DnSection
told_used (value u) = record { bytes = u.bytes; classes = u.classes; refusal = 0 }
told_used (refused w) = record { bytes = 0; classes = 0; refusal = w.number }

-- The promise of the call, as `Sectioned` is that of the library's: the entire reply and both entire final buffers.
pub record ToldSection (a : Answer (List (Option Text))) (s o : List ℕ) (r : DnSection) (s' o' : List ℕ) : Type 0 where
  pub reply : r ≡ told_used (section_reply a (length s) (length o))
  pub bytes : s' ≡ section_buffer a (length s) (length o)
  pub places : o' ≡ offset_buffer a (length s) (length o)
