-- The type-name section (2026-14): a slot for each class of the record, in order, and where each slot begins. The entire reply and both
-- entire buffers, by the names of the classes and the buffers' lengths alone.
use Rattle.std.specs.Prelude.{◌≡◌, Bool, true, cond, ◌&&◌, List, [], ◌∷◌, ◌++◌, map, ℕ, ◌+◌, ◌-◌, ◌%◌, leb, length, replicate, Result, Ok, Err}
use Rattle.std.proofs.Math.Option.{Option}
use Rattle.buffers.specs.Texts.{Text}
use Rattle.buffers.specs.Replies.{Answer, refused, refused_by, value}
use Rattle.buffers.specs.declared.Refusal.{Refusal}
use Rattle.buffers.specs.declared.Refusal.TheVariants.{BufferTooSmall}
use Rattle.heaps.specs.Lookups.{text_of}
use Rattle.record.specs.Missing.{or_default}
use Rattle.record.specs.View.{View}
use Rattle.record.specs.Record.{Class}
use Rattle.record.specs.Answers.{◌⟫◌, the_classes}
use Rattle.name_section.specs.declared.Section.{Section}

-- A slot's length is a multiple of this.
abbrev pub alignment : ℕ
alignment = 4

-- The slot of a name: the name, one zero, and the fewest zeros that reach a multiple of four. A missing name has the slot of an empty one.
unfoldable pub slot : Option Text → Text
slot name = let t = or_default [] name in t ++ replicate (alignment - length t % alignment) 0

-- The slots, one after the other.
unfoldable pub section : List (Option Text) → Text
section [] = []
section (n ∷ l) = slot n ++ section l

-- Where they begin, the first at a place.
unfoldable pub offsets_from : ℕ → List (Option Text) → List ℕ
offsets_from at [] = []
offsets_from at (n ∷ l) = at ∷ offsets_from (at + length (slot n)) l

-- The names of classes, without the reasons of those that are missing; and of all classes of the record, by the view.
abbrev pub names_of : List Class → List (Option Text)
names_of l = map (λ (k : Class). text_of k.name) l

abbrev pub names : View → Answer (List (Option Text))
names v = the_classes v ⟫ λ l. value (names_of l)

-- An offset has 32 bits.
abbrev pub most_offset : ℕ
most_offset = 4_294_967_295

unfoldable pub narrow : List ℕ → Bool
narrow [] = true
narrow (o ∷ l) = leb o most_offset && narrow l

-- Whether there is room for so many bytes and so many offsets. Where a slot ends is no offset.
unfoldable pub fits : List (Option Text) → ℕ → ℕ → Bool
fits l room places = leb (length l) places && (leb (length (section l)) room && narrow (offsets_from 0 l))

-- What a reply says: the bytes of the section and the number of classes, or the refusal.
pub record Used : Type 0 where
  pub bytes : ℕ
  pub classes : ℕ

abbrev pub section_says : Result Section Refusal → Answer Used
section_says (Ok s) = value (record { bytes = s.bytes; classes = s.classes })
section_says (Err why) = refused_by why

-- The reply of the call, by the names and the lengths of the two buffers.
unfoldable pub section_reply : Answer (List (Option Text)) → ℕ → ℕ → Answer Used
section_reply (refused w) room places = refused w
section_reply (value l) room places =
    cond (fits l room places) (value (record { bytes = length (section l); classes = length l })) (refused_by BufferTooSmall)

-- The buffers after it: the slots and then zeros, the offsets and then zeros; zeros alone where it is refused.
unfoldable pub section_buffer : Answer (List (Option Text)) → ℕ → ℕ → List ℕ
section_buffer (refused w) room places = replicate room 0
section_buffer (value l) room places =
    cond (fits l room places) (section l ++ replicate (room - length (section l)) 0) (replicate room 0)

unfoldable pub offset_buffer : Answer (List (Option Text)) → ℕ → ℕ → List ℕ
offset_buffer (refused w) room places = replicate places 0
offset_buffer (value l) room places =
    cond (fits l room places) (offsets_from 0 l ++ replicate (places - length l) 0) (replicate places 0)

-- The promise of the call: from the buffers s and o to s' and o'. Of those before it reads the lengths and nothing else.
pub record Sectioned (a : Answer (List (Option Text))) (s o : List ℕ) (r : Result Section Refusal) (s' o' : List ℕ) : Type 0 where
  pub reply : section_says r ≡ section_reply a (length s) (length o)
  pub bytes : s' ≡ section_buffer a (length s) (length o)
  pub places : o' ≡ offset_buffer a (length s) (length o)
