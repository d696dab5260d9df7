-- What is claimed of the type-name section (2026-14), beside the call's own promise.
use Rattle.std.specs.Prelude.{◌≡◌, List, [], ℕ, ◌%◌, ◌<◌, length, get_or, take, drop, Result}
use Rattle.std.proofs.Math.Option.{Option, none, some}
use Rattle.buffers.specs.Texts.{Text}
use Rattle.buffers.specs.Replies.{Answer, value}
use Rattle.buffers.specs.declared.Refusal.{Refusal}
use Rattle.heaps.specs.Lookups.{before}
use Rattle.header.specs.declared.Options.{Options}
use Rattle.record.specs.Missing.{or_default}
use Rattle.record.specs.View.{view}
use Rattle.record.specs.Names.{class_full_name}
use Rattle.record.specs.Rearrangement.{Rearranged}
use Rattle.name_section.specs.Section.{alignment, slot, names, Used, section_says, offset_buffer, Sectioned}
use Rattle.name_section.specs.declared.Section.{Section}

-- A run of the call on three streams, from the buffers s and p to s' and p': exactly what its contract says of it.
abbrev pub Run : Options → List ℕ → List ℕ → List ℕ → List ℕ → List ℕ → Result Section Refusal → List ℕ → List ℕ → Type 0
Run o tables strings blob s p r s' p' = Sectioned (names (view o tables strings blob)) s p r s' p'

-- Two runs, with the tables t and u and else the same streams, opened alike, with buffers of equal lengths, however filled before, give
-- equal replies, sections and offsets.
abbrev pub RunAlike : Options → List ℕ → List ℕ → List ℕ → List ℕ → Type 0
RunAlike o t u strings blob =
    (s p s₁ p₁ s' p' s₁' p₁' : List ℕ) (r r₁ : Result Section Refusal) → length s₁ ≡ length s → length p₁ ≡ length p
    → Run o t strings blob s p r s' p' → Run o u strings blob s₁ p₁ r₁ s₁' p₁' → (r₁ ≡ r) × (s₁' ≡ s') × (p₁' ≡ p')

-- Two runs on equal streams.
abbrev pub SameSections : Type 0
SameSections = (o : Options) (tables strings blob : List ℕ) → RunAlike o tables tables strings blob

-- Two runs on streams whose side tables are rearranged as allowed.
abbrev pub SectionSurvives : Type 0
SectionSurvives = (o : Options) (t u strings blob : List ℕ) → Rearranged o t u → RunAlike o t u strings blob

-- No full name of a class has a zero.
abbrev pub Zeroless : Text → Type 0
Zeroless t = before 0 t ≡ length t

abbrev pub NamesZeroless : Type 0
NamesZeroless =
    (o : Options) (tables strings blob : List ℕ) (r : ℕ) (t : Text) → class_full_name (view o tables strings blob) r ≡ some t → Zeroless t

-- After a run that wrote a section, reading from a class's offset up to the first zero returns its name; a missing one reads as the
-- empty text.
abbrev pub ReadsName : Type 0
ReadsName =
    (o : Options) (tables strings blob s p s' p' : List ℕ) (r : Result Section Refusal) (u : Used) (l : List (Option Text)) (c : ℕ)
    → Run o tables strings blob s p r s' p' → section_says r ≡ value u → names (view o tables strings blob) ≡ value l → c < length l
    → let rest = drop (get_or p' c 0) s' in take (before 0 rest) rest ≡ or_default [] (get_or l c none)

-- Every slot's length is a multiple of four, and so is every offset, written or unused.
abbrev pub Aligned : Type 0
Aligned = (n : Option Text) → length (slot n) % alignment ≡ 0

abbrev pub OffsetsAligned : Type 0
OffsetsAligned = (a : Answer (List (Option Text))) (room places c : ℕ) → get_or (offset_buffer a room places) c 0 % alignment ≡ 0
