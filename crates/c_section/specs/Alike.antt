-- Two runs of the call for C (2026-14): on equal streams, and on streams whose side tables are rearranged as allowed.
use Rattle.std.specs.Prelude.{◌≡◌, List, ℕ, length}
use Rattle.record.specs.View.{view}
use Rattle.record.specs.Rearrangement.{Rearranged}
use Rattle.name_section.specs.Section.{names}
use Rattle.c_questions.specs.Asked.{options_of}
use Rattle.c_section.specs.Told.{ToldSection}
use Rattle.c_section.specs.declared.DnSection.{DnSection}

-- With the tables t and u and else the same streams, with buffers of equal lengths, however filled before, two runs give equal replies,
-- sections and offsets.
abbrev pub ToldAlike : ℕ → List ℕ → List ℕ → List ℕ → List ℕ → Type 0
ToldAlike bits t u strings blob =
    (s p s₁ p₁ s' p' s₁' p₁' : List ℕ) (r r₁ : DnSection) → length s₁ ≡ length s → length p₁ ≡ length p
    → ToldSection (names (view (options_of bits) t strings blob)) s p r s' p'
    → ToldSection (names (view (options_of bits) u strings blob)) s₁ p₁ r₁ s₁' p₁' → (r₁ ≡ r) × (s₁' ≡ s') × (p₁' ≡ p')

abbrev pub SameTold : Type 0
SameTold = (bits : ℕ) (tables strings blob : List ℕ) → ToldAlike bits tables tables strings blob

abbrev pub ToldSurvives : Type 0
ToldSurvives = (bits : ℕ) (t u strings blob : List ℕ) → Rearranged (options_of bits) t u → ToldAlike bits t u strings blob
