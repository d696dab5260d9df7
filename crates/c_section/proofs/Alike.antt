-- Runs of the call for C alike. Assumes nothing.
use mathlib.Core.Path.{◌≡◌, refl, sym, ◌∙◌, ap, ap₂, subst}
use mathlib.Core.List.{List}
use mathlib.Core.Option.{Option}
use Prim.Native.Nat.{ℕ}
use Rattle.buffers.specs.Texts.{Text}
use Rattle.buffers.specs.Replies.{Answer}
use Rattle.record.specs.View.{view}
use Rattle.record.proofs.Rearrangement.{view-same}
use Rattle.name_section.specs.Section.{names, section_reply, section_buffer, offset_buffer}
use Rattle.c_questions.specs.Asked.{options_of}
use Rattle.c_section.specs.Told.{told_used, ToldSection}
use Rattle.c_section.specs.Alike.{ToldAlike, SameTold, ToldSurvives}

-- Two runs of one answer.
alike : (bits : ℕ) (t u strings blob : List ℕ) → names (view (options_of bits) u strings blob) ≡ names (view (options_of bits) t strings blob)
    → ToldAlike bits t u strings blob
alike bits t u strings blob same s p s₁ p₁ s' p' s₁' p₁' r r₁ e f x y =
    let a = names (view (options_of bits) t strings blob) in
    let y : ToldSection a s₁ p₁ r₁ s₁' p₁' = subst (λ (b : Answer (List (Option Text))). ToldSection b s₁ p₁ r₁ s₁' p₁') same y in (
      y.reply ∙ ap told_used (ap₂ (section_reply a) e f) ∙ sym x.reply,
      y.bytes ∙ ap₂ (section_buffer a) e f ∙ sym x.bytes,
      y.places ∙ ap₂ (offset_buffer a) e f ∙ sym x.places,
    )

pub same-told : SameTold
same-told bits tables strings blob = alike bits tables tables strings blob refl

pub told-survives : ToldSurvives
told-survives bits t u strings blob r = alike bits t u strings blob (ap names (view-same (options_of bits) t u strings blob r))
