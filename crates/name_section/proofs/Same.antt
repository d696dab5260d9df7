-- Runs alike, and offsets that are multiples of four. Assumes nothing.
use mathlib.Core.Path.{◌≡◌, refl, sym, ◌∙◌, ap, ap₂, subst}
use mathlib.Core.List.{List, [], ◌∷◌, ◌++◌}
use mathlib.Core.Option.{Option}
use Prim.Native.Nat.{ℕ, zero, suc, ◌+◌, ◌-◌, ◌%◌}
use native.Mathlib.Omega.{arith}
use lib.ListN.{length, get_or, replicate}
use Rattle.numbers.proofs.Pick.{pick}
use Rattle.buffers.specs.Texts.{Text}
use Rattle.buffers.specs.Replies.{Answer, refused, value, refused_by}
use Rattle.buffers.proofs.Replies.{reply-same}
use Rattle.header.specs.declared.Options.{Options}
use Rattle.record.specs.View.{view}
use Rattle.record.proofs.Rearrangement.{view-same}
use Rattle.name_section.specs.Section.{slot, offsets_from, names, fits, Used, section_says, section_reply, section_buffer, offset_buffer, Sectioned}
use Rattle.name_section.specs.Claims.{RunAlike, SameSections, SectionSurvives, OffsetsAligned}
use Rattle.name_section.specs.declared.Section.{Section}
use Rattle.buffers.specs.declared.Refusal.{Refusal}
use Rattle.name_section.proofs.Slots.{aligned}
use Rattle.std.specs.Prelude.{Result, Ok, Err}

-- A reply is known by what it says.
says_same : (r r₁ : Result Section Refusal) → section_says r₁ ≡ section_says r → r₁ ≡ r
says_same (Ok s) (Ok s₁) e =
    let u : ◌≡◌ {A = Used} (record { bytes = s₁.bytes; classes = s₁.classes }) (record { bytes = s.bytes; classes = s.classes }) = cc in
    ap {B = Result Section Refusal} (λ (x : Used). Ok (record { bytes = x.bytes; classes = x.classes })) u
says_same (Ok s) (Err why) e = let z : ◌≡◌ {A = ℕ} 0 1 = cc in absurd (omega arith)
says_same (Err why) (Ok s) e = let z : ◌≡◌ {A = ℕ} 0 1 = cc in absurd (omega arith)
says_same (Err why) (Err why₁) e =
    let same : ◌≡◌ {A = Answer ℕ} (refused_by why₁) (refused_by why) = cc in
    let is = reply-same (Err why₁) (Err why) same in
    let w : why₁ ≡ why = cc in
    ap Err w

-- Two runs of one answer.
alike : (o : Options) (t u strings blob : List ℕ) → names (view o u strings blob) ≡ names (view o t strings blob) → RunAlike o t u strings blob
alike o t u strings blob same s p s₁ p₁ s' p' s₁' p₁' r r₁ e f x y =
    let a = names (view o t strings blob) in
    let y : Sectioned a s₁ p₁ r₁ s₁' p₁' = subst (λ (b : Answer (List (Option Text))). Sectioned b s₁ p₁ r₁ s₁' p₁') same y in (
      says_same r r₁ (y.reply ∙ ap₂ (section_reply a) e f ∙ sym x.reply),
      y.bytes ∙ ap₂ (section_buffer a) e f ∙ sym x.bytes,
      y.places ∙ ap₂ (offset_buffer a) e f ∙ sym x.places,
    )

pub same-sections : SameSections
same-sections o tables strings blob = alike o tables tables strings blob refl

pub section-survives : SectionSurvives
section-survives o t u strings blob r = alike o t u strings blob (ap names (view-same o t u strings blob r))

-- Zeros, written or not, are multiples of four; so are offsets behind each other.
zero-aligned : (n c : ℕ) → get_or (replicate {A = ℕ} n 0) c 0 % 4 ≡ 0
zero-aligned zero c = refl
zero-aligned (suc n) zero = refl
zero-aligned (suc n) (suc c) = zero-aligned n c

run-aligned : (at : ℕ) (l : List (Option Text)) (n c : ℕ) → at % 4 ≡ 0 → get_or (offsets_from at l ++ replicate n 0) c 0 % 4 ≡ 0
unfolding offsets_from
run-aligned at [] n c h = zero-aligned n c
run-aligned at (m ∷ l) n zero h = h
run-aligned at (m ∷ l) n (suc c) h = run-aligned (at + length (slot m)) l n c (let e = aligned m in omega arith)

pub offsets-aligned : OffsetsAligned
unfolding offset_buffer
offsets-aligned (refused w) room places c = zero-aligned places c
offsets-aligned (value l) room places c =
    pick (λ (o : List ℕ). get_or o c 0 % 4 ≡ 0) (fits l room places) (λ _. run-aligned 0 l (places - length l) c refl) (λ _. zero-aligned places c)
