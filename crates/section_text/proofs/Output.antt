-- Laws of the program's output. Assumes nothing.
use mathlib.Core.Path.{◌≡◌, refl, sym, ◌∙◌, ap}
use mathlib.Core.List.{List, [], ◌∷◌, ◌++◌, append_assoc, append-nil}
use Prim.Native.Nat.{ℕ, ◌+◌, ◌≤◌, ◌<◌}
use native.Mathlib.Nat.{sub-zero}
use native.Mathlib.Numerals.{add-one}
use native.Mathlib.Omega.{arith}
use lib.ListN.{length, get_or, take, replicate}
use lib.Seq.{take-suc}
use Rattle.numbers.specs.Parts.{part}
use Rattle.buffers.specs.Texts.{Text, q}
use Rattle.buffers.specs.Writes.{Wrote}
use Rattle.buffers.specs.Replies.{Answer, Refused, refused, refused_by, value, cleared}
use Rattle.buffers.specs.declared.Refusal.TheVariants.{BadInput}
use Rattle.buffers.proofs.Writing.{wrote_none, wrote-over, wrote_then}
use Rattle.bundle.specs.Input.{bundle_of}
use Rattle.bundle.specs.declared.Bundle.{Bundle}
use Rattle.std.specs.Prelude.{Some, None, Result}
use Rattle.buffers.specs.declared.Refusal.{Refusal}
use Rattle.header.specs.Stream.{base}
use Rattle.header.specs.declared.Options.{Options}
use Rattle.lines.specs.Lines.{number_line, refused_line}
use Rattle.record.specs.View.{view}
use Rattle.name_section.specs.Section.{names, Used, Sectioned}
use Rattle.name_section.specs.declared.Section.{Section}
use Rattle.section_text.specs.Output.{names_in, input_names, head_text, offset_bytes, all_bytes}

-- The names of an input, by its streams, and of one that is malformed.
module _ (i : List ℕ) {s o s' o' : List ℕ} {r : Result Section Refusal} where
  pub input-malformed : None ≡ bundle_of i → Sectioned (refused_by BadInput) s o r s' o' → Sectioned (input_names i) s o r s' o'
  unfolding names_in
  input-malformed e x = rw (← e) x

  pub input-streams : {u : Bundle} {tables strings blob : List ℕ} {p : Options} → Some u ≡ bundle_of i
      → tables ≡ part i u.tables.at u.tables.len → strings ≡ part i u.strings.at u.strings.len → blob ≡ part i u.blob.at u.blob.len → p ≡ base
      → Sectioned (names (view p tables strings blob)) s o r s' o' → Sectioned (input_names i) s o r s' o'
  unfolding names_in
  input-streams e f g k q x = rw (← e, ← f, ← g, ← k, ← q) x

-- Words that were zeroed, as a buffer that was cleared.
pub zeros-cleared : (o o₁ : List ℕ) → o₁ ≡ replicate (length o) 0 → o₁ ≡ cleared o 0
unfolding cleared
zeros-cleared o o₁ e = e ∙ rw sub-zero refl

-- The lines of a reply.
module _ {b b₂ : List ℕ} {at at₂ : ℕ} {a : Answer Used} where
  pub head-written : {b₁ : List ℕ} {at₁ : ℕ} {u : Used} → a ≡ value u → Wrote b at (number_line (q "section=") u.bytes) b₁ at₁
      → Wrote b₁ at₁ (number_line (q "offsets=") u.classes) b₂ at₂ → Wrote b at (head_text a) b₂ at₂
  unfolding head_text
  head-written e w x = rw e (wrote_then w x)

  pub head-refused : {w : Refused} → a ≡ refused w → Wrote b at (refused_line w.number) b₂ at₂ → Wrote b at (head_text a) b₂ at₂
  unfolding head_text
  head-refused e w = rw e w

-- The bytes of an offset more.
all_then : (l m : List ℕ) → all_bytes (l ++ m) ≡ all_bytes l ++ all_bytes m
unfolding all_bytes
all_then [] m = refl
all_then (o ∷ l) m = ap (λ (t : Text). offset_bytes o ++ t) (all_then l m) ∙ sym (append_assoc (offset_bytes o) (all_bytes l) (all_bytes m))

all_one : (o : ℕ) → all_bytes (o ∷ []) ≡ offset_bytes o
unfolding all_bytes
all_one o = append-nil (offset_bytes o)

all_more : (l : List ℕ) (i : ℕ) → i < length l → all_bytes (take (i + 1) l) ≡ all_bytes (take i l) ++ offset_bytes (get_or l i 0)
all_more l i h =
    ap (λ (k : ℕ). all_bytes (take k l)) (add-one i)
    ∙ ap all_bytes (take-suc l i 0 h)
    ∙ all_then (take i l) (get_or l i 0 ∷ [])
    ∙ ap (λ (t : Text). all_bytes (take i l) ++ t) (all_one (get_or l i 0))

-- The loop of `push_offsets`: of the offsets l the first i are written.
pub offsets-none : (b : List ℕ) (at : ℕ) (l : List ℕ) → at ≤ length b → Wrote b at (all_bytes (take 0 l)) b at
unfolding all_bytes
offsets-none b at l h = wrote_none b at at (omega arith)

module _ {b b₁ : List ℕ} {at at₁ i : ℕ} (l : List ℕ) where
  pub offsets-more : {b₂ : List ℕ} {at₂ : ℕ} → i < length l → Wrote b at (all_bytes (take i l)) b₁ at₁ → Wrote b₁ at₁ (offset_bytes (get_or l i 0)) b₂ at₂
      → Wrote b at (all_bytes (take (i + 1) l)) b₂ at₂
  offsets-more h w x = rw (all_more l i h) (wrote_then w x)

-- Past the buffer's end there is no room for any.
pub offsets-past : (b : List ℕ) (at : ℕ) (t : Text) → length b < at → Wrote b at t b (length b + 1)
offsets-past b at t h = wrote-over b at t (omega arith)
