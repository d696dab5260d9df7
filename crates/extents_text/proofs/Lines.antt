-- Laws of the extents as text. Assumes nothing.
use mathlib.Core.Path.{◌≡◌}
use mathlib.Core.List.{List}
use Prim.Native.Nat.{ℕ, ◌+◌}
use native.Mathlib.Numerals.{add-one}
use native.Mathlib.Omega.{arith}
use lib.ListN.{get_or}
use Rattle.numbers.specs.Parts.{part}
use Rattle.buffers.specs.Texts.{q}
use Rattle.buffers.specs.Writes.{Wrote}
use Rattle.buffers.proofs.Writing.{wrote_none, wrote_then}
use Rattle.buffers.specs.Replies.{number, Refused, Answer, refused, value}
use Rattle.buffers.specs.declared.Refusal.TheVariants.{BadInput}
use Rattle.std.specs.Prelude.{Some, None}
use Rattle.bundle.specs.Input.{bundle_of}
use Rattle.bundle.specs.declared.Bundle.{Bundle}
use Rattle.header.specs.Stream.{base}
use Rattle.tables.specs.Extents.{Walked, walk_of}
use Rattle.extents_text.specs.Lines.{kind_line, kind_lines, key_line, walk_text, input_text, extents_text}

-- The lines of the kinds: none, and one more.
pub kinds-none : (b : List ℕ) (w : Walked) → Wrote b 0 (kind_lines w 0) b 0
unfolding kind_lines
kinds-none b w = wrote_none b 0 0 (omega arith)

pub kinds-more : {b b₁ b₂ : List ℕ} {at at' : ℕ} (w : Walked) (n : ℕ) → Wrote b 0 (kind_lines w n) b₁ at
    → Wrote b₁ at (kind_line n (get_or w.starts n 0) (get_or w.sizes n 0) (get_or w.rows n 0)) b₂ at'
    → Wrote b 0 (kind_lines w (n + 1)) b₂ at'
unfolding kind_lines
kinds-more w n p r = rw (add-one n) (wrote_then p r)

-- The whole text, by the walk's answer and by the input's.
module _ (w : Walked) {b b₂ : List ℕ} {at' : ℕ} {a : Answer ℕ} where
  pub text-stop : {b₁ : List ℕ} {at n : ℕ} → a ≡ value n → Wrote b 0 (kind_lines w 64) b₁ at → Wrote b₁ at (key_line (q "stop=") n) b₂ at' → Wrote b 0 (walk_text w a) b₂ at'
  unfolding walk_text
  text-stop e p r = rw e (wrote_then p r)

  pub text-refused : {why : Refused} → a ≡ refused why → Wrote b 0 (key_line (q "refused=") why.number) b₂ at' → Wrote b 0 (walk_text w a) b₂ at'
  unfolding walk_text
  text-refused e p = rw e p

module _ (s : List ℕ) {b b' : List ℕ} {at : ℕ} where
  pub text-malformed : None ≡ bundle_of s → Wrote b 0 (key_line (q "refused=") (number BadInput)) b' at → Wrote b 0 (extents_text s) b' at
  unfolding input_text
  text-malformed e p = rw (← e) p

  pub text-streams : {i : Bundle} {bytes : List ℕ} {w : Walked} → Some i ≡ bundle_of s → bytes ≡ part s i.tables.at i.tables.len → w ≡ walk_of base bytes
      → Wrote b 0 (walk_text w w.stop) b' at → Wrote b 0 (extents_text s) b' at
  unfolding input_text
  text-streams e c k p = rw (← e, ← c, ← k) p
