-- A step after a number, or after none. Assumes nothing.
use mathlib.Core.Path.{◌≡◌, refl}
use mathlib.Core.Bool.{Bool, true}
use mathlib.Core.List.{List, [], ◌∷◌}
use Prim.Native.Nat.{ℕ}
use Rattle.buffers.specs.Texts.{Text, decimal}
use Rattle.buffers.specs.Writes.{Wrote}
use Rattle.buffers.specs.Replies.{Reply, Answer, reply_says}
use Rattle.buffers.proofs.Writing.{wrote_then, wrote-anew}
use Rattle.buffers.specs.declared.Refusal.{Refusal}
use Rattle.escapes.proofs.Apart.{numbers-stand}
use Rattle.lines.specs.Lines.{line, answer_line, is_missing, numbered_line}
use Rattle.lines.specs.Cursors.{Went}
use Rattle.lines.specs.declared.Cursor.{Cursor}
use Rattle.std.specs.Prelude.{Ok, Err}

-- A step after a number, or after none, behind a key.
module _ {p : Reply} {next : Cursor} {o o₁ : List ℕ} {at start : ℕ} {key : Text} (k : Wrote o at key o₁ start) where
  pub number-goes : {o₂ o₃ : List ℕ} {n end e : ℕ} → p ≡ Ok n → Wrote o₁ start (decimal n) o₂ end → Wrote o₂ end (0x0A ∷ []) o₃ e
      → Went (answer_line key (reply_says p)) next o at o₃ (record { next = next; at = e })
  unfolding line
  number-goes {n = n} f d w = rw (f, numbers-stand n) (record { wrote = wrote_then k (wrote_then d w); goes = refl })

  pub refused-goes : {o₂ : List ℕ} {e : ℕ} {why : Refusal} → p ≡ Err why → Wrote o₁ at [] o₂ e
      → Went (answer_line key (reply_says p)) next o at o₂ (record { next = next; at = e })
  refused-goes f w = rw f (record { wrote = wrote-anew k.keeps w; goes = refl })

-- A step after a number that may be missing and is: the key stands alone.
module _ {optional : Bool} (key : Text) (a : Answer ℕ) {next : Cursor} {o o' : List ℕ} {at : ℕ} where
  pub missing-goes : {e : ℕ} → optional ≡ true → is_missing a ≡ true → Wrote o at (line key []) o' e
      → Went (numbered_line optional key a) next o at o' (record { next = next; at = e })
  missing-goes may f w = rw (may, f) (record { wrote = w; goes = refl })
