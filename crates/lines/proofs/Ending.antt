-- How the line of a name or of a number ends, behind its key.
--     then-line                                      something is written behind the key
--     ends-long, ends-short                          the line of a name, by its length: the mark, or the name as it is written
--     is-long                                        the length, by where the name begins and ends
--     line-of-name, line-of-missing, line-of-none    the line of an answer, and whether there is one
-- Assumes nothing.
use mathlib.Core.Path.{◌≡◌}
use mathlib.Core.Bool.{true, false}
use mathlib.Core.List.{List, [], ◌∷◌, ◌++◌}
use Prim.Native.Nat.{ℕ, ◌+◌, ◌-◌, ◌≤◌, ◌<◌}
use native.Mathlib.Omega.{arith}
use borrow.Author.Tests.{le-leb, lt-leb}
use lib.ListN.{length}
use Rattle.numbers.specs.Parts.{part}
use Rattle.buffers.specs.Texts.{Text, q}
use Rattle.buffers.specs.Writes.{Wrote, Kept}
use Rattle.buffers.specs.Replies.{number, Refused, Answer, refused, refused_by, value}
use Rattle.buffers.specs.declared.Refusal.TheVariants.{NoSuchRow, NoName, TooManySteps}
use Rattle.buffers.specs.declared.Reason.TheVariants.{Untold}
use Rattle.buffers.proofs.Writing.{wrote_then, wrote_kept, kept-wrote, wrote-anew, wrote-part}
use Rattle.escapes.specs.Escapes.{escaped, longest, shown}
use Rattle.lines.specs.Lines.{name_room, line, spent_line, missing_line, name_line, goes_on}

-- What is shown of a name, by its length.
shown-short : (t : Text) → length t ≤ longest → shown t ≡ escaped t
unfolding shown
shown-short t h = rw (le-leb _ _ h)

shown-long : (t : Text) → longest < length t → shown t ≡ q "!"
unfolding shown
shown-long t h = rw (lt-leb _ _ h)

module _ {o o₁ o₂ : List ℕ} {at start : ℕ} {key : Text} (k : Wrote o at key o₁ start) (kept : Kept o₁ start o₂) where
  -- Behind the key something else is written.
  pub then-line : (u : Text) {o₃ : List ℕ} {at' : ℕ} → Wrote o₂ start (u ++ (0x0A ∷ [])) o₃ at' → Wrote o at (line key u) o₃ at'
  unfolding line
  then-line u w = wrote_then (kept-wrote k kept) w

module _ {o o₁ o₂ : List ℕ} {at start end : ℕ} {key t : Text} (k : Wrote o at key o₁ start) (w : Wrote o₁ start t o₂ end) where
  pub ends-long : {o₃ : List ℕ} {at' : ℕ} → longest < length t → Wrote o at (spent_line key) o₃ at' → Wrote o at (line key (shown t)) o₃ at'
  ends-long h x = rw (shown-long t h) x

  -- How long the name is, where there is room for the longest.
  pub is-long : start + name_room ≤ length o₂ → longest < end - start → longest < length t
  is-long h f = omega (arith, w.place, w.keeps.long)

  module _ (room : start + name_room ≤ length o₂) (f : end - start ≤ longest) where
    is-short : length t ≤ longest
    is-short = omega (arith, w.place, w.keeps.long)

    pub ends-short : {o₃ o₄ : List ℕ} {after at' : ℕ} → Wrote o₂ start (escaped (part o₂ start (end - start))) o₃ after
        → Wrote o₃ after (0x0A ∷ []) o₄ at' → Wrote o at (line key (shown t)) o₄ at'
    unfolding line
    ends-short {o₃} {after = after} v x =
        let is : part o₂ start (end - start) ≡ t = wrote-part w (omega (arith, is-short, room, w.keeps.long)) in
        let e : Wrote o₂ start (escaped t) o₃ after = rw is at v in
        rw (shown-short t is-short) (wrote_then k (wrote_then (wrote-anew w.keeps e) x))

-- The line of an answer, and whether there is one.
module _ (key : Text) {a : Answer Text} {o o' : List ℕ} {at at' : ℕ} where
  pub line-of-name : {t : Text} → a ≡ value t → Wrote o at (line key (shown t)) o' at'
      → Wrote o at (name_line key a) o' at' × (true ≡ goes_on a)
  line-of-name is w = (rw is w, rw is)

  pub line-of-missing : {r : Refused} → a ≡ refused r → r.number ≡ number (NoName Untold) → Wrote o at (line key []) o' at'
      → Wrote o at (name_line key a) o' at' × (true ≡ goes_on a)
  unfolding missing_line
  line-of-missing is five w = (rw (is, five) w, rw (is, five))

  pub line-of-none : a ≡ refused_by NoSuchRow → {o₁ o₂ : List ℕ} {start : ℕ} → Wrote o at key o₁ start → Kept o₁ start o₂
      → Wrote o₂ at [] o' at' → Wrote o at (name_line key a) o' at' × (false ≡ goes_on a)
  unfolding missing_line
  line-of-none is k kept w = (rw is (wrote-anew (wrote_kept k kept) w), rw is)

  -- Beyond the ceiling.
  pub line-of-spent : a ≡ refused_by TooManySteps → Wrote o at (spent_line key) o' at' → Wrote o at (name_line key a) o' at' × (false ≡ goes_on a)
  unfolding missing_line
  line-of-spent is w = (rw is w, rw is)
