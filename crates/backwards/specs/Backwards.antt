-- Text that is written into a lent buffer from its end towards its start, as a nested class name is found from its last part to its
-- first, and then moved to its place.
use Rattle.std.specs.Prelude.{◌≡◌, List, ℕ, ◌+◌, ◌<◌, ◌≤◌, length, get_or, Option, Some, None}
use Rattle.buffers.specs.Texts.{Text}
use Rattle.buffers.specs.Writes.{Kept}

-- Where a text begins that was written from its end; or that it does not fit.
abbrev pub Spot : Type 0
Spot = Option ℕ

-- The text t was written so that it ends at a place: it begins at p, which is not before the floor. Nothing before the floor changed,
-- and nothing from the place on.
pub record Behind (b : List ℕ) (floor end : ℕ) (t : Text) (b' : List ℕ) (p : ℕ) : Type 0 where
  pub long : length b' ≡ length b
  pub low : floor ≤ p
  pub place : p + length t ≡ end
  pub below : (i : ℕ) → i < floor → get_or b' i 0 ≡ get_or b i 0
  pub above : (i : ℕ) → end ≤ i → get_or b' i 0 ≡ get_or b i 0
  pub text : (i : ℕ) → i < length t → get_or b' (p + i) 0 ≡ get_or t i 0

-- What a call that writes so comes to: the text begins at a place, or it does not fit behind the floor, and nothing before the floor
-- changed.
abbrev pub Placed : List ℕ → ℕ → ℕ → Text → List ℕ → Spot → Type 0
Placed b floor end t b' (Some p) = Behind b floor end t b' p
Placed b floor end t b' None = (end < floor + length t) × Kept b floor b'

-- What stood from a place on stands at another now, and nothing before that changed.
pub record Moved (b : List ℕ) (at from : ℕ) (b' : List ℕ) : Type 0 where
  pub long : length b' ≡ length b
  pub kept : (i : ℕ) → i < at → get_or b' i 0 ≡ get_or b i 0
  pub moved : (i : ℕ) → from + i < length b → get_or b' (at + i) 0 ≡ get_or b (from + i) 0
