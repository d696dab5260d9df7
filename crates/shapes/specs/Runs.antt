-- Tags that keep the level and stand one after another: 0x1D puts a pair of brackets behind the type that follows it, and 0x1F and 0x20
-- stand before a number that is passed over. What a run of them makes of the type behind it, for every definition of types that says so
-- of the three tags.
use Rattle.std.specs.Prelude.{◌≡◌, List, [], ◌++◌, ℕ, zero, suc, ◌+◌, ◌<◌, ◌≤◌, length, get_or, Result, Ok, Err}
use Rattle.std.proofs.Math.Option.{Option, none, some}
use Rattle.numbers.specs.Reading.{Reader, after}
use Rattle.buffers.specs.Texts.{Text, q}
use Rattle.record.specs.Types.{around, modified}
use Rattle.shapes.specs.declared.Tag.{Tag}
use Rattle.shapes.specs.declared.Tag.TheVariants.{Vector, Modifier, Other}

-- A run of tags, as the code has it: the pairs of brackets in it and the position after it, or after the bytes of a broken number.
abbrev pub Run : Type 0
Run = Result (ℕ × ℕ) ℕ

-- A tag, as the code reads it, or the position after the bytes of a broken number.
abbrev pub Step : Type 0
Step = Result Tag ℕ

-- n pairs of brackets.
unfoldable pub brackets : ℕ → Text
brackets zero = []
brackets (suc n) = q "[]" ++ brackets n

-- A text that may be missing, with another behind it.
abbrev pub suffixed : Text → Option Text → Option Text
suffixed u none = none
suffixed u (some t) = some (t ++ u)

-- What a reading of types says of the three tags.
pub record SameLevel (type : Reader Text) : Type 0 where
  pub vector : (s : List ℕ) (at : ℕ) → at < length s → get_or s at 0 ≡ 0x1D → type s at ≡ after 1 (around [] (q "[]") type s (at + 1))
  pub required : (s : List ℕ) (at : ℕ) → at < length s → get_or s at 0 ≡ 0x1F → type s at ≡ after 1 (modified type s (at + 1))
  pub optional : (s : List ℕ) (at : ℕ) → at < length s → get_or s at 0 ≡ 0x20 → type s at ≡ after 1 (modified type s (at + 1))

-- None of the three stands at the position.
pub record Plain (s : List ℕ) (at : ℕ) : Type 0 where
  pub no-vector : at < length s → get_or s at 0 ≡ 0x1D → ⊥
  pub no-required : at < length s → get_or s at 0 ≡ 0x1F → ⊥
  pub no-optional : at < length s → get_or s at 0 ≡ 0x20 → ⊥

-- The type at the position is the type at `next` with n pairs of brackets behind it.
pub record Leads (s : List ℕ) (at n next : ℕ) : Type 0 where
  pub forward : at ≤ next
  pub got : (type : Reader Text) → SameLevel type → (type s at).got ≡ suffixed (brackets n) (type s next).got
  pub on : (type : Reader Text) → SameLevel type → (type s at).next ≡ (type s next).next

-- There is no type at the position, and the reading ends at `next`.
pub record Stops (s : List ℕ) (at next : ℕ) : Type 0 where
  pub forward : at ≤ next
  pub got : (type : Reader Text) → SameLevel type → (type s at).got ≡ none
  pub on : (type : Reader Text) → SameLevel type → (type s at).next ≡ next

-- What each case of a tag says of the position at which it stands.
pub data Tags (s : List ℕ) (at : ℕ) : Step → Type 0 where
  is-vector : Leads s at 1 (at + 1) → Tags s at (Ok Vector)
  is-modifier : {next : ℕ} → at < next → Leads s at 0 next → Tags s at (Ok (Modifier next))
  is-torn : {next : ℕ} → Stops s at next → Tags s at (Err next)
  is-other : Plain s at → Tags s at (Ok Other)

-- What each case of a run says of the position at which it begins.
pub data Skips (s : List ℕ) (at : ℕ) : Run → Type 0 where
  ran : {n next : ℕ} → Leads s at n next → Plain s next → Skips s at (Ok (n, next))
  broke : {next : ℕ} → Stops s at next → Skips s at (Err next)
