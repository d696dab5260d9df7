-- What is known of a rendering that was matched, and how a leaf's is made. Assumes nothing.
use mathlib.Core.Path.{◌≡◌, ap, subst}
use mathlib.Core.List.{List}
use mathlib.Core.Option.{none, some}
use Prim.Native.Nat.{ℕ}
use Rattle.numbers.specs.Reading.{Res, some_at, none_at, after}
use Rattle.buffers.specs.Texts.{Text}
use Rattle.buffers.specs.Writes.{Kept, Wrote}
use Rattle.rendering.specs.Rendered.{Rendering, Rendered, done, failed}
use Rattle.std.specs.Prelude.{Ok, Err}

-- A text that is there, and its writing.
pub record Texted (d : Res Text) (b : List ℕ) (at : ℕ) (b' : List ℕ) (at' next : ℕ) : Type 0 where
  pub text : Text
  pub got : d.got ≡ some text
  pub on : d.next ≡ next
  pub wrote : Wrote b at text b' at'

-- One that is not.
pub record Untexted (d : Res Text) (b : List ℕ) (at : ℕ) (b' : List ℕ) (next : ℕ) : Type 0 where
  pub got : d.got ≡ none
  pub on : d.next ≡ next
  pub keeps : Kept b at b'

module _ {d : Res Text} {b : List ℕ} {at : ℕ} {b' : List ℕ} where
  -- What an answer says, by its case.
  pub text_in : {at' next : ℕ} → Rendered d b at b' (Ok (at', next)) → Texted d b at b' at' next
  text_in (done t g n w) = record { text = t; got = g; on = n; wrote = w }

  pub text_out : {next : ℕ} → Rendered d b at b' (Err next) → Untexted d b at b' next
  text_out (failed g n k) = record { got = g; on = n; keeps = k }

  -- The same of an answer that was matched.
  module _ {r : Rendering} (h : Rendered d b at b' r) where
    pub rendered-done : {at' next : ℕ} → r ≡ Ok (at', next) → Texted d b at b' at' next
    rendered-done e = text_in (subst (Rendered d b at b') e h)

    pub rendered-failed : {next : ℕ} → r ≡ Err next → Untexted d b at b' next
    rendered-failed e = text_out (subst (Rendered d b at b') e h)

  -- What a leaf found the reading to be.
  pub rendered-some : {t : Text} {at' next : ℕ} → d ≡ some_at t next → Wrote b at t b' at' → Rendered d b at b' (Ok (at', next))
  rendered-some {t} e w = done t (ap (λ (x : Res Text). x.got) e) (ap (λ (x : Res Text). x.next) e) w

  pub rendered-none : {next : ℕ} → d ≡ none_at next → Kept b at b' → Rendered d b at b' (Err next)
  rendered-none e k = failed (ap (λ (x : Res Text). x.got) e) (ap (λ (x : Res Text). x.next) e) k

-- Type bytes that were read before do not show.
pub rendered-after : (m : ℕ) {d : Res Text} {b : List ℕ} {at : ℕ} {b' : List ℕ} {r : Rendering} → Rendered d b at b' r → Rendered (after m d) b at b' r
rendered-after m (done t g n w) = done t g n w
rendered-after m (failed g n k) = failed g n k
