-- Rendering a type and what the frames ask for behind it. Assumes nothing.
use mathlib.Core.Path.{refl}
use mathlib.Core.List.{List, ◌++◌}
use Prim.Native.Nat.{ℕ, ◌≤◌}
use Rattle.numbers.specs.Reading.{Res, Reader}
use Rattle.buffers.specs.Texts.{Text}
use Rattle.buffers.specs.Writes.{Wrote}
use Rattle.buffers.proofs.Writing.{wrote_then, wrote_kept, kept_same}
use Rattle.rendering.specs.Rendered.{Rendering, Rendered, done, failed}
use Rattle.rendering.proofs.Laws.{Texted, Untexted, rendered-some, rendered-none, rendered-after}
use Rattle.frames.specs.Stack.{joined, before, rest, whole, stack, Level, Moves, Ascends, Descends}
use Rattle.frames.specs.Stack as spec
use Rattle.frames.specs.declared.Ascent.TheVariants as ascent
use Rattle.frames.proofs.Laws.{joined_is, begins}
use Rattle.std.specs.Prelude.{Ok, Err}

-- A text before a rendering.
pub rendered-before : {u : Text} {b b₁ : List ℕ} {at k : ℕ} → Wrote b at u b₁ k → {d : Res Text} {b' : List ℕ} {r : Rendering} → Rendered d b₁ k b' r → Rendered (before u d) b at b' r
rendered-before {u = u} w (done t g n v) = done (u ++ t) (rw g refl) n (wrote_then w v)
rendered-before {u = u} w (failed g n v) = failed (rw g refl) n (wrote_kept w v)

-- Two readings one after the other.
module _ (p r : Reader Text) (s : List ℕ) (pos : ℕ) {b b₁ : List ℕ} {at n : ℕ} where
  pub joined-done : {k : ℕ} → Texted (p s pos) b at b₁ k n → {b' : List ℕ} {x : Rendering} → Rendered (r s n) b₁ k b' x → Rendered (joined p r s pos) b at b' x
  joined-done t h = rw (joined_is p r s pos, t.got, t.on) (rendered-after (p s pos).steps (rendered-before t.wrote h))

  pub joined-failed : Untexted (p s pos) b at b₁ n → Rendered (joined p r s pos) b at b₁ (Err n)
  joined-failed t = rw (joined_is p r s pos, t.got) (failed refl t.on t.keeps)

-- The loop over a level: what completes the type at hand, and what the frames ask for, completes the whole.
module _ (T : Reader Text) where
  pub level-start : Level T → (a : List ℕ) {s : List ℕ} {pos : ℕ} {b b' : List ℕ} {at : ℕ} {r : Rendering} → Rendered (whole T (stack a 0) s pos) b at b' r → Rendered (T s pos) b at b' r
  unfolding stack
  level-start l a {s} {pos} h = rw ((begins T l).alone s pos) at h

  pub level-past : (s : List ℕ) (p : ℕ) (vs : List ℕ) {b : List ℕ} {k : ℕ} → Untexted (T s p) b k b p → Rendered (whole T vs s p) b k b (Err p)
  level-past s p vs t = joined-failed T (rest T vs) s p t

  module _ {s : List ℕ} {p : ℕ} {vs : List ℕ} {b : List ℕ} {k : ℕ} where
    pub level-torn : Level T → {used : ℕ} {a' : List ℕ} {q m : ℕ} → Descends s p vs used a' (Err (q, m)) → Rendered (whole T vs s p) b k b (Err q)
    level-torn l (spec.broken is) = rw (is T l) (failed refl refl (kept_same b k))

    module _ (l : Level T) {o q : ℕ} {ws : List ℕ} (m : Moves s p vs o q ws) {b₁ : List ℕ} {next : ℕ} where
      pub level-failed : Untexted (T s q) b k b₁ next → Rendered (whole T vs s p) b k b₁ (Err next)
      level-failed t = rw (m.is T l) (rendered-after o (joined-failed T (rest T ws) s q t))

      module _ {end : ℕ} (t : Texted (T s q) b k b₁ end next) where
        on : {b' : List ℕ} {r : Rendering} → Rendered (rest T ws s next) b₁ end b' r → Rendered (whole T vs s p) b k b' r
        on y = rw (m.is T l) (rendered-after o (joined-done T (rest T ws) s q t y))

        module _ {used : ℕ} {b₂ a' : List ℕ} where
          pub level-more : {place first n : ℕ} → Ascends s next ws used b₁ end b₂ a' (Ok (ascent.More place first n)) → {b' : List ℕ} {r : Rendering}
              → Rendered (whole T (stack a' n) s first) b₂ place b' r → Rendered (whole T vs s p) b k b' r
          level-more (spec.more u w ahead less is) y = on (rw (is T) (rendered-before w y))

          pub level-over : {place last : ℕ} → Ascends s next ws used b₁ end b₂ a' (Ok (ascent.Over place last))
              → Rendered (whole T vs s p) b k b₂ (Ok (place, last))
          level-over (spec.over u w is) = on (rendered-some (is T) w)

          pub level-broken : {last : ℕ} → Ascends s next ws used b₁ end b₂ a' (Err last) → Rendered (whole T vs s p) b k b₂ (Err last)
          level-broken (spec.broken w is) = on (rendered-none (is T) w)

-- Where an argument follows, and how many frames are left.
pub more-ahead : {s : List ℕ} {pos : ℕ} {vs : List ℕ} {used : ℕ} {b b' : List ℕ} {at : ℕ} {a' : List ℕ} {k p n : ℕ}
    → Ascends s pos vs used b at b' a' (Ok (ascent.More k p n)) → (pos ≤ p) × (n ≤ used)
more-ahead (spec.more u w ahead less is) = (ahead, less)
