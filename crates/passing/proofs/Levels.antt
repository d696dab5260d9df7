-- The loop over a level: what passing over the type at hand, and over what the frames ask for, comes to, the whole comes to. Assumes
-- nothing.
use mathlib.Core.Path.{◌≡◌, refl}
use mathlib.Core.List.{List, ◌++◌}
use Prim.Native.Nat.{ℕ, ◌+◌, ◌-◌, ◌≤◌, ◌<◌}
use native.Mathlib.Nat.{zero-add}
use native.Mathlib.Omega.{arith}
use Rattle.numbers.specs.Reading.{Res, Reader, give, ◌>>=◌}
use Rattle.buffers.specs.Texts.{Text}
use Rattle.frames.specs.Stack.{joined, before, rest, whole, stack, Level, Moves, Ascends, Descends}
use Rattle.frames.specs.Stack as frame
use Rattle.frames.specs.declared.Ascent.TheVariants as ascent
use Rattle.frames.proofs.Laws.{begins}
use Rattle.std.specs.Prelude.{Some, None, Ok, Err}
use Rattle.passing.specs.Passing.{Passage, Passes, over, failed, spent}
use Rattle.passing.specs.declared.Passed.TheVariants.{Over, Failed}
use Rattle.passing.proofs.Laws.{Went, Stopped, after-passes, then-over, then-failed, then_spent, made}

-- A text before a reading changes nothing.
before-passes : (u : Text) (d : Res Text) {steps : ℕ} {r : Passage} → Passes d steps r → Passes (before u d) steps r
before-passes u d (over a g n e) = over (u ++ a) (rw g refl) n e
before-passes u d (failed g n e) = failed (rw g refl) n e
before-passes u d (spent h) = spent h

-- Two readings one after the other.
abbrev behind : Reader Text → Text → Reader Text
behind x t = x >>= (λ u. give (t ++ u))

module _ (p x : Reader Text) (s : List ℕ) (pos : ℕ) {steps : ℕ} where
  joined-over : {next left : ℕ} → Went (p s pos) steps next left → {r : Passage} → Passes (x s next) left r → Passes (joined p x s pos) steps r
  unfolding joined
  joined-over {next} w h = then-over p (behind x) s pos w (made x (λ u. w.value ++ u) s next h)

  joined-failed : {next left : ℕ} → Stopped (p s pos) steps next left → Passes (joined p x s pos) steps (Some (Failed next left))
  unfolding joined
  joined-failed w = then-failed p (behind x) s pos w

  joined-spent : steps < (p s pos).steps → Passes (joined p x s pos) steps None
  unfolding joined
  joined-spent h = then_spent p (behind x) s pos h

module _ (T : Reader Text) (l : Level T) where
  pub level-start : (a : List ℕ) {s : List ℕ} {pos steps : ℕ} {r : Passage} → Passes (whole T (stack a 0) s pos) steps r → Passes (T s pos) steps r
  unfolding stack
  level-start a {s} {pos} h = rw ((begins T l).alone s pos) at h

  pub level-past : (s : List ℕ) (p : ℕ) (vs : List ℕ) {steps : ℕ} → Stopped (T s p) steps p steps → Passes (whole T vs s p) steps (Some (Failed p steps))
  level-past s p vs w = joined-failed T (rest T vs) s p w

  -- The tags before a type are passed, m of them, and the reading fails.
  module _ {s : List ℕ} {p : ℕ} {vs : List ℕ} where
    module _ {used : ℕ} {a' : List ℕ} {to m : ℕ} {k steps : ℕ} where
      pub level-torn : Descends s p vs used a' (Err (to, m)) → k ≡ m → k ≤ steps → Passes (whole T vs s p) steps (Some (Failed to (steps - k)))
      level-torn (frame.broken is) y g =
          let sum : m + 0 + (steps - k) ≡ steps = omega (arith, y, g) in
          rw (is T l) (failed {left = steps - k} refl refl sum)

      pub level-torn-spent : Descends s p vs used a' (Err (to, m)) → k ≡ m → steps < k → Passes (whole T vs s p) steps None
      level-torn-spent (frame.broken is) y g = rw (is T l) (spent (omega (arith, y, g)))

    -- Or they lead to another type.
    module _ {m to : ℕ} {ws : List ℕ} (x : Moves s p vs m to ws) {k steps : ℕ} (y : k ≡ m) where
      pub level-short : steps < k → Passes (whole T vs s p) steps None
      level-short g = rw (x.is T l) (spent (omega (arith, y, g)))

      module _ (g : k ≤ steps) where
        on : {r : Passage} → Passes (whole T ws s to) (steps - k) r → Passes (whole T vs s p) steps r
        on h = rw (x.is T l) (after-passes m (whole T ws s to) (steps - k) steps (omega (arith, y, g)) h)

        pub level-failed : {next left : ℕ} → Stopped (T s to) (steps - k) next left → Passes (whole T vs s p) steps (Some (Failed next left))
        level-failed w = on (joined-failed T (rest T ws) s to w)

        pub level-spent : steps - k < (T s to).steps → Passes (whole T vs s p) steps None
        level-spent w = on (joined-spent T (rest T ws) s to w)

        -- That is there, and the frames are asked for what follows it.
        module _ {next left : ℕ} (w : Went (T s to) (steps - k) next left) where
          behind-it : {r : Passage} → Passes (rest T ws s next) left r → Passes (whole T vs s p) steps r
          behind-it c = on (joined-over T (rest T ws) s to w c)

          module _ {used : ℕ} {b b' a' : List ℕ} {at : ℕ} where
            pub level-more : {place first n : ℕ} → Ascends s next ws used b at b' a' (Ok (ascent.More place first n)) → {r : Passage}
                → Passes (whole T (stack a' n) s first) left r → Passes (whole T vs s p) steps r
            level-more {first = first} {n = n} (frame.more u o ahead less is) c =
                behind-it (rw (is T) (before-passes u (whole T (stack a' n) s first) c))

            pub level-over : {place last : ℕ} → Ascends s next ws used b at b' a' (Ok (ascent.Over place last))
                → Passes (whole T vs s p) steps (Some (Over last left))
            level-over (frame.over u o is) = behind-it (rw (is T) (over u refl refl (zero-add left)))

            pub level-broken : {last : ℕ} → Ascends s next ws used b at b' a' (Err last) → Passes (whole T vs s p) steps (Some (Failed last left))
            level-broken (frame.broken o is) = behind-it (rw (is T) (failed refl refl (zero-add left)))
