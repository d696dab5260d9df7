-- What passing over a reading came to, by its case, and three laws of `>>=`: the first reading went over, it failed, or the steps did
-- not suffice for it. Assumes nothing.
use mathlib.Core.Path.{◌≡◌, refl, sym, subst}
use mathlib.Core.Bool.{Bool, true, false}
use mathlib.Core.List.{List, []}
use mathlib.Core.Option.{Option, none, some}
use Prim.Native.Nat.{ℕ, ◌+◌, ◌<◌}
use native.Mathlib.Nat.{zero-add}
use native.Mathlib.Omega.{arith}
use Rattle.numbers.specs.Reading.{Res, Reader, after, chain, give, ◌>>=◌}
use Rattle.heaps.specs.Lookups.{is_there}
use Rattle.buffers.specs.Texts.{Text}
use Rattle.record.specs.Readings.{known}
use Rattle.rendering.specs.Rendered.{Rendered}
use Rattle.rendering.proofs.Laws.{text_in, text_out}
use Rattle.steps.specs.Counting.{Steps, Takes}
use Rattle.steps.specs.Counting as counting
use Rattle.passing.specs.Passing.{Passage, Passes, over, failed, spent, left_of}
use Rattle.passing.specs.declared.Passed.TheVariants.{Over, Failed}
use Rattle.std.specs.Prelude.{Some, None, Ok, Err}

pub record Went {A : Type 0} (d : Res A) (steps next left : ℕ) : Type 0 where
  pub value : A
  pub got : d.got ≡ some value
  pub on : d.next ≡ next
  pub paid : d.steps + left ≡ steps

pub record Stopped {A : Type 0} (d : Res A) (steps next left : ℕ) : Type 0 where
  pub got : d.got ≡ none
  pub on : d.next ≡ next
  pub paid : d.steps + left ≡ steps

module _ {A : Type 0} {d : Res A} {steps : ℕ} where
  pub passes_over : {next left : ℕ} → Passes d steps (Some (Over next left)) → Went d steps next left
  passes_over (over a g n p) = record { value = a; got = g; on = n; paid = p }

  pub passes-failed : {next left : ℕ} → Passes d steps (Some (Failed next left)) → Stopped d steps next left
  passes-failed (failed g n p) = record { got = g; on = n; paid = p }

  pub passes-spent : Passes d steps None → steps < d.steps
  passes-spent (spent h) = h

-- What passing takes of the steps.
pub passes-takes : {A : Type 0} {d : Res A} {steps : ℕ} {p : Passage} {r : Steps} → Passes d steps p → r ≡ left_of p → Takes d.steps steps r
passes-takes (over {left = l} a g n e) f = rw f (counting.left {rest = l} e)
passes-takes (failed {left = l} g n e) f = rw f (counting.left {rest = l} e)
passes-takes (spent h) f = rw f (counting.spent h)

-- Steps taken before.
pub after-passes : {A : Type 0} (m : ℕ) (d : Res A) (left : ℕ) {r : Passage} (steps : ℕ) → m + left ≡ steps → Passes d left r → Passes (after m d) steps r
after-passes m d left steps e (over {left = l} a g n p) = over {left = l} a g n (omega arith)
after-passes m d left steps e (failed {left = l} g n p) = failed {left = l} g n (omega arith)
after-passes m d left steps e (spent h) = spent (omega arith)

-- The same with none.
pub still-passes : {A : Type 0} (d : Res A) {r : Passage} (steps : ℕ) → Passes d steps r → Passes (after 0 d) steps r
still-passes d steps h = after-passes 0 d steps steps (zero-add steps) h

-- One reading and then another.
module _ {A B : Type 0} (p : Reader A) (k : A → Reader B) (s : List ℕ) (at : ℕ) {steps : ℕ} where
  pub then-over : {next left : ℕ} (w : Went (p s at) steps next left) {r : Passage} → Passes (k w.value s next) left r → Passes ((p >>= k) s at) steps r
  then-over w h = rw (w.got, w.on) (after-passes (p s at).steps _ _ steps w.paid h)

  pub then-failed : {next left : ℕ} → Stopped (p s at) steps next left → Passes ((p >>= k) s at) steps (Some (Failed next left))
  then-failed w = rw w.got (failed refl w.on w.paid)

  pub then_spent : steps < (p s at).steps → Passes ((p >>= k) s at) steps None
  then_spent h = by-got (p s at).got
    where
      by-got : (o : Option A) → Passes (chain o (p s at).next (p s at).steps (λ a next. k a s next)) steps None
      by-got none = spent h
      by-got (some a) = spent (omega arith)

-- A value made of one that is there.
pub given : {A : Type 0} (a : A) (s : List ℕ) (at steps : ℕ) → Passes (give a s at) steps (Some (Over at steps))
given a s at steps = over a refl refl (zero-add steps)

module _ {A B : Type 0} (p : Reader A) (f : A → B) (s : List ℕ) (at : ℕ) {steps : ℕ} where
  pub made : {r : Passage} → Passes (p s at) steps r → Passes ((p >>= (λ a. give (f a))) s at) steps r
  made (over {next = n} {left = l} a g o e) = then-over p (λ a. give (f a)) s at (record { value = a; got = g; on = o; paid = e }) (given (f a) s n l)
  made (failed g o e) = then-failed p (λ a. give (f a)) s at (record { got = g; on = o; paid = e })
  made (spent h) = then_spent p (λ a. give (f a)) s at h

abbrev pub When : Bool → Type 0
When true = Unit {0}
When false = ⊥

-- What is there or not, and reads no byte.
pub there : {A : Type 0} (o : Option A) (next steps : ℕ) → true ≡ is_there o → Passes (known o [] next) steps (Some (Over next steps))
there none next steps e = absurd (subst When e tt)
there (some a) next steps e = over a refl refl (zero-add steps)

pub missing : {A : Type 0} (o : Option A) (next steps : ℕ) → false ≡ is_there o → Passes (known o [] next) steps (Some (Failed next steps))
missing none next steps e = failed refl refl (zero-add steps)
missing (some a) next steps e = absurd (subst When (sym e) tt)

-- What was rendered, and is no type.
module _ {d : Res Text} {b b' : List ℕ} {at next : ℕ} (z : d.steps ≡ 0) (steps : ℕ) where
  pub rendered-over : {at' : ℕ} → Rendered d b at b' (Ok (at', next)) → Passes d steps (Some (Over next steps))
  rendered-over h = let t = text_in h in over {left = steps} t.text t.got t.on (omega arith)

  pub rendered-missing : Rendered d b at b' (Err next) → Passes d steps (Some (Failed next steps))
  rendered-missing h = let t = text_out h in failed {left = steps} t.got t.on (omega arith)
