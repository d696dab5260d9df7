-- Which classes read a method where the classes' first methods are in order: the one that takes it, and no other. Assumes nothing.
use mathlib.Core.Path.{◌≡◌, refl, sym, ap, ◌∙◌}
use mathlib.Core.Logic.{◌≢◌}
use mathlib.Core.Bool.{Bool, true, false, cond, ◌&&◌}
use mathlib.Core.List.{List, [], ◌∷◌}
use mathlib.Core.Option.{Option, none, some}
use Prim.Native.Nat.{ℕ, zero, suc, ◌+◌, ◌-◌, ◌≤◌, ◌<◌}
use native.Mathlib.Nat.{add-zero}
use native.Mathlib.Omega.{arith}
use borrow.Author.Tests.{le-leb, lt-leb, lt-ltb, le-ltb}
use lib.Dec.{eqb, leb, ltb}
use Rattle.numbers.specs.Lists.{tabulate}
use Rattle.numbers.proofs.Pick.{pick-eq, by-lt}
use Rattle.layouts.specs.Kinds.{method_def}
use Rattle.record.specs.Missing.{or_else}
use Rattle.record.specs.View.{View}
use Rattle.record.specs.Names.{rows_in, classes}
use Rattle.record.specs.Methods.{method_lists, takes, left_over, left_after, read_by, read_steps, end_before, reads, readers_among, readers_from, readers, signature_of, method_steps}
use Rattle.record.specs.Modes.{list_of, InOrder}

-- ---- One class, by its column and where the methods that it reads end

-- Where those methods begin: at its first method; with column 0 at their end, so that there are none.
abbrev begins : ℕ → ℕ → ℕ
begins col end = cond (eqb col 0) end (col - 1)

nothing : (b : Bool) → (b && false) ≡ false
nothing true = refl
nothing false = refl

module _ (col end : ℕ) where
  reads-from : (m : ℕ) → reads m col end ≡ (leb (begins col end) m && ltb m end)
  unfolding reads
  reads-from m = go (eqb col 0)
    where
      go : (z : Bool) → cond z false (leb (col - 1) m && ltb m end) ≡ (leb (cond z end (col - 1)) m && ltb m end)
      go true = by-lt m end (λ h. rw (lt-leb end m h)) (λ h. rw (le-ltb m end h) (sym (nothing (leb end m))))
      go false = refl

  -- What it takes of the methods before that end begins there too, unless it would begin behind it.
  takes-from : begins col end ≤ end → takes col end ≡ begins col end
  unfolding takes
  takes-from = go (eqb col 0)
    where
      go : (z : Bool) → cond z end (col - 1) ≤ end → cond z end (cond (leb (col - 1) end) (col - 1) end) ≡ cond z end (col - 1)
      go true h = refl
      go false h = rw (le-leb (col - 1) end h)

-- ---- All classes
module _ (v : View) (order : InOrder v) where
  -- Where the methods begin that are read by the n classes from c on, the last of all: there end those that the class before them reads.
  abbrev first : ℕ → ℕ → ℕ
  first c n = end_before (rows_in v method_def) (method_lists v c n)

  first-least : (a c n : ℕ) → a ≤ rows_in v method_def → ((d : ℕ) → c ≤ d → d < c + n → list_of v d ≢ 0 → a ≤ list_of v d - 1) → a ≤ first c n
  unfolding end_before tabulate
  first-least a c zero h e = h
  first-least a c (suc n) h e =
      pick-eq (λ x. a ≤ x) (list_of v c) 0 (λ _. first-least a (c + 1) n h (λ d lo hi. e d (omega arith) (omega arith)))
      (λ z. e c (omega arith) (omega arith) z)

  first-rises : (c n : ℕ) → c + suc n ≡ classes v → first c (suc n) ≤ first (c + 1) n
  unfolding end_before tabulate
  first-rises c n e =
      pick-eq (λ x. x ≤ first (c + 1) n) (list_of v c) 0 (λ _. omega arith)
      (λ z. first-least (list_of v c - 1) (c + 1) n (order.never-pass c (omega arith) z) (λ d lo hi y. order.never-fall c d (omega arith) (omega arith) z y))

  -- So a class takes what it reads.
  left-first : (c n : ℕ) → c + n ≡ classes v → left_over (rows_in v method_def) (method_lists v c n) ≡ first c n
  unfolding left_over end_before tabulate
  left-first c zero e = refl
  left-first c (suc n) e = rw (left-first (c + 1) n (omega arith)) (takes-from (list_of v c) (first (c + 1) n) (first-rises c n e))

  left_is : (c n : ℕ) → c + n ≡ classes v → left_after v c ≡ first c n
  unfolding left_after
  left_is c n e =
      let rest : classes v - c ≡ n = omega arith in
      ap (λ (k : ℕ). left_over (rows_in v method_def) (method_lists v c k)) rest ∙ left-first c n e

  module _ (m : ℕ) where
    abbrev among : ℕ → ℕ → List ℕ
    among c n = readers_among (rows_in v method_def) m c (method_lists v c n)

    -- No class reads method m that begins behind it.
    none-behind : (c n : ℕ) → c + n ≡ classes v → m < first c n → among c n ≡ []
    unfolding readers_among end_before tabulate
    none-behind c zero e h = refl
    none-behind c (suc n) e h =
        rw (reads-from (list_of v c) (first (c + 1) n) m, lt-leb (first c (suc n)) m h)
        (none-behind (c + 1) n (omega arith) (omega (arith, h, first-rises c n e)))

    module _ (c : ℕ) (h : c < classes v) (lo : left_after v c ≤ m) (hi : m < left_after v (c + 1)) where
      -- Class c, which takes it, does; and no class before c, since what it reads ends where c begins, or before.
      from-taker : (n : ℕ) → c + suc n ≡ classes v → (first c (suc n) ≤ m) × (among c (suc n) ≡ c ∷ [])
      unfolding readers_among end_before tabulate
      from-taker n e =
          let from : first c (suc n) ≤ m = omega (arith, lo, left_is c (suc n) e) in
          let upto : m < first (c + 1) n = omega (arith, hi, left_is (c + 1) n (omega arith)) in (
            from,
            rw (reads-from (list_of v c) (first (c + 1) n) m, le-leb (first c (suc n)) m from, lt-ltb m (first (c + 1) n) upto)
                (ap (λ (l : List ℕ). c ∷ l) (none-behind (c + 1) n (omega arith) upto)),
          )

      from-before : (k i n : ℕ) → i + k ≡ c → i + n ≡ classes v → (first i n ≤ m) × (among i n ≡ c ∷ [])
      unfolding readers_among end_before tabulate
      from-before k i zero e f = absurd (omega arith)
      from-before zero i (suc n) e f = let same : i ≡ c = omega arith in rw same (from-taker n (omega arith))
      from-before (suc k) i (suc n) e f =
          let rest = from-before k (i + 1) n (omega arith) (omega arith) in
          (omega (arith, first-rises i n f, rest.0), rw (reads-from (list_of v i) (first (i + 1) n) m, le-ltb m (first (i + 1) n) rest.0, nothing (leb (first i (suc n)) m)) rest.1)

      one_reader : readers v m ≡ c ∷ []
      unfolding readers_from
      one_reader = (from-before c 0 (classes v - 0) (omega arith) (omega arith)).1

      pub signature-alone : signature_of v m ≡ read_by v m c
      unfolding signature_of
      signature-alone = rw one_reader (go (read_by v m c))
        where
          go : {A : Type 0} (a : Option A) → or_else a none ≡ a
          go none = refl
          go (some a) = refl

      pub steps-alone : method_steps v m ≡ read_steps v m c
      unfolding method_steps
      steps-alone = rw one_reader (add-zero (read_steps v m c))
