-- What marking relies on: the turns of the pass over a column, and that a true mark leaves everything else as it is. Assumes nothing.
use mathlib.Core.Path.{◌≡◌, refl, sym, ap, subst, ◌∙◌}
use mathlib.Core.Bool.{true, false, true≢false}
use mathlib.Core.List.{List}
use mathlib.Core.Logic.{◌≢◌, ⊎_elim}
use Prim.Native.Nat.{ℕ, ◌+◌, ◌-◌, ◌*◌, ◌≤◌, ◌<◌}
use native.Mathlib.Nat.{eq-or-lt_of_le, eq-zero-or-pos}
use native.Mathlib.Omega.{arith}
use lib.ListN.{length, get_or, set, length-set}
use lib.Seq.{get_or-set_other}
use Rattle.numbers.specs.Parts.{part}
use Rattle.rows.specs.Columns as columns
use Rattle.rows.specs.Held.{Sorted, Nested}
use Rattle.rows.specs.Layout.{Laid, Ascends, held_start, held_length, held_at, rows_at, cell, view_in}
use Rattle.rows.proofs.Memory.{part_same, same-options, relaid}
use Rattle.marks.specs.Marks.{Tells, Marked}

-- ---- The pass over a column f

-- The first i rows ascend, and the last of them has this number.
pub record Rising (f : ℕ → ℕ) (i last : ℕ) : Type 0 where
  pub ascends : Ascends f i
  pub none : i ≡ 0 → last ≡ 0
  pub at : (j : ℕ) → j + 1 ≡ i → last ≡ f j

pub rising_none : (f : ℕ → ℕ) → Rising f 0 0
rising_none f = record { ascends = λ j h. absurd (omega arith); none = λ e. refl; at = λ j e. absurd (omega arith) }

module _ (f : ℕ → ℕ) (i : ℕ) {last here : ℕ} (r : Rising f i last) (read : here ≡ f i) where
  rises : last ≤ here → Ascends f (i + 1)
  rises h j k =
      ⊎_elim (λ e. let next : f (j + 1) ≡ f i = ap f e in omega (arith, r.at j e)) (r.ascends j)
      (eq-or-lt_of_le {n = j + 1} {m = i} (omega arith))

  pub rising-more : last ≤ here → Rising f (i + 1) here
  rising-more h =
      record {
        ascends = rises h;
        none = λ e. absurd (omega arith);
        at = λ j e. let same : i ≡ j = omega arith in read ∙ ap f same;
      }

  -- A number that is less than the one before it.
  pub falls : (n : ℕ) → i < n → here < last → Ascends f n → ⊥
  falls n h k a =
      ⊎_elim (λ z. omega (arith, r.none z))
      (λ z.
      let e : i - 1 + 1 ≡ i = omega arith in
      let up = a (i - 1) (omega arith) in
      let same : f (i - 1 + 1) ≡ f i = ap f e in
      omega (arith, r.at (i - 1) e))
      (eq-zero-or-pos i)

pub tells-yes : (f : ℕ → ℕ) (i n : ℕ) {last : ℕ} → Rising f i last → i ≡ n → Tells true (Ascends f n)
tells-yes f i n r e = record { yes = λ _. rw e at r.ascends; no = λ z. absurd (true≢false z) }

pub tells-no : (f : ℕ → ℕ) (n : ℕ) → (Ascends f n → ⊥) → Tells false (Ascends f n)
tells-no f n h = record { yes = λ z. absurd (true≢false (sym z)); no = λ _. h }

-- ---- A mark that is set

pub unmarked : {t l : List ℕ} → Laid t l → Marked t l l
unmarked laid = record { laid = laid; options = refl }

-- The view is the same.
pub marked-view : {t l l' : List ℕ} → Marked t l l' → (strings blob : List ℕ) → view_in t l' strings blob ≡ view_in t l strings blob
marked-view m strings blob = rw m.options

module _ {t l : List ℕ} (laid : Laid t l) where
  abbrev l' : List ℕ
  l' = set l columns.mark 1

  long : length l' ≡ length l
  long = length-set l columns.mark 1

  kept : (i : ℕ) → i ≢ columns.mark → get_or l' i 0 ≡ get_or l i 0
  kept i h = get_or-set_other l columns.mark i 1 0 h

  kept-start : (j : ℕ) → held_start l' j ≡ held_start l j
  kept-start j = kept (columns.held + columns.held_numbers * j) (λ e. omega arith)

  kept-length : (j : ℕ) → held_length l' j ≡ held_length l j
  kept-length j = kept (columns.held + columns.held_numbers * j + columns.held_words) (λ e. omega arith)

  -- A memory stands behind the mark.
  kept-words : (j : ℕ) → j < columns.held_count → (i : ℕ) → held_start l j ≤ i → i < held_start l j + held_length l j → get_or l' i 0 ≡ get_or l i 0
  kept-words j h i a b = kept i (λ e. omega (arith, laid.behind j h (omega arith)))

  kept_memory : (j : ℕ) → j < columns.held_count → held_at l j ≡ held_at l' j
  kept_memory j h =
      sym (part_same l l' (held_start l j) (held_length l j) (laid.inside j h) (omega (arith, long, laid.inside j h)) (kept-words j h))
      ∙ ap (λ (a : ℕ). part l' a (held_length l j)) (sym (kept-start j)) ∙ ap (part l' (held_start l' j)) (sym (kept-length j))

  pub marked-one : Ascends (cell t l columns.method_list) (rows_at l columns.method_list) → Marked t l l'
  marked-one a =
      record {
        laid =
            relaid l' laid (λ i h. kept i (λ e. omega arith)) (omega (arith, long, laid.size)) (λ _. a)
            (λ j h. omega (arith, long, kept-start j, kept-length j, laid.inside j h))
            (λ j h p. omega (arith, kept-start j, laid.behind j h (omega (arith, kept-length j))))
            (subst (Sorted _ _) (kept_memory columns.by_owner (omega arith)) laid.generics)
            (subst (Sorted _ _) (kept_memory columns.by_class (omega arith)) laid.interfaces)
            (subst (Sorted _ _) (kept_memory columns.by_parent (omega arith)) laid.layouts)
            (subst (Nested _ _ _) (kept_memory columns.by_nested (omega arith)) laid.nests);
        options = same-options l' laid (λ i h. kept i (λ e. omega arith));
      }
