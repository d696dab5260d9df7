-- What the scan over the classes relies on: what a class takes, and that the MethodList column that is read is that of the class.
-- Assumes nothing.
use mathlib.Core.Path.{◌≡◌, refl, sym, ap, ap₂, ◌∙◌}
use mathlib.Core.List.{List, [], ◌∷◌}
use mathlib.Core.Logic.{⊎_elim}
use Prim.Native.Nat.{ℕ, zero, suc, ◌+◌, ◌-◌, ◌≤◌, ◌<◌}
use native.Mathlib.Omega.{arith}
use borrow.Author.Tests.{ne_eqb, le-leb, lt-leb}
use Rattle.numbers.specs.Lists.{tabulate}
use Rattle.layouts.specs.Kinds.{method_def}
use Rattle.record.specs.Columns.{method_list}
use Rattle.record.specs.View.{View}
use Rattle.record.specs.Names.{rows_in, number_in, classes, class_row}
use Rattle.record.specs.Methods.{method_lists, takes, left_over, left_after}
use Rattle.record.proofs.Read.{left_le}
use Rattle.rows.specs.Columns as columns
use Rattle.rows.specs.Layout.{Laid, Ascends, rows_at, cell, view_in}
use Rattle.rows.proofs.Laws.{le-or-lt}
use Rattle.rows.proofs.Classes.{classes-are, methods-are, list_at}
use Rattle.methods.specs.Ranges.{RangeOf}

-- ---- What a class takes

takes-rest : (col left : ℕ) {first : ℕ} → (col ≡ 0 → ⊥) → first ≡ col - 1 → first ≤ left → first ≡ takes col left
unfolding takes
takes-rest col left h e k = rw (ne_eqb col 0 h, ← e, le-leb _ left k)

takes-past : (col left : ℕ) {first : ℕ} → (col ≡ 0 → ⊥) → first ≡ col - 1 → left < first → left ≡ takes col left
unfolding takes
takes-past col left h e k = rw (ne_eqb col 0 h, ← e, lt-leb _ left k)

takes-le : (col left : ℕ) → takes col left ≤ left
unfolding left_over
takes-le col left = left_le left (col ∷ [])

-- Of two classes the first to be handled adds nothing if the other begins no later.
takes-twice : (x y left : ℕ) → (x ≡ 0 → ⊥) → x ≤ y → takes x (takes y left) ≡ takes x left
takes-twice x y left n h = ⊎_elim rest past (le-or-lt (y - 1) left)
  where
    later : y ≡ 0 → ⊥
    later e = n (omega arith)

    rest : y - 1 ≤ left → takes x (takes y left) ≡ takes x left
    rest l =
        rw (← takes-rest y left later refl l)
        (sym (takes-rest x (y - 1) n refl (omega arith)) ∙ takes-rest x left n refl (omega arith))

    past : left < y - 1 → takes x (takes y left) ≡ takes x left
    past l = rw (← takes-past y left later refl l)

-- ---- The scan

-- The lists of no classes, and of one class more.
left-none : (v : View) (c n : ℕ) → n ≡ 0 → left_over (rows_in v method_def) (method_lists v c n) ≡ rows_in v method_def
unfolding left_over tabulate
left-none v c n e = rw e

left-more : (v : View) (c n : ℕ) → left_over (rows_in v method_def) (method_lists v c (suc n))
    ≡ takes (number_in v method_list (class_row v c)) (left_over (rows_in v method_def) (method_lists v (c + 1) n))
unfolding left_over tabulate
left-more v c n = refl

left_step : (v : View) (c : ℕ) → c < classes v → left_after v c ≡ takes (number_in v method_list (class_row v c)) (left_after v (c + 1))
unfolding left_after
left_step v c h =
    let e : classes v - c ≡ suc (classes v - (c + 1)) = omega arith in
    ap (λ n. left_over (rows_in v method_def) (method_lists v c n)) e ∙ left-more v c (classes v - (c + 1))

left-inside : (v : View) (c : ℕ) → left_after v c ≤ rows_in v method_def
unfolding left_after
left-inside v c = left_le (rows_in v method_def) (method_lists v c (classes v - c))

module _ {t l : List ℕ} (laid : Laid t l) (strings blob : List ℕ) where
  abbrev v : View
  v = view_in t l strings blob

  -- At the start no class has taken any.
  pub all_left : {r left : ℕ} → 0 < r → r ≡ rows_at l columns.method_list → left ≡ rows_at l columns.method_name → left ≡ left_after v (r - 1)
  unfolding left_after
  all_left {r} z e a =
      let k = classes-are laid strings blob columns.method_list (omega arith) refl in
      a ∙ sym (left-none v (r - 1) (classes v - (r - 1)) (omega arith) ∙ methods-are laid strings blob columns.method_name (omega arith) refl)

  -- The class at row r takes its methods.
  pub class-takes : (r : ℕ) {x left next : ℕ} → 1 < r → r ≤ rows_at l columns.method_list → x ≡ cell t l columns.method_list (r - 1) → left ≡ left_after v (r - 1) → next ≡ takes x left
      → next ≡ left_after v (r - 1 - 1)
  class-takes r z h read a n =
      let k = classes-are laid strings blob columns.method_list (omega arith) refl in
      let one : r - 1 - 1 + 1 ≡ r - 1 = omega arith in
      let c = list_at laid strings blob (r - 1 - 1) (omega arith) in
      let s = left_step v (r - 1 - 1) (omega arith) in
      n ∙ ap₂ takes (read ∙ ap (cell t l columns.method_list) (sym one) ∙ sym c) (a ∙ ap (left_after v) (sym one)) ∙ sym s

  -- The range of the class at a row, by what the classes after it have left.
  pub range-is : (row : ℕ) {own x first left : ℕ} → own ≡ row → 1 < row → row ≤ rows_at l columns.method_list
      → x ≡ cell t l columns.method_list (own - 1) → left ≡ left_after v (own - 1) → first ≡ takes x left → RangeOf v (row - 2) first left
  range-is row {own} {x} {first} {left} eo z h read a n =
      let two : row - 1 - 1 ≡ row - 2 = omega arith in
      let one : own - 1 ≡ row - 2 + 1 = omega arith in
      let begins = class-takes row z h (rw eo at read) (rw eo at a) n in
      let i = left-inside v (own - 1) in
      let o = takes-le x left in
      record { begins = rw two at begins; ends = a ∙ ap (left_after v) one; inside = omega arith; order = omega arith }

  -- Where MethodList ascends, what the classes from c on leave is decided by class c alone, unless its column is 0.
  none_after : (c : ℕ) → classes v ≤ c → left_after v c ≡ rows_at l columns.method_name
  unfolding left_after
  none_after c h = left-none v c (classes v - c) (omega arith) ∙ methods-are laid strings blob columns.method_name (omega arith) refl

  decides : Ascends (cell t l columns.method_list) (rows_at l columns.method_list) → (d c : ℕ) → classes v ≡ c + suc d → (cell t l columns.method_list (c + 1) ≡ 0 → ⊥)
      → left_after v c ≡ takes (cell t l columns.method_list (c + 1)) (rows_at l columns.method_name)
  decides up zero c e n = left_step v c (omega arith) ∙ ap₂ takes (list_at laid strings blob c (omega arith)) (none_after (c + 1) (omega arith))
  decides up (suc d) c e n =
      let next = up (c + 1) (omega (arith, classes-are laid strings blob columns.method_list (omega arith) refl)) in
      left_step v c (omega arith) ∙ ap₂ takes (list_at laid strings blob c (omega arith)) (decides up d (c + 1) (omega arith) (λ z. n (omega arith)))
      ∙ takes-twice _ _ _ n next

  pub next-decides : Ascends (cell t l columns.method_list) (rows_at l columns.method_list) → (row : ℕ) {x all left : ℕ} → 0 < row → row < rows_at l columns.method_list
      → x ≡ cell t l columns.method_list row → (x ≡ 0 → ⊥) → all ≡ rows_at l columns.method_name → left ≡ takes x all → left ≡ left_after v (row - 1)
  next-decides up row {x} z h read n a e =
      let one : row - 1 + 1 ≡ row = omega arith in
      let same : cell t l columns.method_list (row - 1 + 1) ≡ x = ap (cell t l columns.method_list) one ∙ sym read in
      e ∙ ap₂ takes (sym same) a ∙ sym (decides up (classes v - row) (row - 1) (omega (arith, classes-are laid strings blob columns.method_list (omega arith) refl)) (λ q. n (sym same ∙ q)))
