-- How many steps all base types of a class take at most. Assumes nothing.
use mathlib.Core.List.{List, [], ◌∷◌, map}
use Prim.Native.Nat.{ℕ, ◌+◌, ◌-◌, ◌*◌, ◌≤◌, ◌<◌}
use native.Mathlib.Nat.{le_trans, mul-suc, mul-le-mul_left}
use native.Mathlib.Omega.{arith}
use lib.ListN.{length}
use Rattle.record.specs.Readings.{total}
use Rattle.record.specs.View.{View}
use Rattle.record.specs.Names.{env, class_generics, levels, type_in, type_steps_in, base_indices, base_steps}
use Rattle.rows.specs.Columns as columns
use Rattle.rows.specs.Layout.{Laid, rows_at, view_in}
use Rattle.passing.specs.Passing.{SpecsWithin}
use Rattle.bases.proofs.Laws.{candidates-most}

total-most : (f : ℕ → ℕ) {most : ℕ} → ((i : ℕ) → f i ≤ most) → (l : List ℕ) → total (map f l) ≤ most * length l
total-most f each [] = omega arith
total-most f {most} each (x ∷ l) = omega (arith, each x, total-most f each l, mul-suc most (length l))

type-within : (v : View) (c i : ℕ) {most : ℕ} → SpecsWithin (env v (class_generics v c) []) most → type_steps_in v c i ≤ most
unfolding type_steps_in type_in
type-within v c i specs = specs levels i

-- Each no more than a TypeSpec row.
pub bases-within : {t l : List ℕ} → Laid t l → (strings blob : List ℕ) (r : ℕ) → 1 < r → {most : ℕ}
    → SpecsWithin (env (view_in t l strings blob) (class_generics (view_in t l strings blob) (r - 2)) []) most
    → base_steps (view_in t l strings blob) (r - 2) ≤ most * (rows_at l columns.impl_class + 1)
unfolding base_steps
bases-within {t} {l} laid strings blob r low {most} specs =
    let v = view_in t l strings blob in
    le_trans (total-most (type_steps_in v (r - 2)) (λ i. type-within v (r - 2) i specs) (base_indices v (r - 2)))
    (mul-le-mul_left most (candidates-most laid strings blob r low))
