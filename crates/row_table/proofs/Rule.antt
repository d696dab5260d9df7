-- The rule of the table, at each entry, and past the last kind. Assumes nothing.
use mathlib.Core.Path.{◌≡◌, sym, ap, ap₂, ◌∙◌, fun_ext}
use mathlib.Core.List.{List, []}
use Prim.Native.Nat.{ℕ, ◌+◌, ◌*◌, ◌/◌, ◌%◌, ◌<◌, ◌≤◌}
use native.Mathlib.Omega.{arith}
use lib.ListN.{get_or, get_or-eq_default}
use Rattle.numbers.specs.Lists.{tabulate}
use Rattle.numbers.proofs.Lists.{table_at, tabulate-length}
use Rattle.numbers.proofs.Pick.{by-lt}
use Rattle.layouts.specs.Columns.{Column, tables, sum_of, width_in, row_size}
use Rattle.row_table.specs.RowTable.{sizes_under, entry, row_table, TableRule}
use Rattle.row_table.proofs.Entry.{in_part}

part-is : (coded : ℕ) → coded < 8 → get_or row_table coded [] ≡ tabulate (in_part coded) 0 360
unfolding row_table
part-is coded l = table_at (λ (j : ℕ). tabulate (in_part j) 0 360) [] 8 coded l

pub table-rule : TableRule
unfolding entry
table-rule heap coded kind h l k =
    let q : (8 * kind + heap) % 8 ≡ heap = omega arith in
    let r : (8 * kind + heap) / 8 ≡ kind = omega arith in
    ap (λ (part : List ℕ). get_or part (8 * kind + heap) 0) (part-is coded l)
    ∙ table_at (in_part coded) 0 360 (8 * kind + heap) (omega arith)
    ∙ ap₂ (λ (i j : ℕ). entry i coded j) q r

-- Past the last kind there is no entry, and there are no columns.
no-columns : (kind : ℕ) → 45 ≤ kind → (f : Column → ℕ) → row_size f kind ≡ 0
unfolding row_size sum_of tables
no-columns kind h f = ap (sum_of f) (get_or-eq_default tables [] h)

pub by-table : (heap coded : ℕ) → heap < 8 → coded < 8
    → (λ (kind : ℕ). get_or (get_or row_table coded []) (8 * kind + heap) 0) ≡ row_size (width_in (sizes_under heap coded))
by-table heap coded h l = fun_ext λ kind.
    by-lt kind 45 (table-rule heap coded kind h l)
    (λ past.
    ap (λ (part : List ℕ). get_or part (8 * kind + heap) 0) (part-is coded l)
    ∙ get_or-eq_default (tabulate (in_part coded) 0 360) 0 (omega (arith, tabulate-length (in_part coded) 0 360))
    ∙ sym (no-columns kind past (width_in (sizes_under heap coded))))
