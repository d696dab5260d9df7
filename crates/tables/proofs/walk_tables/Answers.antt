use Rattle.std.proofs.Common.{◌≡◌, ℕ, ◌∙◌, List, [], map, get_or, arith, rules}
use Rattle.layouts.specs.Columns.{tables, width_in, sum_of, row_size}
use Rattle.layouts.specs.declared.IndexSizes.{IndexSizes}
use Rattle.layouts.proofs.Lists.{map_at}
use Rattle.tables.proofs.walk_tables.Goals as goal

-- A row size that the code found is that of the definition, also past the last known table.
size-is : (w : IndexSizes) (sizes : List ℕ) → sizes ≡ map (sum_of (width_in w)) tables → (k : ℕ) → get_or sizes k 0 ≡ row_size (width_in w) k
unfolding row_size sum_of
size-is w sizes e k = rw e (map_at (sum_of (width_in w)) [] tables k)

pub walk_sized-requires-clause-some : goal.walk_sized-requires-clause-some
walk_sized-requires-clause-some c = λ k r h e.
    let is = size-is _ _ c.row_sizes-row_sizes.ensures k in
    let r-is : r ≡ get_or c.row_sizes-row_sizes.result k 0 = search rules in
    omega (arith, c.requires.by_index k h, is, r-is)

pub returns : goal.returns
returns c = c.walk_sized.ensures (row_size (width_in c.args.index_sizes)) (λ k r h e.
    let r-is : r ≡ get_or c.row_sizes-row_sizes.result k 0 = search rules in
    r-is ∙ size-is _ _ c.row_sizes-row_sizes.ensures k)
