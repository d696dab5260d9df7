-- The candidates for the base types of a class (ECMA-335 II.22.37, II.22.23; `finalize`): TypeDefOrRef indices, of which those with a name
-- are its base types.
use Rattle.std.specs.Prelude.{◌≡◌, List, map, ℕ, ◌-◌, ◌<◌, ◌≤◌, length, take, Some, None}
use Rattle.std.proofs.Math.Option.{none, some}
use Rattle.std.proofs.Math.ListN.{get_elem?}
use Rattle.buffers.specs.Texts.{Text}
use Rattle.record.specs.Missing.{present}
use Rattle.record.specs.View.{View}
use Rattle.record.specs.Names.{base_indices, type_name_in}
use Rattle.rows.specs.Columns as columns
use Rattle.rows.specs.Layout.{cell, rows_at, view_in}
use Rattle.rows.specs.Held.{keyed}
use Rattle.bases.specs.declared.Bases.{Bases}
use Rattle.std.specs.declared.option.Option as std

-- A candidate and the place of InterfaceImpl behind its row, as the code has them.
abbrev pub Candidate : Type 0
Candidate = std.Option (ℕ × ℕ)

-- The base types among the first n of them.
unfoldable pub bases_among : View → ℕ → ℕ → List Text
bases_among v c n = present (map (type_name_in v c) (take n (base_indices v c)))

-- What is known of a class's base types is true of the view; of row 0 it says nothing.
pub record KnowsBases (v : View) (k : Bases) : Type 0 where
  pub counted : 0 < k.row → k.seen ≡ length (bases_among v (k.row - 2) k.tried)

-- r is candidate i of the class at TypeDef row `row`, and a place of InterfaceImpl before which i rows are the class's own; or there is
-- no such candidate.
pub data CandidateIs (t l strings blob : List ℕ) (row i : ℕ) : Candidate → Type 0 where
  index : {x after : ℕ} → get_elem? (base_indices (view_in t l strings blob) (row - 2)) i ≡ some x
      → after ≤ rows_at l columns.impl_class → i ≡ keyed (cell t l columns.impl_class) row after
      → CandidateIs t l strings blob row i (Some (x, after))
  past : get_elem? (base_indices (view_in t l strings blob) (row - 2)) i ≡ none → CandidateIs t l strings blob row i None
