use native.Mathlib.Omega.{arith}
use mathlib.Core.Path.{refl}
use mathlib.Core.List.{[]}
use Rattle.rows.specs.Columns as columns
use Rattle.rows.proofs.Laws.{same_rows}
use Rattle.keys.proofs.Laws.{interfaces-found}
use Rattle.bases.proofs.Laws.{candidate-extended, candidate-own, candidate-past}
use Rattle.std.specs.Prelude.{None}
use Rattle.bases.proofs.candidate_at.Goals as goal

pub read_column-extended-requires-clause-column_lt_count : goal.read_column-extended-requires-clause-column_lt_count
read_column-extended-requires-clause-column_lt_count c =
    let known = c.requires.lt_row in
    (omega arith, omega (arith, c.wide-place.ensures.0, known.0, known.1, same_rows c.requires.laid columns.type_name columns.extends (omega arith) (omega arith) refl))

pub returns-then-i-eq0 : goal.returns-then-i-eq0
returns-then-i-eq0 c = λ strings blob.
    candidate-extended c.requires.laid strings blob _ c.requires.lt_row.0 _ c.requires.lt_row.1 c.if-i-eq0.true (omega (arith, c.wide-place.ensures.0)) c.read_column-extended.ensures

pub returns-in_err-own : goal.returns-in_err-own
returns-in_err-own c = λ strings blob.
    rw c.from_residual.ensures (candidate-past c.requires.laid strings blob _ c.requires.lt_row.0 _ None c.if-i-eq0.false c.wide.ensures.0 refl
    c.in_err-own.ensures refl)

pub read_column-interface-requires-clause-column_lt_count : goal.read_column-interface-requires-clause-column_lt_count
read_column-interface-requires-clause-column_lt_count c = (omega arith, (interfaces-found c.requires.laid [] [] _ _ _ c.in_ok-own.ensures refl).1)

pub returns : goal.returns
returns c = λ strings blob.
    candidate-own c.requires.laid strings blob _ c.requires.lt_row.0 _ _ c.if-i-eq0.false c.wide.ensures.0 refl
    c.in_ok-own.ensures _ refl c.read_column-interface.ensures
