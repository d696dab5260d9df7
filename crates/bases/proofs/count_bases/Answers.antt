use native.Mathlib.Omega.{arith}
use Rattle.rows.specs.Columns as columns
use Rattle.rows.proofs.Laws.{rows-narrow}
use Rattle.bases.proofs.Laws.{never-found}
use Rattle.bases.proofs.count_bases.Goals as goal

pub push_base-based-requires : goal.push_base-based-requires
push_base-based-requires c = record { laid = c.requires.laid; lt_row = c.requires.lt_row; knows_bases = c.no_bases.ensures _ }

pub returns : goal.returns
returns c =
    let based = c.push_base-based in
    let narrow = rows-narrow c.requires.laid columns.impl_class (omega arith) in
    based.ensures.2 (never-found c.requires.laid c.args.strings.now c.args.blob.now _ c.requires.lt_row.0 _ based.result.place (omega arith) based.ensures.0)
