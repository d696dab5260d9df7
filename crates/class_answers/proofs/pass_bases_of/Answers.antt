use native.Mathlib.Omega.{arith}
use Rattle.rows.proofs.Laws.{rows-narrow}
use Rattle.places.proofs.Laws.{class-found, class-missed}
use Rattle.class_answers.proofs.Bases.{class-takes, no-class-takes}
use Rattle.rows.specs.Columns as columns
use Rattle.class_answers.proofs.pass_bases_of.Goals as goal

pub class_row-requires : goal.class_row-requires
class_row-requires c = (rows-narrow c.requires columns.type_name (omega arith), c.requires.size)

pub pass_bases-requires : goal.pass_bases-requires
pass_bases-requires c =
    let at = class-found c.class_row.ensures c.in-Some.is in
    record { laid = c.requires; lt_row = (omega (arith, at.0), omega (arith, at.0, at.1)) }

pub returns : goal.returns
returns c = class-takes c.requires _ _ _ (class-found c.class_row.ensures c.in-Some.is) c.pass_bases.ensures

pub returns-in_default : goal.returns-in_default
returns-in_default c = no-class-takes c.requires _ _ _ (class-missed c.class_row.ensures c.in_default.is) _
