use native.Mathlib.Omega.{arith}
use Rattle.rows.specs.Columns as columns
use Rattle.rows.proofs.Laws.{rows-narrow}
use Rattle.places.proofs.Laws.{class-found, class-missed}
use Rattle.class_answers.proofs.Bases.{class-base, no-class-base}
use Rattle.class_answers.proofs.tell_base_name.Goals as goal

pub class_row-requires : goal.class_row-requires
class_row-requires c = (rows-narrow c.requires.laid columns.type_name (omega arith), c.requires.laid.size)

pub push_base-based-requires : goal.push_base-based-requires
push_base-based-requires c =
    let at = class-found c.class_row.ensures c.in-Some.is in
    record { laid = c.requires.laid; lt_row = (omega (arith, at.0), omega (arith, at.0, at.1)); knows_bases = c.requires.knows_bases }

pub returns : goal.returns
returns c =
    let pushed = c.push_base-based.ensures in (
      class-base c.requires.laid _ _ _ (class-found c.class_row.ensures c.in-Some.is) _ (c.told_base.ensures _ _ _ _ pushed.0),
      pushed.1,
    )

pub returns-in_default : goal.returns-in_default
returns-in_default c = (no-class-base c.requires.laid _ _ _ (class-missed c.class_row.ensures c.in_default.is) _ _ _, c.requires.knows_bases)
