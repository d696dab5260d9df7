use Rattle.std.proofs.Common.{rules, ◌≡◌, Err}
use Rattle.buffers.specs.declared.Refusal.TheVariants.{NoSuchRow}
use native.Mathlib.Omega.{arith}
use Rattle.rows.proofs.Laws.{rows-narrow}
use Rattle.places.proofs.Laws.{class-found, class-missed}
use Rattle.class_answers.proofs.Bases.{class-bases, no-class-bases}
use Rattle.rows.specs.Columns as columns
use Rattle.class_answers.proofs.count_bases_of.Goals as goal

pub class_row-requires : goal.class_row-requires
class_row-requires c = (rows-narrow c.requires columns.type_name (omega arith), c.requires.size)

pub count_bases-requires : goal.count_bases-requires
count_bases-requires c =
    let at = class-found c.class_row.ensures c.in_ok-row.ensures.ok_part in
    record { laid = c.requires; lt_row = (omega (arith, at.0), omega (arith, at.0, at.1)) }

pub returns : goal.returns
returns c = class-bases c.requires _ _ _ (class-found c.class_row.ensures c.in_ok-row.ensures.ok_part) c.count_bases.ensures

pub returns-in_err-row : goal.returns-in_err-row
returns-in_err-row c =
    let e : c.from_residual.result ≡ Err NoSuchRow = search rules in
    rw e (no-class-bases c.requires _ _ _ (class-missed c.class_row.ensures c.in_err-row.ensures.ok_part))
