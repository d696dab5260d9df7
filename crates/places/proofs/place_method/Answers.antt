use mathlib.Core.Path.{refl}
use native.Mathlib.Omega.{arith}
use Rattle.rows.specs.Columns as columns
use Rattle.rows.proofs.Laws.{rows-narrow, same_rows}
use Rattle.places.proofs.Laws.{class-found, class-missed, listed, unlisted, owned-range, method-none}
use Rattle.rows.proofs.Left.{none_left}
use Rattle.places.proofs.place_method.Goals as goal

pub class_row-requires : goal.class_row-requires
class_row-requires c = (rows-narrow c.requires columns.type_name (omega arith), c.requires.size)

pub own_methods-own-requires : goal.own_methods-own-requires
own_methods-own-requires c =
    let at = class-found c.class_row.ensures c.in-Some.is in
    record { laid = c.requires; lt_row = (omega (arith, at.0), omega (arith, at.0, at.1, same_rows c.requires columns.type_name columns.method_list (omega arith) (omega arith) refl)) }

pub returns : goal.returns
returns c = λ strings blob known.
    let at = class-found c.class_row.ensures c.in-Some.is in
    let own = c.own_methods-own.ensures in
    let owns = own.1 strings blob known in
    (c.own_method-place.ensures _ _ (listed c.requires strings blob _ at.1) (owned-range owns own.0 at.0), owns)

pub returns-in_default : goal.returns-in_default
returns-in_default c = λ strings blob known.
    (method-none _ _ _ (unlisted c.requires strings blob _ (class-missed c.class_row.ensures (none_left c.in_default.not-Some))), known)
