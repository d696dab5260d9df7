use mathlib.Core.List.{[]}
use native.Mathlib.Omega.{arith}
use Rattle.keys.proofs.Laws.{generics-found}
use Rattle.places.proofs.Values.{told-generic, told-no-generic}
use Rattle.rows.proofs.Left.{none_left}
use Rattle.places.proofs.tell_generic.Goals as goal

pub tell_string-requires : goal.tell_string-requires
tell_string-requires c = record { laid = c.requires; column_lt_count = (omega arith, (generics-found c.requires [] [] _ _ _ c.find_key.ensures c.in-Some.is).0) }

pub returns : goal.returns
returns c = λ blob.
    told-generic c.requires _ blob _ c.wide.ensures.0 c.find_key.ensures c.in-Some.is c.tell_string.ensures

pub returns-in_default : goal.returns-in_default
returns-in_default c = λ blob.
    told-no-generic c.requires _ blob _ c.wide.ensures.0 c.find_key.ensures (none_left c.in_default.not-Some)
