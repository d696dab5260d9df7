use mathlib.Core.Path.{refl, sym, ◌∙◌}
use mathlib.Core.List.{[]}
use native.Mathlib.Omega.{arith}
use Rattle.buffers.specs.Telling as telling
use Rattle.buffers.specs.declared.Reason.TheVariants.{Untold}
use Rattle.buffers.proofs.Telling.{told_same}
use Rattle.buffers.proofs.Writing.{kept_same}
use Rattle.references.specs.Columns as columns
use Rattle.references.proofs.TypelibAnswers.{attribute-row, typelib-row, typelib-gone, typelib-found, typelib-none}
use Rattle.rows.proofs.Left.{none_left}
use Rattle.references.proofs.typelib.tell_typelib.Goals as goal

pub returns-then-count_entire-eq0 : goal.returns-then-count_entire-eq0
returns-then-count_entire-eq0 c = telling.no_row (typelib-gone c.requires _ _ (sym c.count_entire.ensures ∙ c.if-count_entire-eq0.true)) (kept_same _ _)

pub tell_guid-requires : goal.tell_guid-requires
tell_guid-requires c =
    let here = typelib-row c.requires _ [] c.find_typelib.ensures c.in-Some.is in
    record { laid = c.requires; i_bound = attribute-row c.requires columns.attribute_value (omega arith) refl _ here }

pub returns : goal.returns
returns c = told_same (typelib-found c.requires _ _ c.find_typelib.ensures c.in-Some.is) c.tell_guid.ensures

pub returns-in_default : goal.returns-in_default
returns-in_default c = telling.missing {why = Untold}
    (typelib-none c.requires _ _ c.find_typelib.ensures (λ z. c.if-count_entire-eq0.false (c.count_entire.ensures ∙ z)) (none_left c.in_default.not-Some))
    (kept_same _ _)
