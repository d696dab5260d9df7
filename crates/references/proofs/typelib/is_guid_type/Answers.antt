use mathlib.Core.Path.{refl, sym, ap, ◌∙◌}
use mathlib.Core.List.{[]}
use native.Mathlib.Omega.{arith}
use Rattle.buffers.specs.Texts.{q}
use Rattle.heaps.specs.Lookups.{string}
use Rattle.record.specs.References.{member_ref_tag, type_ref_tag, is_text}
use Rattle.references.specs.Columns as columns
use Rattle.references.specs.Search.{tagged_row}
use Rattle.references.proofs.TypelibAnswers.{tagged-row, tagged-there, tagged-gone, name-there, name-no-type, name-no-member}
use Rattle.rows.proofs.Left.{none_left}
use Rattle.references.proofs.typelib.is_guid_type.Goals as goal

pub read_column-class-requires : goal.read_column-class-requires
read_column-class-requires c = record { laid = c.requires; column_lt_count = (omega arith, tagged-row c.requires [] [] columns.member_class (omega arith) refl _ _ c.tagged_row.ensures c.in-Some.is) }

pub read_column-name-requires : goal.read_column-name-requires
read_column-name-requires c = record { laid = c.requires; column_lt_count = (omega arith, tagged-row c.requires [] [] columns.ref_name (omega arith) refl _ _ c.tagged_row-2.ensures c.in-Some-tagged_row.is) }

pub returns : goal.returns
returns c blob =
    let says = c.tagged_row-2.ensures ∙ ap (tagged_row _ type_ref_tag) c.read_column-class.ensures in
    c.is_guid_attribute.ensures
    ∙ ap (λ i. is_text (q "GuidAttribute") (string c.args.strings.now i)) c.read_column-name.ensures
    ∙ ap (is_text (q "GuidAttribute"))
    (sym (name-there c.requires _ blob _ _ _
    (tagged-there c.requires _ blob columns.member_class (omega arith) refl member_ref_tag _ c.tagged_row.ensures c.in-Some.is)
    (tagged-there c.requires _ blob columns.ref_name (omega arith) refl type_ref_tag _ says c.in-Some-tagged_row.is)))

pub returns-in_default-tagged_row : goal.returns-in_default-tagged_row
returns-in_default-tagged_row c blob =
    let says = c.tagged_row-2.ensures ∙ ap (tagged_row _ type_ref_tag) c.read_column-class.ensures in
    ap (is_text (q "GuidAttribute"))
    (sym (name-no-type c.requires _ blob _ _
    (tagged-there c.requires _ blob columns.member_class (omega arith) refl member_ref_tag _ c.tagged_row.ensures c.in-Some.is)
    (tagged-gone c.requires _ blob columns.ref_name (omega arith) refl type_ref_tag _ says (none_left c.in_default-tagged_row.not-Some))))

pub returns-in_default : goal.returns-in_default
returns-in_default c blob = ap (is_text (q "GuidAttribute"))
    (sym (name-no-member c.requires _ blob _
    (tagged-gone c.requires _ blob columns.member_class (omega arith) refl member_ref_tag _ c.tagged_row.ensures (none_left c.in_default.not-Some))))
