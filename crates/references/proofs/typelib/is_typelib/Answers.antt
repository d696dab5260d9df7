use mathlib.Core.Path.{refl, sym, ap, ◌∙◌}
use Prim.Native.Nat.{ℕ, ◌%◌}
use native.Mathlib.Omega.{arith}
use Rattle.buffers.specs.Texts.{q}
use Rattle.record.specs.References.{is_text, attribute_name}
use Rattle.references.specs.Columns as columns
use Rattle.references.specs.Layout.{view_in}
use Rattle.references.proofs.TypelibAnswers.{attribute-row, not-assembly, by-type}
use Rattle.references.proofs.typelib.is_typelib.Goals as goal

pub read_column-parent-requires : goal.read_column-parent-requires
read_column-parent-requires c = record { laid = c.requires.laid; column_lt_count = (omega arith, attribute-row c.requires.laid columns.attribute_parent (omega arith) refl _ c.requires.i_bound) }

pub returns-then-parent-ne-ASSEMBLY_TAG : goal.returns-then-parent-ne-ASSEMBLY_TAG
returns-then-parent-ne-ASSEMBLY_TAG c blob = not-assembly c.requires.laid _ blob _ (λ z. c.if-parent-ne-ASSEMBLY_TAG.true (ap (λ (x : ℕ). x % 32) c.read_column-parent.ensures ∙ z))

pub read_column-index-requires : goal.read_column-index-requires
read_column-index-requires c = record { laid = c.requires.laid; column_lt_count = (omega arith, attribute-row c.requires.laid columns.attribute_type (omega arith) refl _ c.requires.i_bound) }

pub returns : goal.returns
returns c blob =
    let v = view_in c.args.tables.now c.args.layout.now c.args.strings.now blob in
    c.is_guid_type.ensures blob
    ∙ ap (λ i. is_text (q "GuidAttribute") (attribute_name v i)) c.read_column-index.ensures
    ∙ by-type c.requires.laid _ blob _ (sym (ap (λ (x : ℕ). x % 32) c.read_column-parent.ensures) ∙ c.if-parent-ne-ASSEMBLY_TAG.false)
