-- TypeDef rows (ECMA-335 II.22.37) and classes (document 01, "Classes"; `parse_type_defs`, which passes over the first row).
use Rattle.std.specs.Prelude.{◌≡◌, cond, ℕ, ◌+◌, ◌*◌, ◌-◌, leb}
use Rattle.classes.specs.declared.TypeDefRow.{TypeDefRow}
use Rattle.classes.specs.declared.ClassNumber.{ClassNumber}

-- Class c is row c + 2, where a row has such a number.
unfoldable pub row_of : ClassNumber → TypeDefRow
row_of c = cond (leb (c.0 + 2) 0xFFFF_FFFF) (record { 0 = c.0 + 2 }) (record { 0 = 0 })

-- The class of a row from the second on.
abbrev pub class_of : TypeDefRow → ℕ
class_of r = r.0 - 2

-- The row of class c stands behind the first one, which is no class's, and c others.
abbrev pub place_of : ClassNumber → ℕ
place_of c = c.0 + 1

abbrev pub class_at : ℕ → ClassNumber
class_at place = record { 0 = place - 1 }

-- There and back.
abbrev pub RoundTrip : Type 0
RoundTrip = (c : ClassNumber) → class_at (place_of c) ≡ c

-- GenericParam means a class by an index whose low bit is 0 and whose other bits are its row (II.24.2.6, TypeOrMethodDef).
abbrev pub owner_of : ClassNumber → ℕ
owner_of c = 2 * (c.0 + 2)
