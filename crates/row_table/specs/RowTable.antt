-- The row sizes by table: 45 kinds under 64 settings of widths.
use Rattle.std.specs.Prelude.{◌≡◌, List, [], ℕ, ◌+◌, ◌*◌, ◌/◌, ◌%◌, ◌<◌, get_or}
use Rattle.numbers.specs.Bits.{bit_at}
use Rattle.numbers.specs.Lists.{tabulate}
use Rattle.layouts.specs.declared.IndexSizes.{IndexSizes}
use Rattle.layouts.specs.Columns.{width_in, row_size}

-- The sizes of indices under a setting: bits 0 to 2 of heap are those of strings, GUIDs and blobs, and bits 0 to 2 of coded those of
-- HasCustomAttribute, MemberRefParent and CustomAttributeType. Every other index has 2 bytes.
unfoldable pub sizes_under : ℕ → ℕ → IndexSizes
sizes_under heap coded =
    record {
      string = 2 + 2 * bit_at heap 0;
      guid = 2 + 2 * bit_at heap 1;
      blob = 2 + 2 * bit_at heap 2;
      has_custom_attribute = 2 + 2 * bit_at coded 0;
      member_ref_parent = 2 + 2 * bit_at coded 1;
      custom_attribute_type = 2 + 2 * bit_at coded 2;
      type_def = 2;
      field = 2;
      method_def = 2;
      param = 2;
      event = 2;
      property = 2;
      module_ref = 2;
      assembly_ref = 2;
      generic_param = 2;
      type_def_or_ref = 2;
      has_constant = 2;
      has_field_marshall = 2;
      has_decl_security = 2;
      has_semantics = 2;
      method_def_or_ref = 2;
      member_forwarded = 2;
      implementation = 2;
      resolution_scope = 2;
      type_or_method_def = 2;
    }

-- The entry of a kind under a setting: the sum of its columns.
unfoldable pub entry : ℕ → ℕ → ℕ → ℕ
entry heap coded kind = row_size (width_in (sizes_under heap coded)) kind

-- A part for each setting of the coded bits; in it, for each kind its 8 entries by the heap bits.
unfoldable pub row_table : List (List ℕ)
row_table = tabulate (λ coded. tabulate (λ i. entry (i % 8) coded (i / 8)) 0 360) 0 8

-- The rule: every entry is the sum of its kind's columns.
abbrev pub TableRule : Type 0
TableRule =
    (heap coded kind : ℕ) → heap < 8 → coded < 8 → kind < 45
    → get_or (get_or row_table coded []) (8 * kind + heap) 0 ≡ row_size (width_in (sizes_under heap coded)) kind
