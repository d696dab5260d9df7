-- The worked cases, computed. Assumes nothing.
use mathlib.Core.Path.{◌≡◌, refl}
use mathlib.Core.Bool.{false}
use Prim.Native.Nat.{ℕ, zero, suc, ◌-◌, ◌≤◌, ◌<◌}
use native.Mathlib.Omega.{arith}
use Rattle.numbers.specs.Fixed.{le_at}
use Rattle.numbers.specs.Bits.{bit_at, ones_below}
use Rattle.header.specs.Stream.{row_count, over_limit, opened}
use Rattle.layouts.specs.Columns.{tables, reaches, index_size, heap_size, has_custom_attribute, index_sizes, sum_of, row_size}
use Rattle.numbers.specs.Lists.{tabulate}
use Rattle.tables.specs.Extents.{start_of, is_table, passes, stop_from, stop_kind, whole_rows, if_reached, walked, walk_by, extent_by, only_entire, kept_by}
use Rattle.record.specs.Readings.{times}
use Rattle.numbers.specs.Compressed.{packed, bits7, bits14, bits29, uint, unrotated, sint}
use Rattle.record.specs.Dims.{sep, signed as signed_text, dim, dims}
use Rattle.buffers.specs.Texts.{same, digits, decimal}
use Rattle.heaps.specs.Lookups.{before, string_at, bytes_at, blob_at, name, string, blob}
use Rattle.record.specs.Columns.{column}
use Rattle.record.specs.Namespaces.{cut, full_name, name_of, own_namespace}
use Rattle.record.specs.View.{other_row, view_of}
use Rattle.record.specs.Types.{look, names, simple, type_full_name, counted, method_start, arguments, shown, parameters, around, class_type, generic, shape, array, instance, fn_ptr, modified, form, within, type}
use Rattle.record.specs.Names.{classes, class_full_name, class_named, ref_full_name, spec_blob, type_in, type_name_in, type_steps_in, base_indices, base_types, base_steps}
use Rattle.record.specs.Methods.{takes, left_over, left_after, tries, signature, signature_blob, reading, read_by, read_steps, end_before, reads, readers_among, readers_from, signature_in, signature_of, steps_in, method_steps, parameter_name}
use Rattle.record.specs.Record.{method, class, class_record}
use Rattle.buffers.specs.Replies.{name_reply, name_buffer}
use Rattle.record.specs.Answers.{class_packing, class_size}
use Rattle.record.specs.Modes.{list_of}
use Rattle.record.specs.Cases.{sameℤ, is, same_answer, nowhere, unsigned, signed, rendered, all, cases, TwelveCases, more_cases, MoreCases, Limits, Buffers, whole_tables, whole_strings, WholeCase, three_tables, three_strings, three_blob, three_view, ThreeClasses, rich_tables, rich_strings, rich_blob, RichCase, cut_strings, cut_types, interfaces_ending, CutTables, layout_tables, LayoutCases, nesting, nesting_strings, NestedNames, unnamed_base, unnamed_blob, StepCases}

pub twelve : TwelveCases
unfolding cases all rendered signed unsigned nowhere is sameℤ same_answer same packed bits7 bits14 bits29 uint unrotated sint times sep digits decimal signed_text dim dims look names simple type_full_name counted method_start arguments shown parameters around class_type generic shape array instance fn_ptr modified form within type
twelve = refl

pub more : MoreCases
unfolding more_cases all rendered signed unsigned nowhere is sameℤ same_answer same packed bits7 bits14 bits29 uint unrotated sint times sep digits decimal signed_text dim dims look names simple type_full_name counted method_start arguments shown parameters around class_type generic shape array instance fn_ptr modified form within type
more = refl

pub limits : Limits
unfolding le_at bit_at ones_below row_count over_limit opened reaches index_sizes index_size heap_size has_custom_attribute tabulate
limits = record { most = refl; over = refl; narrow = refl; wide = refl }

pub buffers : Buffers
unfolding name_reply name_buffer
buffers = record { fits = (refl, refl); lacks = (refl, refl); empty = (refl, refl) }

pub whole : WholeCase
unfolding class_packing class_size whole_tables whole_strings le_at bit_at ones_below row_count over_limit opened tables reaches index_sizes index_size heap_size has_custom_attribute sum_of row_size start_of is_table passes stop_from stop_kind whole_rows if_reached walked tabulate before string_at bytes_at blob_at name string blob column walk_by extent_by only_entire kept_by cut full_name name_of own_namespace other_row view_of classes class_full_name class_named ref_full_name spec_blob type_in type_name_in base_indices base_types takes left_over left_after tries signature signature_blob reading read_by end_before reads readers_among readers_from signature_in signature_of parameter_name method class class_record packed bits7 bits14 bits29 uint unrotated sint times sep digits decimal signed_text dim dims look names simple type_full_name counted method_start arguments shown parameters around class_type generic shape array instance fn_ptr modified form within type
whole = record { stop = refl; classes = refl; packing = refl; size = refl }

pub three : ThreeClasses
unfolding three_tables three_strings three_blob le_at bit_at ones_below row_count over_limit opened tables reaches index_sizes index_size heap_size has_custom_attribute sum_of row_size start_of is_table passes stop_from stop_kind whole_rows if_reached walked tabulate before string_at bytes_at blob_at name string blob column walk_by extent_by only_entire kept_by cut full_name name_of own_namespace other_row view_of classes class_full_name class_named ref_full_name spec_blob type_in type_name_in base_indices base_types takes left_over left_after tries signature signature_blob reading read_by read_steps end_before reads readers_among readers_from signature_in signature_of steps_in method_steps parameter_name method class class_record packed bits7 bits14 bits29 uint unrotated sint times sep digits decimal signed_text dim dims look names simple type_full_name counted method_start arguments shown parameters around class_type generic shape array instance fn_ptr modified form within type
three =
    record {
      all_read = refl;
      all-steps = refl;
      taker-reads = refl;
      taker-steps = refl;
      third-fails = refl;
      taker-fails = refl;
      in_order = record { never-fall = λ c d lt h _ _. fall c d (omega arith) h; never-pass = λ c h _. omega (arith, most c h) };
    }
  where
    most : (c : ℕ) → c < 3 → list_of (three_view false 5 8) c - 1 ≤ 4
    most zero h = omega arith
    most (suc zero) h = omega arith
    most (suc (suc zero)) h = omega arith
    most (suc (suc (suc c))) h = absurd (omega arith)

    fall : (c d : ℕ) → c < d → d < 3 → list_of (three_view false 5 8) c - 1 ≤ list_of (three_view false 5 8) d - 1
    fall c zero lt h = absurd (omega arith)
    fall c (suc zero) lt h = let z : c ≡ 0 = omega arith in rw z (omega arith)
    fall c (suc (suc zero)) lt h = most c (omega arith)
    fall c (suc (suc (suc d))) lt h = absurd (omega arith)

pub rich : RichCase
unfolding rich_tables rich_strings rich_blob le_at bit_at ones_below row_count over_limit opened tables reaches index_sizes index_size heap_size has_custom_attribute sum_of row_size start_of is_table passes stop_from stop_kind whole_rows if_reached walked tabulate before string_at bytes_at blob_at name string blob column walk_by extent_by only_entire kept_by cut full_name name_of own_namespace other_row view_of classes class_full_name class_named ref_full_name spec_blob type_in type_name_in base_indices base_types takes left_over left_after tries signature signature_blob reading read_by end_before reads readers_among readers_from signature_in signature_of parameter_name method class class_record packed bits7 bits14 bits29 uint unrotated sint times sep digits decimal signed_text dim dims look names simple type_full_name counted method_start arguments shown parameters around class_type generic shape array instance fn_ptr modified form within type
rich = refl

pub cut-tables : CutTables
unfolding cut_strings cut_types interfaces_ending le_at bit_at ones_below row_count over_limit opened tables reaches index_sizes index_size heap_size has_custom_attribute sum_of row_size start_of is_table passes stop_from stop_kind whole_rows if_reached walked tabulate before string_at bytes_at blob_at name string blob column walk_by extent_by only_entire kept_by cut full_name name_of own_namespace other_row view_of classes class_full_name class_named ref_full_name spec_blob type_in type_name_in base_indices base_types takes left_over left_after tries signature signature_blob reading read_by end_before reads readers_among readers_from signature_in signature_of parameter_name method class class_record packed bits7 bits14 bits29 uint unrotated sint times sep digits decimal signed_text dim dims look names simple type_full_name counted method_start arguments shown parameters around class_type generic shape array instance fn_ptr modified form within type
cut-tables = record { types = refl; entire = refl; cut = refl }

pub layout-cases : LayoutCases
unfolding cut_strings layout_tables le_at bit_at ones_below row_count over_limit opened tables reaches index_sizes index_size heap_size has_custom_attribute sum_of row_size start_of is_table passes stop_from stop_kind whole_rows if_reached walked tabulate before string_at bytes_at blob_at name string blob column walk_by extent_by only_entire kept_by cut full_name name_of own_namespace other_row view_of classes class_full_name class_named ref_full_name spec_blob type_in type_name_in base_indices base_types takes left_over left_after tries signature signature_blob reading read_by end_before reads readers_among readers_from signature_in signature_of parameter_name method class class_record packed bits7 bits14 bits29 uint unrotated sint times sep digits decimal signed_text dim dims look names simple type_full_name counted method_start arguments shown parameters around class_type generic shape array instance fn_ptr modified form within type
layout-cases = record { largest = refl; cut = refl; zeros = refl; nobody = refl }

pub nested-names : NestedNames
unfolding nesting nesting_strings le_at bit_at ones_below row_count over_limit opened tables reaches index_sizes index_size heap_size has_custom_attribute sum_of row_size start_of is_table passes stop_from stop_kind whole_rows if_reached walked tabulate before string_at bytes_at blob_at name string blob column walk_by extent_by only_entire kept_by cut full_name name_of own_namespace other_row view_of classes class_full_name class_named ref_full_name spec_blob type_in type_name_in base_indices base_types takes left_over left_after tries signature signature_blob reading read_by end_before reads readers_among readers_from signature_in signature_of parameter_name method class class_record packed bits7 bits14 bits29 uint unrotated sint times sep digits decimal signed_text dim dims look names simple type_full_name counted method_start arguments shown parameters around class_type generic shape array instance fn_ptr modified form within type
nested-names = record { outward = refl; inward = refl; cycle = refl; self = refl; idle = refl; gone = refl }

pub step-cases : StepCases
unfolding cut_strings unnamed_base unnamed_blob le_at bit_at ones_below row_count over_limit opened tables reaches index_sizes index_size heap_size has_custom_attribute sum_of row_size start_of is_table passes stop_from stop_kind whole_rows if_reached walked tabulate before string_at bytes_at blob_at name string blob column walk_by extent_by only_entire kept_by cut full_name name_of own_namespace other_row view_of classes class_full_name class_named ref_full_name spec_blob type_in type_name_in base_indices base_types type_steps_in base_steps takes left_over left_after tries signature signature_blob reading read_by end_before reads readers_among readers_from read_steps method_steps parameter_name method class class_record packed bits7 bits14 bits29 uint unrotated sint times sep digits decimal signed_text dim dims look names simple type_full_name counted method_start arguments shown parameters around class_type generic shape array instance fn_ptr modified form within type
step-cases = record { bases = refl; counted = refl }
