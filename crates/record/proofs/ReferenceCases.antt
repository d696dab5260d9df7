-- The worked cases of the references, computed. Assumes nothing.
use mathlib.Core.Path.{refl}
use Rattle.numbers.specs.Fixed.{le_at}
use Rattle.numbers.specs.Bits.{bit_at, ones_below}
use Rattle.numbers.specs.Lists.{tabulate}
use Rattle.numbers.specs.Compressed.{packed, bits7, bits14, bits29, uint}
use Rattle.buffers.specs.Texts.{same}
use Rattle.heaps.specs.Lookups.{before, string_at, bytes_at, blob_at, name, string, blob}
use Rattle.header.specs.Stream.{row_count, over_limit, opened}
use Rattle.layouts.specs.Columns.{tables, reaches, index_size, heap_size, has_custom_attribute, index_sizes, sum_of, row_size}
use Rattle.tables.specs.Extents.{start_of, is_table, passes, stop_from, stop_kind, whole_rows, if_reached, walked, walk_by, extent_by, only_entire, kept_by}
use Rattle.record.specs.Columns.{column}
use Rattle.record.specs.View.{other_row, view_of}
use Rattle.record.specs.References.{entire_rows, entire_table, module_of, assembly_in, assembly_of, module_refs_of, not_empty, assembly_ref_in, assembly_refs_of, constant_text, constant_in, constants_of, tagged, attribute_name, is_typelib, guid_text, typelib_in, typelib_of, references}
use Rattle.record.specs.Answers.{module_name, module_ref_count, assembly_name, assembly_version, assembly_ref_count, constant_count, typelib}
use Rattle.record.specs.ReferenceCases.{reference_tables, reference_strings, reference_blob, ReferenceCase, two_assemblies, CutAssembly, constant_tables, ConstantCases, attribute_tables, TypelibCases}

pub reference-case : ReferenceCase
unfolding reference_tables reference_strings reference_blob module_name module_ref_count assembly_name assembly_version assembly_ref_count constant_count typelib le_at bit_at ones_below row_count over_limit opened tables reaches index_sizes index_size heap_size has_custom_attribute sum_of row_size start_of is_table passes stop_from stop_kind whole_rows if_reached walked tabulate column walk_by extent_by only_entire kept_by other_row view_of entire_rows entire_table before string_at bytes_at blob_at name string blob packed bits7 bits14 bits29 uint same module_of assembly_in assembly_of module_refs_of not_empty assembly_ref_in assembly_refs_of constant_text constant_in constants_of tagged attribute_name is_typelib guid_text typelib_in typelib_of references
reference-case =
    record {
      whole = refl;
      cut-refs = refl;
      still-there = refl;
      cut-assembly = refl;
      two-modules = refl;
      cut-attributes = refl;
      three-constants = refl;
      module-name = refl;
      no_part = refl;
    }

pub cut-assembly : CutAssembly
unfolding two_assemblies assembly_version le_at bit_at ones_below row_count over_limit opened tables reaches index_sizes index_size heap_size has_custom_attribute sum_of row_size start_of is_table passes stop_from stop_kind whole_rows if_reached walked tabulate column walk_by extent_by only_entire kept_by other_row view_of entire_rows entire_table before string_at bytes_at blob_at name string blob packed bits7 bits14 bits29 uint same assembly_in assembly_of references
cut-assembly = record { first = refl; none = refl }

pub constant-cases : ConstantCases
unfolding constant_tables le_at bit_at ones_below row_count over_limit opened tables reaches index_sizes index_size heap_size has_custom_attribute sum_of row_size start_of is_table passes stop_from stop_kind whole_rows if_reached walked tabulate column walk_by extent_by only_entire kept_by other_row view_of entire_rows entire_table before string_at bytes_at blob_at name string blob packed bits7 bits14 bits29 uint same constant_text constant_in constants_of
constant-cases = record { not-looked-up = refl; no-heap = refl; two_bytes = refl; no_table = refl }

pub typelib-cases : TypelibCases
unfolding attribute_tables le_at bit_at ones_below row_count over_limit opened tables reaches index_sizes index_size heap_size has_custom_attribute sum_of row_size start_of is_table passes stop_from stop_kind whole_rows if_reached walked tabulate column walk_by extent_by only_entire kept_by other_row view_of entire_rows entire_table before string_at bytes_at blob_at name string blob packed bits7 bits14 bits29 uint same tagged attribute_name is_typelib guid_text typelib_in typelib_of
typelib-cases =
    record {
      stops = refl;
      passes = refl;
      longer = refl;
      shorter = refl;
      longest = refl;
      null = refl;
      empty = refl;
      short = refl;
      other = refl;
      lacks = refl;
      behind = refl;
    }
