-- Where the numbers of the references' layout (Layout.antt) stand, under the names and in the order of src/columns.rt: the columns that are
-- read, in the order of `reference_columns`, and what is behind their numbers. The numbers of a column have the form that they have in `rows`.
use Rattle.std.specs.Prelude.{ℕ, ◌+◌, ◌*◌}
use Rattle.layouts.specs.Read.{reference_count}
use Rattle.rows.specs.Columns as form

-- Module, II.22.30
abbrev pub module_name : ℕ
module_name = 0

-- TypeRef, II.22.38
abbrev pub ref_name : ℕ
ref_name = 1

-- MemberRef, II.22.25
abbrev pub member_class : ℕ
member_class = 2

-- Constant, II.22.9
abbrev pub constant_type : ℕ
constant_type = 3

abbrev pub constant_value : ℕ
constant_value = 4

-- CustomAttribute, II.22.10
abbrev pub attribute_parent : ℕ
attribute_parent = 5

abbrev pub attribute_type : ℕ
attribute_type = 6

abbrev pub attribute_value : ℕ
attribute_value = 7

-- ModuleRef, II.22.31
abbrev pub module_ref_name : ℕ
module_ref_name = 8

-- Assembly, II.22.2: the first of the four columns of its version, its name and its culture
abbrev pub assembly_version : ℕ
assembly_version = 9

abbrev pub assembly_name : ℕ
assembly_name = 13

abbrev pub assembly_culture : ℕ
assembly_culture = 14

-- AssemblyRef, II.22.5: the first of the four columns of its version, its public key or token and its name
abbrev pub assembly_ref_version : ℕ
assembly_ref_version = 15

abbrev pub assembly_ref_key : ℕ
assembly_ref_key = 19

abbrev pub assembly_ref_name : ℕ
assembly_ref_name = 20

-- How many columns there are, and how many numbers each has.
abbrev pub count : ℕ
count = reference_count

abbrev pub numbers : ℕ
numbers = form.numbers

-- Behind those stand the options that the stream was opened with,
abbrev pub limit : ℕ
limit = numbers * count

abbrev pub security : ℕ
security = limit + 1

abbrev pub taker : ℕ
taker = security + 1

-- and how many rows the tables Constant, CustomAttribute, ModuleRef and AssemblyRef have, where they are read whole.
abbrev pub constants : ℕ
constants = taker + 1

abbrev pub attributes : ℕ
attributes = constants + 1

abbrev pub module_refs : ℕ
module_refs = attributes + 1

abbrev pub assembly_refs : ℕ
assembly_refs = module_refs + 1

abbrev pub size : ℕ
size = assembly_refs + 1
