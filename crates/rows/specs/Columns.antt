-- Where the numbers of a layout (Layout.antt) stand, under the names and in the order of src/columns.rt: the columns that are read, in
-- the order of `read_columns`, and what is behind their numbers.
use Rattle.std.specs.Prelude.{ℕ, ◌+◌, ◌*◌}
use Rattle.layouts.specs.Read.{read_count}

-- TypeRef, II.22.38
abbrev pub ref_name : ℕ
ref_name = 0

abbrev pub ref_namespace : ℕ
ref_namespace = 1

-- TypeDef, II.22.37
abbrev pub type_flags : ℕ
type_flags = 2

abbrev pub type_name : ℕ
type_name = 3

abbrev pub type_namespace : ℕ
type_namespace = 4

abbrev pub extends : ℕ
extends = 5

abbrev pub method_list : ℕ
method_list = 6

-- MethodDef, II.22.26
abbrev pub method_flags : ℕ
method_flags = 7

abbrev pub method_name : ℕ
method_name = 8

abbrev pub method_signature : ℕ
method_signature = 9

abbrev pub param_list : ℕ
param_list = 10

-- Param, II.22.33
abbrev pub param_name : ℕ
param_name = 11

-- InterfaceImpl, II.22.23
abbrev pub impl_class : ℕ
impl_class = 12

abbrev pub impl_interface : ℕ
impl_interface = 13

-- TypeSpec, II.22.39
abbrev pub spec_signature : ℕ
spec_signature = 14

-- NestedClass, II.22.32
abbrev pub nested : ℕ
nested = 15

abbrev pub enclosing : ℕ
enclosing = 16

-- GenericParam, II.22.20
abbrev pub owner : ℕ
owner = 17

abbrev pub generic_name : ℕ
generic_name = 18

-- ClassLayout, II.22.8
abbrev pub packing_size : ℕ
packing_size = 19

abbrev pub class_size : ℕ
class_size = 20

abbrev pub layout_parent : ℕ
layout_parent = 21

-- How many columns there are.
abbrev pub count : ℕ
count = read_count

-- The layout has so many numbers for each: where the column stands in the table's first row, in two words, the lower one first,
abbrev pub numbers : ℕ
numbers = 5

abbrev pub start_high : ℕ
start_high = 1

-- how far it is to the next row, its bytes, and how many rows are kept.
abbrev pub step : ℕ
step = 2

abbrev pub width : ℕ
width = 3

abbrev pub rows : ℕ
rows = 4

-- A word holds less than this.
abbrev pub word : ℕ
word = 4_294_967_296

-- Behind those stand the options that the stream was opened with: the limit of rows, whether DeclSecurity counts, and whether the class
-- that takes a method is the only one to read its signature;
abbrev pub limit : ℕ
limit = numbers * count

abbrev pub security : ℕ
security = limit + 1

abbrev pub taker : ℕ
taker = security + 1

-- and a mark: 1 where METHOD_LIST is known to ascend.
abbrev pub mark : ℕ
mark = taker + 1

-- Then, for each column by which rows are held, where in the layout the words of its memory begin, and how many there are.
abbrev pub held : ℕ
held = mark + 1

abbrev pub held_numbers : ℕ
held_numbers = 2

abbrev pub held_words : ℕ
held_words = 1

-- These are OWNER, IMPL_CLASS, NESTED and LAYOUT_PARENT.
abbrev pub by_owner : ℕ
by_owner = 0

abbrev pub by_class : ℕ
by_class = 1

abbrev pub by_nested : ℕ
by_nested = 2

abbrev pub by_parent : ℕ
by_parent = 3

abbrev pub held_count : ℕ
held_count = 4

abbrev pub size : ℕ
size = held + held_numbers * held_count
