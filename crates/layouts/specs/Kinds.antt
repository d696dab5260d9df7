-- The numbers of the tables (ECMA-335 II.22). Seven more are known from the CLR, and no section of the standard names them.
use Rattle.std.specs.Prelude.{ℕ}

-- II.22.30
abbrev pub the_module : ℕ
the_module = 0x00

-- II.22.38
abbrev pub type_ref : ℕ
type_ref = 0x01

-- II.22.37
abbrev pub type_def : ℕ
type_def = 0x02

-- undocumented, CLR
abbrev pub field_ptr : ℕ
field_ptr = 0x03

-- II.22.15
abbrev pub field : ℕ
field = 0x04

-- undocumented, CLR
abbrev pub method_ptr : ℕ
method_ptr = 0x05

-- II.22.26
abbrev pub method_def : ℕ
method_def = 0x06

-- undocumented, CLR
abbrev pub param_ptr : ℕ
param_ptr = 0x07

-- II.22.33
abbrev pub param : ℕ
param = 0x08

-- II.22.23
abbrev pub interface_impl : ℕ
interface_impl = 0x09

-- II.22.25
abbrev pub member_ref : ℕ
member_ref = 0x0A

-- II.22.9
abbrev pub constant : ℕ
constant = 0x0B

-- II.22.10
abbrev pub custom_attribute : ℕ
custom_attribute = 0x0C

-- II.22.17
abbrev pub field_marshal : ℕ
field_marshal = 0x0D

-- II.22.11
abbrev pub decl_security : ℕ
decl_security = 0x0E

-- II.22.8
abbrev pub class_layout : ℕ
class_layout = 0x0F

-- II.22.16
abbrev pub field_layout : ℕ
field_layout = 0x10

-- II.22.36
abbrev pub stand_alone_sig : ℕ
stand_alone_sig = 0x11

-- II.22.12
abbrev pub event_map : ℕ
event_map = 0x12

-- undocumented, CLR
abbrev pub event_ptr : ℕ
event_ptr = 0x13

-- II.22.13
abbrev pub event : ℕ
event = 0x14

-- II.22.35
abbrev pub property_map : ℕ
property_map = 0x15

-- undocumented, CLR
abbrev pub property_ptr : ℕ
property_ptr = 0x16

-- II.22.34
abbrev pub property : ℕ
property = 0x17

-- II.22.28
abbrev pub method_semantics : ℕ
method_semantics = 0x18

-- II.22.27
abbrev pub method_impl : ℕ
method_impl = 0x19

-- II.22.31
abbrev pub module_ref : ℕ
module_ref = 0x1A

-- II.22.39
abbrev pub type_spec : ℕ
type_spec = 0x1B

-- II.22.22
abbrev pub impl_map : ℕ
impl_map = 0x1C

-- II.22.18
abbrev pub field_rva : ℕ
field_rva = 0x1D

-- undocumented, CLR
abbrev pub enc_log : ℕ
enc_log = 0x1E

-- undocumented, CLR
abbrev pub enc_map : ℕ
enc_map = 0x1F

-- II.22.2
abbrev pub assembly : ℕ
assembly = 0x20

-- II.22.4
abbrev pub assembly_processor : ℕ
assembly_processor = 0x21

-- II.22.3
abbrev pub assembly_os : ℕ
assembly_os = 0x22

-- II.22.5
abbrev pub assembly_ref : ℕ
assembly_ref = 0x23

-- II.22.7
abbrev pub assembly_ref_processor : ℕ
assembly_ref_processor = 0x24

-- II.22.6
abbrev pub assembly_ref_os : ℕ
assembly_ref_os = 0x25

-- II.22.19
abbrev pub file : ℕ
file = 0x26

-- II.22.14
abbrev pub exported_type : ℕ
exported_type = 0x27

-- II.22.24
abbrev pub manifest_resource : ℕ
manifest_resource = 0x28

-- II.22.32
abbrev pub nested_class : ℕ
nested_class = 0x29

-- II.22.20
abbrev pub generic_param : ℕ
generic_param = 0x2A

-- II.22.29
abbrev pub method_spec : ℕ
method_spec = 0x2B

-- II.22.21
abbrev pub generic_param_constraint : ℕ
generic_param_constraint = 0x2C
