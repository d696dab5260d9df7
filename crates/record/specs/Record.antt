-- The class record: for each class in order the values from its `class=` line on, uncut, missing told from empty; the names of classes,
-- methods and generic parameters also tell why they are missing. A function of the view.
use Rattle.std.specs.Prelude.{List, [], ◌∷◌, ℕ, ◌+◌, ◌-◌}
use Rattle.std.proofs.Math.Option.{Option}
use Rattle.numbers.specs.Lists.{tabulate}
use Rattle.record.specs.Missing.{over, or_default}
use Rattle.buffers.specs.Texts.{Text}
use Rattle.heaps.specs.Lookups.{Name}
use Rattle.record.specs.Columns.{type_flags, method_flags, method_name}
use Rattle.record.specs.View.{View, ClassLayout}
use Rattle.record.specs.Names.{name_in, classes, class_index, class_row, method_row, class_named, class_generics, method_generics, base_types, number_in}
use Rattle.record.specs.Methods.{left_after, signature_in, parameter_name}

pub record Parameter : Type 0 where
  pub type : Option Text
  pub name : Option Text

pub record Method : Type 0 where
  pub name : Name
  pub flags : ℕ
  pub generics : List Name
  pub returns : Option Text
  pub parameters : List Parameter

pub record Class : Type 0 where
  pub name : Name
  pub flags : ℕ
  -- packing and size, both there or both missing
  pub layout : Option ClassLayout
  pub generics : List Name
  pub bases : List Text
  pub methods : List Method

-- The parameters from place i on, by their types.
abbrev pub parameters_from : View → ℕ → ℕ → List (Option Text) → List Parameter
parameters_from v m i [] = []
parameters_from v m i (t ∷ ts) = record { type = t; name = parameter_name v m i } ∷ parameters_from v m (i + 1) ts

-- Method m, which class c takes (II.22.26, `parse_method_defs`). With no signature read it has no return type and no parameters.
unfoldable pub method : View → ℕ → ℕ → Method
method v c m =
    let row = method_row v m in
    let signature = signature_in v c m in
    record {
      name = name_in v method_name row;
      flags = number_in v method_flags row;
      generics = method_generics v m;
      returns = over (λ s. s.returns) signature;
      parameters = parameters_from v m 0 (or_default [] (over (λ s. s.parameters) signature));
    }

-- Class c (II.22.37, `parse_type_defs`). Its methods are those left before its turn that it does not leave.
unfoldable pub class : View → ℕ → Class
class v c =
    record {
      name = class_named v c;
      flags = number_in v type_flags (class_row v c);
      layout = v.layout (class_index c);
      generics = class_generics v c;
      bases = base_types v c;
      methods = tabulate (method v c) (left_after v c) (left_after v (c + 1) - left_after v c);
    }

-- The class record.
unfoldable pub class_record : View → List Class
class_record v = tabulate (class v) 0 (classes v)
