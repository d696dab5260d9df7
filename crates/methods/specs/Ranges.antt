-- The methods of a class as the range of their numbers.
use Rattle.std.specs.Prelude.{◌≡◌, ℕ, ◌+◌, ◌≤◌}
use Rattle.layouts.specs.Kinds.{method_def}
use Rattle.record.specs.View.{View}
use Rattle.record.specs.Names.{rows_in}
use Rattle.record.specs.Methods.{left_after}

-- The methods of class c, of the view v, are those from first up to the end. They are there.
pub record RangeOf (v : View) (c first end : ℕ) : Type 0 where
  pub begins : first ≡ left_after v c
  pub ends : end ≡ left_after v (c + 1)
  pub inside : end ≤ rows_in v method_def
  pub order : first ≤ end
