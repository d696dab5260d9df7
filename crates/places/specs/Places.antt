-- Which row is meant by a class's place in the record, and by a method's place in its class.
use Rattle.std.specs.Prelude.{◌≡◌, List, ℕ, ◌+◌, ◌-◌, ◌<◌, ◌≤◌, Some, None}
use Rattle.buffers.specs.Replies.{refused_by, value}
use Rattle.buffers.specs.declared.Refusal.TheVariants.{NoSuchRow}
use Rattle.layouts.specs.Kinds.{method_def}
use Rattle.classes.specs.declared.TypeDefRow.{TypeDefRow}
use Rattle.record.specs.View.{View}
use Rattle.record.specs.Names.{rows_in}
use Rattle.record.specs.Methods.{left_after}
use Rattle.record.specs.Record.{method}
use Rattle.record.specs.Answers.{the_method}
use Rattle.rows.specs.Columns as columns
use Rattle.rows.specs.Layout.{rows_at}
use Rattle.methods.specs.Ranges.{RangeOf}
use Rattle.places.specs.declared.Own.{Own}
use Rattle.std.specs.declared.option.Option as std

-- The TypeDef row of a class, and a place of MethodDef, as the code has them.
abbrev pub ClassRow : Type 0
ClassRow = std.Option TypeDefRow

abbrev pub MethodRow : Type 0
MethodRow = std.Option ℕ

-- Class c is at TypeDef row c + 2, where the table, by the layout l, has that row.
pub data ClassRowIs (l : List ℕ) (c : ℕ) : ClassRow → Type 0 where
  at_row : {r : TypeDefRow} → r.0 ≡ c + 2 → c + 2 ≤ rows_at l columns.type_name → ClassRowIs l c (Some r)
  no_row : rows_at l columns.type_name < c + 2 → ClassRowIs l c None

-- Method m of class c is the method at a place of MethodDef, from 0; or there is none.
pub data MethodRowIs (v : View) (c m : ℕ) : MethodRow → Type 0 where
  at-method : {i : ℕ} → the_method v c m ≡ value (method v c i) → i < rows_in v method_def → i ≡ left_after v c + m → MethodRowIs v c m (Some i)
  no-method : the_method v c m ≡ refused_by NoSuchRow → MethodRowIs v c m None

-- What is known of a class's methods is true of the view; of row 0 it says nothing.
pub record Owns (v : View) (k : Own) : Type 0 where
  pub range : 0 < k.row → RangeOf v (k.row - 2) k.first k.end
