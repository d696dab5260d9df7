-- The layout as `lay` fills it: the numbers of its columns, and the options behind them. Assumes nothing.
use mathlib.Core.Path.{◌≡◌, refl}
use mathlib.Core.Bool.{Bool, true, false, cond}
use mathlib.Core.List.{List}
use mir.Val.{bool_byte}
use Prim.Native.Nat.{ℕ, ◌+◌, ◌*◌, ◌≤◌, ◌<◌}
use native.Mathlib.Omega.{arith}
use lib.ListN.{get_or, set}
use Rattle.header.specs.declared.Options.{Options}
use Rattle.header.specs.Stream.{Opening}
use Rattle.layouts.specs.Read.{read_columns, read_column}
use Rattle.rows.specs.Columns as columns
use Rattle.rows.specs.Layout.{column_numbers, option_numbers, layout_of}
use Rattle.rows.proofs.Numbers.{numbers-at}
use Rattle.opening.specs.Opening.{Unmarked}
use Rattle.opening.proofs.Filling.{Filled, put}

-- A flag as a number.
pub bit_is : (b : Bool) → bool_byte b ≡ cond b 1 0
bit_is true = refl
bit_is false = refl

module _ (o : Options) (h : Opening) (n : ℕ) where
  pub layout-at : (c d : ℕ) → c < columns.count → d < columns.numbers → get_or (layout_of o h n) (columns.numbers * c + d) 0 ≡ get_or (column_numbers o h n (read_column c)) d 0
  unfolding layout_of
  layout-at c d l k = numbers-at o h n read_columns (option_numbers o h n) (read_column columns.count) c d l k

  -- All turns are done, and the options are stored.
  pub whole : {l : List ℕ} {c x y z : ℕ} → Filled columns.size (layout_of o h n) l (columns.numbers * c) → c ≤ columns.count → columns.count ≤ c
      → x ≡ o.limit → y ≡ cond o.security 1 0 → z ≡ cond o.taker 1 0
      → Unmarked (layout_of o h n) (set (set (set l columns.limit x) columns.security y) columns.taker z)
  unfolding layout_of
  whole {l} {c} {x} {y} {z} f p q ex ey ez =
      let end : columns.numbers * c ≡ columns.limit = omega arith in
      let a = put (put (put (rw end at f) (omega arith) x ex) (omega arith) y ey) (omega arith) z ez in
      record { size = omega (arith, a.long); same = a.same; none = a.unset }
