-- What marking a column of a layout does, and what it must not change.
use Rattle.std.specs.Prelude.{◌≡◌, Bool, true, false, List, ℕ}
use Rattle.rows.specs.Layout.{Laid, options_in}

-- The test r tells whether P holds.
pub record Tells (r : Bool) (P : Type 0) : Type 0 where
  pub yes : r ≡ true → P
  pub no : r ≡ false → P → ⊥

-- From the layout l of the tables stream t to l', at most the mark was set, and it is true: it is still the stream's, opened alike.
pub record Marked (t l l' : List ℕ) : Type 0 where
  pub laid : Laid t l'
  pub options : options_in l' ≡ options_in l
