-- What the memory holds while the rows of NestedClass are linked: f says the nested class of a row, g the enclosing one, and n how many
-- rows there are.
use Rattle.std.specs.Prelude.{List, ℕ, ◌+◌, ◌-◌, ◌≤◌, ◌<◌, length, get_or}
use Rattle.rows.specs.Held.{LastIs}

-- The memory m holds the links of the first i rows.
pub record Nesting (f g : ℕ → ℕ) (n i : ℕ) (m : List ℕ) : Type 0 where
  pub order : i ≤ n
  pub heads : (r : ℕ) → r + n < length m → LastIs f g i r (get_or m r 0)
  pub links : (j : ℕ) → j < i → g j + n < length m → LastIs f g j (g j) (get_or m (length m - n + j) 0)
