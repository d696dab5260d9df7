-- Where the listing goes on behind the line of a name, by whether there is a line. Assumes nothing.
use mathlib.Core.Path.{◌≡◌, ap}
use mathlib.Core.Bool.{Bool, true, false, cond}
use Rattle.lines.specs.declared.Cursor.{Cursor}

module _ {there : Bool} (more past : Cursor) where
  pub goes_on : true ≡ there → more ≡ cond there more past
  goes_on e = ap (λ b. cond b more past) e

  pub goes-past : false ≡ there → past ≡ cond there more past
  goes-past e = ap (λ b. cond b more past) e
