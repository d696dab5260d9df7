use mathlib.Core.Path.{◌∙◌, ap}
use Prim.Native.Nat.{ℕ}
use Rattle.lines.specs.Cursors.{cursor}
use Rattle.lines.specs.declared.Place.TheVariants.{Method}
use Rattle.listing_steps.proofs.next_method.Goals as goal

pub returns : goal.returns
returns c = c.cursor_at.ensures ∙ ap (λ (m : ℕ). cursor Method c.args.c.class.0 m 0) c.next_number.ensures
