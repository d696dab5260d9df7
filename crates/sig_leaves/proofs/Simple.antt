-- The types that are their tag alone: a tag that is none of the table's has no text. Assumes nothing.
use mathlib.Core.Path.{◌≡◌}
use mathlib.Core.List.{List, [], ◌∷◌}
use mathlib.Core.Option.{Option, none, some}
use Prim.Native.Nat.{ℕ}
use Rattle.buffers.specs.Texts.{Text}
use Rattle.record.specs.Types.{look, names, simple}
use Rattle.record.proofs.Look.{Apart, look-past}

abbrev there : List (ℕ × Text) → List (ℕ × Option Text)
there [] = []
there (r ∷ rs) = (r.0, some r.1) ∷ there rs

pub simple-none : (b : ℕ) → Apart b (Unit {0}) (there names) → simple b ≡ none
unfolding simple names look
simple-none b h = look-past b (Unit {0}) (there names) none h
