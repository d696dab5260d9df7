-- The byte 0x0A stands at a line's end alone. Assumes nothing.
use mathlib.Core.Path.{◌≡◌, refl, sym, ap, ◌∙◌}
use mathlib.Core.List.{[], ◌∷◌, ◌++◌, append_assoc}
use Prim.Native.Nat.{suc, ◌+◌}
use native.Mathlib.Omega.{arith}
use borrow.Author.Tests.{ne_eqb}
use lib.ListN.{length, length-append}
use Rattle.buffers.specs.Texts.{Text, decimal}
use Rattle.escapes.specs.Escapes.{escaped, shown}
use Rattle.escapes.specs.Claims.{Visible}
use Rattle.escapes.proofs.Apart.{visible, visible-then, no-break, numbers-stand}
use Rattle.heaps.specs.Lookups.{before}
use Rattle.lines.specs.Lines.{line}
use Rattle.lines.specs.Breaks.{OneLine}

first-break : (u : Text) → Visible u → before 0x0A (u ++ (0x0A ∷ [])) ≡ length u
unfolding before
first-break [] v = refl
first-break (b ∷ u) v = rw (ne_eqb b 0x0A (λ e. omega (arith, v.0))) (ap suc (first-break u v.1))

module _ (key t : Text) (k : Visible key) (v : Visible t) where
  one-break : before 0x0A (line key t) ≡ length key + length t
  unfolding line
  one-break =
      ap (before 0x0A) (sym (append_assoc key t (0x0A ∷ [])))
      ∙ first-break (key ++ t) (visible-then key t k v)
      ∙ length-append key t

pub one_line : OneLine
one_line = record {
  named = λ key t k. one-break key (shown t) k (no-break t);
  numbered = λ key n k. one-break key (escaped (decimal n)) k (visible (decimal n)) ∙ ap (λ (u : Text). length key + length u) (numbers-stand n);
}
