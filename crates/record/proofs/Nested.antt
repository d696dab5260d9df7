-- Two NestedClass rows commute where the nested class of neither occurs in the other, so rows that keep the order of the rest leave the namespaces as they were.
-- Assumes nothing.
use mathlib.Core.Path.{◌≡◌, refl, sym, ap, ◌∙◌, fun_ext}
use mathlib.Core.Logic.{inl, inr}
use mathlib.Core.Bool.{Bool, true, false, cond, ◌&&◌}
use mathlib.Core.List.{List}
use mathlib.Core.Option.{Option}
use Prim.Native.Nat.{ℕ}
use lib.Dec.{eqb, ltb}
use borrow.Author.Tests.{eqb-true, ne_eqb}
use Rattle.layouts.specs.declared.IndexSizes.{IndexSizes}
use Rattle.record.specs.Columns.{nested, enclosing}
use Rattle.record.specs.Rows.{runs}
use Rattle.record.specs.Namespaces.{full_name, name_of, nest}
use Rattle.record.specs.Rearrangement.{Moved, Tied}
use Rattle.record.proofs.Fold.{runs_moved}

abbrev hit : IndexSizes → List ℕ → ℕ → Bool
hit w r c = ltb 1 (nested w r) && (ltb 1 (enclosing w r) && eqb c (nested w r))

last-false : (x y z : Bool) → z ≡ false → (x && (y && z)) ≡ false
last-false true true z e = e
last-false true false z e = refl
last-false false y z e = refl

last-true : (x y z : Bool) → (x && (y && z)) ≡ true → z ≡ true
last-true true true z e = e
last-true true false z e = cc
last-true false y z e = cc

miss : (w : IndexSizes) (r : List ℕ) (c : ℕ) → (c ≡ nested w r → ⊥) → hit w r c ≡ false
miss w r c ne = last-false (ltb 1 (nested w r)) (ltb 1 (enclosing w r)) (eqb c (nested w r)) (ne_eqb c (nested w r) ne)

hit-at : (w : IndexSizes) (r : List ℕ) (c : ℕ) → hit w r c ≡ true → c ≡ nested w r
hit-at w r c e = eqb-true c (nested w r) (last-true (ltb 1 (nested w r)) (ltb 1 (enclosing w r)) (eqb c (nested w r)) e)

one_of : {W : Type 0} (x y : Bool) (a b s : W) → (x ≡ true → y ≡ true → ⊥) → cond y b (cond x a s) ≡ cond x a (cond y b s)
one_of true true a b s w = absurd (w refl refl)
one_of true false a b s w = refl
one_of false true a b s w = refl
one_of false false a b s w = refl

module _ (w : IndexSizes) (strings : List ℕ) (row : ℕ → ℕ → Option (List ℕ)) where
  -- A row that does not nest c leaves the namespace of c.
  keeps : (r : List ℕ) (s : ℕ → Option (List ℕ)) (c : ℕ) → (c ≡ nested w r → ⊥) → nest w strings row r s c ≡ s c
  keeps r s c ne = ap (λ x. cond x (full_name (s (enclosing w r)) (name_of w strings row (enclosing w r))) (s c)) (miss w r c ne)

  nest-commute : (a b : List ℕ) → ¬ Tied w a b → (s : ℕ → Option (List ℕ)) → nest w strings row b (nest w strings row a s) ≡ nest w strings row a (nest w strings row b s)
  nest-commute a b free s =
      fun_ext λ c.
      let ea = ap (λ x. cond (hit w b c) (full_name x (name_of w strings row (enclosing w b))) (nest w strings row a s c)) (keeps a s (enclosing w b) (λ e. free (inl (inr e)))) in
      let eb = ap (λ x. cond (hit w a c) (full_name x (name_of w strings row (enclosing w a))) (nest w strings row b s c)) (keeps b s (enclosing w a) (λ e. free (inr (inr e)))) in
      ea
      ∙ one_of (hit w a c) (hit w b c) (full_name (s (enclosing w a)) (name_of w strings row (enclosing w a))) (full_name (s (enclosing w b)) (name_of w strings row (enclosing w b))) (s c)
      (λ p q. free (inr (inl (sym (hit-at w a c p) ∙ hit-at w b c q))))
      ∙ sym eb

  pub nest-moved : (n : ℕ) (old new : ℕ → List ℕ) → Moved (Tied w) n old new → (s : ℕ → Option (List ℕ)) → runs (nest w strings row) old n s ≡ runs (nest w strings row) new n s
  nest-moved = runs_moved (nest w strings row) (Tied w) nest-commute
