-- What the links of NestedClass tell: a link answers as the search for it does. Assumes nothing.
use mathlib.Core.Path.{◌≡◌, sym, ap, subst, ◌∙◌}
use mathlib.Core.Bool.{Bool, true, false, cond, ◌&&◌}
use mathlib.Core.List.{List}
use mathlib.Core.Option.{none, some}
use Prim.Native.Nat.{ℕ, ◌+◌, ◌-◌, ◌≤◌, ◌<◌}
use native.Mathlib.Omega.{arith}
use lib.Dec.{eqb, ltb}
use lib.ListN.{length, get_or}
use Rattle.classes.specs.declared.TypeDefRow.{TypeDefRow}
use Rattle.rows.specs.Columns as columns
use Rattle.rows.specs.Layout.{Laid, rows_at, cell, held_start, held_length, held_at}
use Rattle.rows.specs.Held.{around, LastIs, Nested}
use Rattle.names.specs.Naming.{Outer, around_in, LastAround}
use Rattle.names.proofs.Leaves.{around-is}
use Rattle.std.specs.Prelude.{Some, None}

-- A link answers the search for it.
module _ (t l : List ℕ) {end r x : ℕ} (h : LastIs (cell t l columns.nested) (cell t l columns.enclosing) end r x) where
  pub last_found : 0 < x → {e : TypeDefRow} {i : ℕ} → i ≡ x - 1 → e.0 ≡ cell t l columns.enclosing i → LastAround t l end r (Some (e, i))
  last_found p {e} {i} a b = (
    omega (arith, h.within),
    ap some (b ∙ ap (cell t l columns.enclosing) a) ∙ h.found p ∙ around-is t l (x - 1) r ∙ ap (λ (k : ℕ). around_in t l k r) (sym a),
    λ j lo hi. h.behind j (omega arith) hi ∙ around-is t l j r,
  )

  pub last-missed : x ≡ 0 → LastAround t l end r None
  last-missed e j b = h.behind j (omega arith) b ∙ around-is t l j r

pub head_at : {f g : ℕ → ℕ} {n r class : ℕ} {m : List ℕ} → Nested f g n m → class ≡ r → class + n < length m → LastIs f g n r (get_or m class 0)
head_at {f} {g} {n} {r} {m = m} k e h = subst (λ (y : ℕ). LastIs f g n r (get_or m y 0)) (sym e) (k.heads r (omega arith))

pub link_at : {f g : ℕ → ℕ} {n n' i r class : ℕ} {m : List ℕ} → Nested f g n m → i < n → g i ≡ r → class ≡ r → n' ≡ n → class + n < length m
    → LastIs f g i r (get_or m (length m - n' + i) 0)
link_at {f} {g} {n} {i = i} {r} {m = m} k a e c d h =
    rw d (subst (λ (y : ℕ). LastIs f g i y (get_or m (length m - n + i) 0)) e (k.links i a (omega arith)))

-- The memory of a layout.
module _ {t l : List ℕ} (laid : Laid t l) where
  pub asks-memory : ((columns.by_nested < columns.held_count) × (columns.size ≤ length l)) × (held_start l columns.by_nested + held_length l columns.by_nested ≤ length l)
  asks-memory = ((omega arith, laid.size), laid.inside columns.by_nested (omega arith))

  pub by-nested : {m : List ℕ} → m ≡ held_at l columns.by_nested
      → Nested (cell t l columns.nested) (cell t l columns.enclosing) (rows_at l columns.nested) m
  by-nested e = subst (Nested (cell t l columns.nested) (cell t l columns.enclosing) (rows_at l columns.nested)) (sym e) laid.nests

-- A row that puts a class around another has it as its enclosing class.
some_is : (b : Bool) (x e : ℕ) → some e ≡ cond b (some x) none → x ≡ e
some_is true x e h = let same : x ≡ e = cc in same
some_is false x e h = let z : ◌≡◌ {A = ℕ} 0 1 = cc in absurd (omega arith)

pub encloses : (t l : List ℕ) (n r : ℕ) {o : Outer} {e : TypeDefRow} {i : ℕ} → LastAround t l n r o → o ≡ Some (e, i) → cell t l columns.enclosing i ≡ e.0
unfolding around
encloses t l n r {o} {e} {i} h q =
    let found : LastAround t l n r (Some (e, i)) = subst (LastAround t l n r) q h in
    let f = cell t l columns.nested in
    let g = cell t l columns.enclosing in
    some_is (ltb 1 (f i) && (ltb 1 (g i) && eqb r (f i))) (g i) e.0 (found.1 ∙ sym (around-is t l i r))

pub last-of-all : (t l : List ℕ) {n i : ℕ} (r : ℕ) (o : Outer) → n ≡ i → LastAround t l n r o → LastAround t l i r o
last-of-all t l r o e h = subst (λ (x : ℕ). LastAround t l x r o) e h
