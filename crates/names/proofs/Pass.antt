-- The backward pass over the NestedClass rows: what is still in front, and what has been written. Assumes nothing.
use mathlib.Core.Path.{◌≡◌, refl, sym, ap, subst, ◌∙◌}
use mathlib.Core.Bool.{Bool, true, false, cond, ◌&&◌}
use mathlib.Core.List.{List, [], ◌∷◌, ◌++◌, append_assoc, append-nil}
use mathlib.Core.Option.{Option, none, some}
use Prim.Native.Nat.{ℕ, zero, suc, ◌+◌, ◌-◌, ◌≤◌, ◌<◌}
use native.Mathlib.Omega.{arith}
use lib.Dec.{eqb, ltb}
use lib.ListN.{length, length-append}
use Rattle.buffers.specs.Texts.{Text}
use Rattle.buffers.specs.Writes.{Kept}
use Rattle.backwards.specs.Backwards.{Spot, Behind, Placed}
use Rattle.backwards.proofs.Laws.{behind-none, behind-then, behind-kept, placed-then}
use Rattle.record.specs.Namespaces.{full_name, own_namespace}
use Rattle.rows.specs.Columns as columns
use Rattle.rows.specs.Layout.{rows_at, cell}
use Rattle.names.specs.Naming.{Outer, class_string, name_in, space_in, around_in, LastAround, dotted, front_in}
use Rattle.classes.specs.declared.TypeDefRow.{TypeDefRow}
use Rattle.std.specs.Prelude.{Some, None}

-- By the tables stream, its layout and the strings heap:
module _ (t l strings : List ℕ) where
  -- The namespace that the class around another gives it, or its own of before.
  abbrev under : Option ℕ → ℕ → ℕ → Option Text
  under none i k = space_in t l strings i k
  under (some e) i k = full_name (space_in t l strings i e) (name_in t l strings e)

  space-step : (i k : ℕ) → space_in t l strings (suc i) k ≡ under (around_in t l i k) i k
  unfolding space_in around_in name_in
  space-step i k = go (ltb 1 (cell t l columns.nested i) && (ltb 1 (cell t l columns.enclosing i) && eqb k (cell t l columns.nested i)))
    where
      go : (b : Bool)
          → cond b (full_name (space_in t l strings i (cell t l columns.enclosing i)) (name_in t l strings (cell t l columns.enclosing i))) (space_in t l strings i k)
          ≡ under (cond b (some (cell t l columns.enclosing i)) none) i k
      go true = refl
      go false = refl

  -- What stands in front of a name, one row further back: a row that does not act, one that puts a class around it, and one whose class
  -- has no name, where it ends.
  front-stay : (i k : ℕ) → none ≡ around_in t l i k → front_in t l strings (suc i) k ≡ front_in t l strings i k
  front-stay i k e = ap dotted (space-step i k ∙ ap (λ (o : Option ℕ). under o i k) (sym e))

  front-bare : (i k e : ℕ) → some e ≡ around_in t l i k → name_in t l strings e ≡ none → front_in t l strings (suc i) k ≡ []
  unfolding dotted full_name
  front-bare i k e a n =
      ap dotted (space-step i k ∙ ap (λ (o : Option ℕ). under o i k) (sym a) ∙ ap (full_name (space_in t l strings i e)) n)

  pub joined : (space : Option Text) (m : Text) → dotted (full_name space (some m)) ≡ dotted space ++ (m ++ 0x2E ∷ [])
  unfolding dotted full_name
  joined none m = refl
  joined (some s) m = append_assoc s (0x2E ∷ m) (0x2E ∷ []) ∙ sym (append_assoc s (0x2E ∷ []) (m ++ 0x2E ∷ []))

  front-in : (i k e : ℕ) (m : Text) → some e ≡ around_in t l i k → name_in t l strings e ≡ some m
      → front_in t l strings (suc i) k ≡ front_in t l strings i e ++ (m ++ 0x2E ∷ [])
  front-in i k e m a n =
      ap dotted (space-step i k ∙ ap (λ (o : Option ℕ). under o i k) (sym a) ∙ ap (full_name (space_in t l strings i e)) n)
      ∙ joined (space_in t l strings i e) m

  -- Several rows further back, none of which acts.
  front-past : (k j d : ℕ) → ((x : ℕ) → j ≤ x → x < j + d → none ≡ around_in t l x k) → front_in t l strings (j + d) k ≡ front_in t l strings j k
  front-past k j zero h = let e : j + 0 ≡ j = omega arith in ap (λ (x : ℕ). front_in t l strings x k) e
  front-past k j (suc d) h =
      let e : j + suc d ≡ suc (j + d) = omega arith in
      ap (λ (x : ℕ). front_in t l strings x k) e ∙ front-stay (j + d) k (h (j + d) (omega arith) (omega arith))
      ∙ front-past k j d (λ x lo hi. h x lo (omega arith))

  front-back : (i k j : ℕ) → j ≤ i → ((x : ℕ) → j ≤ x → x < i → none ≡ around_in t l x k) → front_in t l strings i k ≡ front_in t l strings j k
  front-back i k j m h =
      let e : i ≡ j + (i - j) = omega arith in
      ap (λ (x : ℕ). front_in t l strings x k) e ∙ front-past k j (i - j) (λ x lo hi. h x lo (omega arith))

  -- Before all rows it is the class's own namespace.
  front-own : (i k : ℕ) → i ≤ 0 → front_in t l strings i k ≡ dotted (class_string t l strings columns.type_namespace k)
  unfolding space_in class_string own_namespace
  front-own i k h = let e : i ≡ 0 = omega arith in ap (λ (j : ℕ). front_in t l strings j k) e

  -- The pass that looks for the front of the class at TypeDef row r: from the buffer b₀ to b, what was done is written behind p, and what
  -- is left is in front of class k when i rows have acted.
  pub record Passing (r : ℕ) (b₀ : List ℕ) (floor end : ℕ) (b : List ℕ) (i k p : ℕ) : Type 0 where
    pub done : Text
    pub behind : Behind b₀ floor end done b p
    pub left : front_in t l strings (rows_at l columns.nested) r ≡ front_in t l strings i k ++ done
    pub most : i ≤ rows_at l columns.nested

  pub pass-start : (r n : ℕ) (b : List ℕ) (floor end : ℕ) → n ≡ rows_at l columns.nested → floor ≤ end → Passing r b floor end b n r end
  pass-start r n b floor end e h = record {
    done = [];
    behind = behind-none b floor end h;
    left = sym (append-nil _) ∙ ap (λ (j : ℕ). front_in t l strings j r ++ []) (sym e);
    most = omega arith;
  }

  module _ {r : ℕ} {b₀ : List ℕ} {floor end : ℕ} {b : List ℕ} {i k p : ℕ} (s : Passing r b₀ floor end b i k p) where
    -- No row puts a class around class k.
    pub pass-out : {o : Outer} → LastAround t l i k o → o ≡ None → Passing r b₀ floor end b 0 k p
    pass-out last is =
        let none-acts = subst (LastAround t l i k) is last in
        record {
          done = s.done;
          behind = s.behind;
          left = s.left ∙ ap (λ (x : Text). x ++ s.done) (front-back i k 0 (omega arith) (λ x lo hi. none-acts x hi));
          most = omega arith;
        }

    -- A row puts class e around class k, and no row after it any other.
    module _ {o : Outer} {e : TypeDefRow} {at : ℕ} (last : LastAround t l i k o) (is : o ≡ Some (e, at)) where
      found : LastAround t l i k (Some (e, at))
      found = subst (LastAround t l i k) is last

      left_at : front_in t l strings (rows_at l columns.nested) r ≡ front_in t l strings (suc at) k ++ s.done
      left_at =
          s.left ∙ ap (λ (x : Text). x ++ s.done) (front-back i k (suc at) (omega (arith, found.0)) (λ x lo hi. found.2 x (omega arith) hi))

      left_in : (m : Text) → name_in t l strings e.0 ≡ some m
          → front_in t l strings (rows_at l columns.nested) r ≡ front_in t l strings at e.0 ++ ((m ++ 0x2E ∷ []) ++ s.done)
      left_in m n =
          left_at ∙ ap (λ (x : Text). x ++ s.done) (front-in at k e.0 m found.1 n)
          ∙ append_assoc (front_in t l strings at e.0) (m ++ 0x2E ∷ []) s.done

      pub pass-less : at < i
      pass-less = found.0

      pub pass-in : (m : Text) {b' : List ℕ} {q : ℕ} → name_in t l strings e.0 ≡ some m → Behind b floor p (m ++ 0x2E ∷ []) b' q
          → Passing r b₀ floor end b' at e.0 q
      pass-in m n w = record {
        done = (m ++ 0x2E ∷ []) ++ s.done;
        behind = behind-then s.behind w;
        left = left_in m n;
        most = omega (arith, s.most, found.0);
      }

      pub pass-full : (m : Text) {b' : List ℕ} → name_in t l strings e.0 ≡ some m → (p < floor + length (m ++ 0x2E ∷ [])) × Kept b floor b'
          → Placed b₀ floor end (front_in t l strings (rows_at l columns.nested) r) b' None
      pass-full m n w =
          let whole = ap length (left_in m n) in
          let outer = length-append (front_in t l strings at e.0) ((m ++ 0x2E ∷ []) ++ s.done) in
          let inner = length-append (m ++ 0x2E ∷ []) s.done in
          (omega (arith, s.behind.place), behind-kept s.behind w.1)

      pub pass-bare : name_in t l strings e.0 ≡ none → Placed b₀ floor end (front_in t l strings (rows_at l columns.nested) r) b (Some p)
      pass-bare n = rw (left_at ∙ ap (λ (x : Text). x ++ s.done) (front-bare at k e.0 found.1 n)) s.behind

    -- All rows are passed.
    module _ (h : i ≤ 0) where
      pub pass-own : (m : Text) (b' : List ℕ) (spot : Spot) → class_string t l strings columns.type_namespace k ≡ some m → Placed b floor p (m ++ 0x2E ∷ []) b' spot
          → Placed b₀ floor end (front_in t l strings (rows_at l columns.nested) r) b' spot
      unfolding dotted
      pass-own m b' spot n w =
          rw (s.left ∙ ap (λ (x : Text). x ++ s.done) (front-own i k h ∙ ap dotted n)) (placed-then s.behind b' (m ++ 0x2E ∷ []) spot w)

      pub pass-none : class_string t l strings columns.type_namespace k ≡ none → Placed b₀ floor end (front_in t l strings (rows_at l columns.nested) r) b (Some p)
      unfolding dotted
      pass-none n = rw (s.left ∙ ap (λ (x : Text). x ++ s.done) (front-own i k h ∙ ap dotted n)) s.behind
