-- No full name of a class has a zero: strings end before theirs, and full names are made of strings and dots. Assumes nothing.
use mathlib.Core.Path.{◌≡◌, refl, ap, subst}
use mathlib.Core.Bool.{false, ◌&&◌}
use mathlib.Core.List.{List, [], ◌∷◌, ◌++◌}
use mathlib.Core.Option.{Option, none, some}
use Prim.Native.Nat.{ℕ, zero, suc, ◌+◌}
use lib.Dec.{eqb, leb, ltb}
use lib.ListN.{length, take, drop}
use Rattle.numbers.proofs.Pick.{pick}
use Rattle.buffers.specs.Texts.{Text}
use Rattle.heaps.specs.Lookups.{Part, before, string_at, part_name, name, text_of, string}
use Rattle.layouts.specs.declared.IndexSizes.{IndexSizes}
use Rattle.record.specs.Missing.{over, and_then}
use Rattle.record.specs.Columns.{type_name, type_namespace, nested, enclosing}
use Rattle.record.specs.Rows.{runs}
use Rattle.record.specs.Namespaces.{cut, full_name, class_at, name_of, own_namespace, nest}
use Rattle.layouts.specs.Kinds.{nested_class}
use Rattle.header.specs.declared.Options.{Options}
use Rattle.header.specs.Stream.{opened}
use Rattle.tables.specs.Extents.{sizes_in}
use Rattle.record.specs.View.{view, view_of, other_row, side_row, side_rows}
use Rattle.record.specs.Names.{class_full_name}
use Rattle.name_section.specs.Claims.{Zeroless, NamesZeroless}

-- No byte is zero.
abbrev pub Nonzero : Text → Type 0
Nonzero [] = Unit {0}
Nonzero (b ∷ t) = (eqb b 0 ≡ false) × Nonzero t

nonzero-zeroless : (t : Text) → Nonzero t → Zeroless t
unfolding before
nonzero-zeroless [] h = refl
nonzero-zeroless (b ∷ t) h = rw h.0 (ap suc (nonzero-zeroless t h.1))

nonzero-then : (s t : Text) → Nonzero s → Nonzero t → Nonzero (s ++ t)
nonzero-then [] t h k = k
nonzero-then (b ∷ s) t h k = (h.0, nonzero-then s t h.1 k)

nonzero-take : (n : ℕ) (t : Text) → Nonzero t → Nonzero (take n t)
nonzero-take zero t h = tt
nonzero-take (suc n) [] h = tt
nonzero-take (suc n) (b ∷ t) h = (h.0, nonzero-take n t h.1)

-- What stands before the first zero.
nonzero-front : (l : List ℕ) → Nonzero (take (before 0 l) l)
unfolding before
nonzero-front [] = tt
nonzero-front (b ∷ l) =
    pick (λ (n : ℕ). Nonzero (take n (b ∷ l))) (eqb b 0) (λ _. tt) (λ e. (e, nonzero-front l))

-- The same of a text that may be missing.
abbrev pub Clean : Option Text → Type 0
Clean none = Unit {0}
Clean (some t) = Nonzero t

clean-string : (s : List ℕ) (i : ℕ) → Clean (string s i)
unfolding string name string_at
clean-string s i =
    pick (λ (p : Part). Clean (text_of (part_name s p))) (eqb i 0) (λ _. tt)
    (λ _. pick (λ (p : Part). Clean (text_of (part_name s p))) (leb (length s) i) (λ _. tt)
    (λ _. pick (λ (p : Part). Clean (text_of (part_name s p))) (ltb (i + before 0 (drop i s)) (length s)) (λ _. nonzero-front (drop i s)) (λ _. tt)))

clean-cut : (o : Option Text) → Clean o → Clean (over cut o)
unfolding cut
clean-cut none h = tt
clean-cut (some t) h = nonzero-take (before 0x60 t) t h

clean-full : (space name : Option Text) → Clean space → Clean name → Clean (full_name space name)
unfolding full_name
clean-full space none h k = tt
clean-full none (some name) h k = k
clean-full (some space) (some name) h k = nonzero-then space (0x2E ∷ name) h (refl, k)

-- Names and namespaces of classes, once rows have acted.
module _ (w : IndexSizes) (strings : List ℕ) (row : ℕ → ℕ → Option (List ℕ)) where
  clean-name : (r : ℕ) → Clean (name_of w strings row r)
  unfolding name_of
  clean-name r = go (class_at w strings row r)
    where
      go : (o : Option (List ℕ)) → Clean (and_then o (λ bytes. over cut (string strings (type_name w bytes))))
      go none = tt
      go (some bytes) = clean-cut (string strings (type_name w bytes)) (clean-string strings (type_name w bytes))

  clean-own : (r : ℕ) → Clean (own_namespace w strings row r)
  unfolding own_namespace
  clean-own r = go (class_at w strings row r)
    where
      go : (o : Option (List ℕ)) → Clean (and_then o (λ bytes. string strings (type_namespace w bytes)))
      go none = tt
      go (some bytes) = clean-string strings (type_namespace w bytes)

  clean-spaces : (rows : ℕ → List ℕ) (n r : ℕ) → Clean (runs (nest w strings row) rows n (own_namespace w strings row) r)
  clean-spaces rows zero r = clean-own r
  clean-spaces rows (suc n) r =
      pick Clean (ltb 1 (nested w (rows n)) && (ltb 1 (enclosing w (rows n)) && eqb r (nested w (rows n))))
      (λ _. clean-full _ _ (clean-spaces rows n (enclosing w (rows n))) (clean-name (enclosing w (rows n))))
      (λ _. clean-spaces rows n r)

pub names-clean : (o : Options) (tables strings blob : List ℕ) (r : ℕ) → Clean (class_full_name (view o tables strings blob) r)
unfolding view_of class_full_name
names-clean o tables strings blob r =
    let h = opened o tables in
    let w = sizes_in o h in
    let row = other_row o h tables in
    clean-full _ _ (clean-spaces w strings row (side_row o h tables nested_class) (side_rows o h tables nested_class) r) (clean-name w strings row r)

pub names-zeroless : NamesZeroless
names-zeroless o tables strings blob r t e = nonzero-zeroless t (subst Clean e (names-clean o tables strings blob r))
