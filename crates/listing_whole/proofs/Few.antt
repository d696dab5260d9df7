-- Nothing that the record of a stream counts has many items: tables have at most 15,000 rows, and methods at most 2,000 parameters. Assumes
-- nothing.
use mathlib.Core.Path.{◌≡◌, refl, sym, ◌∙◌, ap, subst}
use mathlib.Core.Bool.{Bool, true, false, cond}
use mathlib.Core.List.{List, [], ◌∷◌, map}
use mathlib.Core.Option.{Option, none, some}
use Prim.Native.Nat.{ℕ, zero, suc, ◌+◌, ◌*◌, ◌-◌, ◌/◌, ◌%◌, ◌<◌, ◌≤◌}
use native.Mathlib.Omega.{arith}
use lib.Dec.{eqb, ltb}
use lib.ListN.{length, get_elem?, length-append}
use Rattle.numbers.specs.Lists.{tabulate}
use Rattle.numbers.specs.Reading.{Reader, Res, chain, give, byte, ◌>>=◌}
use Rattle.numbers.specs.Compressed.{uint}
use Rattle.numbers.proofs.Lists.{tabulate-length, tabulate-item}
use Rattle.numbers.proofs.Pick.{pick, pick-lt}
use Rattle.buffers.specs.Texts.{Text}
use Rattle.heaps.specs.Lookups.{name}
use Rattle.header.specs.Stream.{base, opened}
use Rattle.header.proofs.Cases.{few-counted}
use Rattle.layouts.specs.Kinds.{type_def, method_def, interface_impl, generic_param}
use Rattle.tables.specs.Extents.{kept_rows, sizes_in}
use Rattle.tables.proofs.Places.{few-rows}
use Rattle.record.specs.Missing.{over, or_else, or_default, present, first_there}
use Rattle.record.specs.Readings.{in_blob}
use Rattle.record.specs.Rows.{of_key}
use Rattle.record.specs.Types.{Env, unless, counted, method_start, type}
use Rattle.record.specs.View.{View, view_of, view, side_row}
use Rattle.record.specs.Columns.{owner, generic_name, impl_class, impl_interface}
use Rattle.record.specs.Names.{rows_in, classes, class_index, type_name_in, base_indices, base_types, levels}
use Rattle.record.specs.Methods.{Signature, tries, signature, signature_blob, reading, read_by, readers, signature_of, signature_in, left_after, method_lists}
use Rattle.record.specs.Record.{parameters_from, method, class, class_record}
use Rattle.record.proofs.Extents.{kept-le}
use Rattle.record.proofs.Read.{left_le}
use Rattle.listing_whole.proofs.Whole.{item-below, FewInMethod, FewInClass, FewIn}

-- ---- At most 2,000 parameters

-- What holds of a value, if there is one.
abbrev Of : {A : Type 0} → (A → Type 0) → Option A → Type 0
Of P none = Unit {0}
Of P (some a) = P a

then-of : {A B : Type 0} (Q : A → Type 0) (P : B → Type 0) (got : Option A) (next n : ℕ) (k : A → ℕ → Res B)
    → Of Q got → ((a : A) (at : ℕ) → Q a → Of P (k a at).got) → Of P (chain got next n k).got
then-of Q P none next n k h f = tt
then-of Q P (some a) next n k h f = f a next h

any : {A : Type 0} (o : Option A) → Of (λ _. Unit {0}) o
any none = tt
any (some a) = tt

bind-of : {A B : Type 0} (P : B → Type 0) (p : Reader A) (k : A → Reader B) (s : List ℕ) (at : ℕ)
    → ((a : A) (next : ℕ) → Of P (k a s next).got) → Of P ((p >>= k) s at).got
bind-of P p k s at f =
    then-of (λ _. Unit {0}) P (p s at).got (p s at).next (p s at).steps (λ a next. k a s next) (any (p s at).got) (λ a next _. f a next)

else-of : {A : Type 0} (P : A → Type 0) (o u : Option A) → Of P o → Of P u → Of P (or_else o u)
else-of P none u h k = k
else-of P (some a) u h k = h

either-of : {A : Type 0} (P : A → Type 0) (b : Bool) (o u : Option A) → Of P o → Of P u → Of P (cond b o u)
either-of P true o u h k = h
either-of P false o u h k = k

abbrev Small : ℕ → Type 0
Small n = n ≤ 2000

counted-small : (s : List ℕ) (at : ℕ) → Of Small (counted s at).got
unfolding counted
counted-small s at =
    bind-of Small uint (λ n. unless (ltb 2000 n) (give n)) s at
    (λ n next. pick-lt (λ (r : Reader ℕ). Of Small (r s next).got) 2000 n (λ _. tt) (λ h. h))

-- What stands between the flags and the number of parameters.
abbrev generic-count : ℕ → Reader ℕ
generic-count flags = cond (eqb (flags / 16 % 2) 1) uint (give 0)

start_small : (s : List ℕ) (at : ℕ) → Of Small (method_start s at).got
unfolding method_start
start_small s at =
    bind-of Small byte (λ flags. generic-count flags >>= (λ _. counted)) s at
    (λ flags next. bind-of Small (generic-count flags) (λ _. counted) s next (λ _ last. counted-small s last))

tries-length : {A : Type 0} (n : ℕ) (p : Reader A) (s : List ℕ) (at : ℕ) → Of (λ (l : List (Option A)). length l ≡ n) (tries n p s at).got
unfolding tries
tries-length zero p s at = refl
tries-length {A} (suc n) p s at =
    then-of (λ (l : List (Option A)). length l ≡ n) (λ (l : List (Option A)). length l ≡ suc n) (tries n p s (p s at).next).got _ _ _
    (tries-length n p s (p s at).next) (λ l _ e. ap suc e)

abbrev SmallSignature : Signature → Type 0
SmallSignature g = Small (length g.parameters)

signature-small : (e : Env) (s : List ℕ) (at : ℕ) → Of SmallSignature (signature e s at).got
unfolding signature
signature-small e s at =
    then-of Small SmallSignature (method_start s at).got _ _ _ (start_small s at)
    (λ n next small. then-of (λ _. Unit {0}) SmallSignature (type e levels s next).got _ _ _ (any (type e levels s next).got)
    (λ t last _. then-of (λ (l : List (Option Text)). length l ≡ n) SmallSignature (tries n (type e levels) s last).got _ _ _
    (tries-length n (type e levels) s last) (λ l _ same. omega (arith, same, small))))

blob-small : (e : Env) (o : Option (List ℕ)) → Of SmallSignature (in_blob (signature e) o).got
blob-small e none = tt
blob-small e (some bytes) = signature-small e bytes 0

read_small : (v : View) (m c : ℕ) → Of SmallSignature (read_by v m c)
unfolding read_by reading
read_small v m c = blob-small _ (signature_blob v m)

readings-small : (v : View) (m : ℕ) (l : List ℕ) → Of SmallSignature (first_there (map (read_by v m) l))
readings-small v m [] = tt
readings-small v m (c ∷ l) = else-of SmallSignature (read_by v m c) (first_there (map (read_by v m) l)) (read_small v m c) (readings-small v m l)

parameters-length : (v : View) (m i : ℕ) (ts : List (Option Text)) → length (parameters_from v m i ts) ≡ length ts
parameters-length v m i [] = refl
parameters-length v m i (t ∷ ts) = ap suc (parameters-length v m (i + 1) ts)

parameters-small : (v : View) (m : ℕ) (g : Option Signature) → Of SmallSignature g
    → Small (length (parameters_from v m 0 (or_default [] (over (λ s. s.parameters) g))))
parameters-small v m none h = omega arith
parameters-small v m (some g) h = omega (arith, parameters-length v m 0 g.parameters, h)

in-mode-small : (v : View) (c m : ℕ) → Of SmallSignature (signature_in v c m)
unfolding signature_in signature_of
in-mode-small v c m = pick (Of SmallSignature) v.taker (λ _. read_small v m c) (λ _. readings-small v m (readers v m))

method-parameters : (v : View) (c m : ℕ) → Small (length (method v c m).parameters)
unfolding method
method-parameters v c m = parameters-small v m (signature_in v c m) (in-mode-small v c m)

-- ---- At most 15,000 rows

rows_few : (t : List ℕ) (k : ℕ) → k < 64 → kept_rows base (opened base t) (length t) k ≤ 15000
rows_few t k h =
    let o = opened base t in
    omega (arith, kept-le base o (length t) k, few-rows base o (length t) k h, few-counted base t k h)

keyed-few : {B : Type 0} (key : List ℕ → ℕ) (f : List ℕ → B) (row : ℕ → List ℕ) (k n : ℕ) → length (of_key key f row n k) ≤ n
keyed-few key f row k zero = omega arith
keyed-few {B} key f row k (suc n) =
    let less : length (of_key key f row n k) ≤ n = keyed-few key f row k n in
    pick (λ (l : List B). length l ≤ suc n) (eqb (key (row n)) k)
    (λ _. omega (arith, length-append (of_key key f row n k) (f (row n) ∷ []))) (λ _. omega arith)

present-few : {A B : Type 0} (f : A → Option B) (l : List A) → length (present (map f l)) ≤ length l
present-few f [] = omega arith
present-few {A} {B} f (a ∷ l) = go (f a) (present-few f l)
  where
    go : (o : Option B) → length (present (map f l)) ≤ length l → length (present (o ∷ map f l)) ≤ suc (length l)
    go none h = omega arith
    go (some b) h = omega arith

-- What holds of all that a list is made of holds of its items.
pub tabulated : {A : Type 0} (P : A → Type 0) (f : ℕ → A) (start n : ℕ) → ((j : ℕ) → P (f j)) → (i : ℕ) (a : A)
    → get_elem? (tabulate f start n) i ≡ some a → P a
tabulated P f start n h i a e =
    let below : i < n = omega (arith, item-below (tabulate f start n) i e, tabulate-length f start n) in
    let is : some (f (start + i)) ≡ some a = sym (tabulate-item f start n i below) ∙ e in
    let same : f (start + i) ≡ a = cc in
    subst P same (h (start + i))

module _ (t strings heap : List ℕ) where
  abbrev v : View
  v = view base t strings heap

  generics-few : (k : ℕ) → length (v.generics k) ≤ 15000
  unfolding view_of
  generics-few k =
      let o = opened base t in
      let w = sizes_in base o in
      omega (
        arith,
        rows_few t generic_param (omega arith),
        keyed-few (owner w) (λ r. name strings (generic_name w r)) (side_row base o t generic_param) k (kept_rows base o (length t) generic_param),
      )

  interfaces-few : (k : ℕ) → length (v.interfaces k) ≤ 15000
  unfolding view_of
  interfaces-few k =
      let o = opened base t in
      let w = sizes_in base o in
      omega (
        arith,
        rows_few t interface_impl (omega arith),
        keyed-few (impl_class w) (impl_interface w) (side_row base o t interface_impl) k (kept_rows base o (length t) interface_impl),
      )

  rows-few : (k : ℕ) → k < 64 → rows_in v k ≤ 15000
  unfolding view_of
  rows-few k h = rows_few t k h

  few-method : (c m : ℕ) → FewInMethod (method v c m)
  unfolding method
  few-method c m = record { generics = omega (arith, generics-few (2 * (m + 1) + 1)); parameters = omega (arith, method-parameters v c m) }

  bases-few : (c : ℕ) → length (base_types v c) ≤ 15001
  unfolding base_types base_indices
  bases-few c =
      omega (
        arith,
        interfaces-few (class_index c),
        present-few (type_name_in v c) (base_indices v c),
      )

  left-few : (c : ℕ) → left_after v c ≤ 15000
  unfolding left_after
  left-few c = omega (arith, rows-few method_def (omega arith), left_le (rows_in v method_def) (method_lists v c (classes v - c)))

  few-class : (c : ℕ) → FewInClass (class v c)
  unfolding class
  few-class c = record {
    generics = omega (arith, generics-few (2 * class_index c));
    bases = omega (arith, bases-few c);
    methods = omega (arith, left-few (c + 1), tabulate-length (method v c) (left_after v c) (left_after v (c + 1) - left_after v c));
    each = tabulated FewInMethod (method v c) (left_after v c) (left_after v (c + 1) - left_after v c) (few-method c);
  }

  classes-few : classes v ≤ 15000
  unfolding classes
  classes-few = omega (arith, rows-few type_def (omega arith))

  pub few-in : FewIn v
  unfolding class_record
  few-in = record {
    classes = omega (arith, classes-few, tabulate-length (class v) 0 (classes v));
    each = tabulated FewInClass (class v) 0 (classes v) few-class;
  }
