-- The base types of a class among its first candidates; the turns of a search over them; and the candidates by the rows that they come
-- from. Assumes nothing.
use mathlib.Core.Path.{◌≡◌, refl, sym, ap, ◌∙◌, subst}
use mathlib.Core.List.{List, [], ◌∷◌, ◌++◌, map, map-append, append-nil}
use mathlib.Core.Option.{Option, none, some, none-ne-some, some-ne-none, some-injective}
use Prim.Native.Nat.{ℕ, zero, suc, ◌+◌, ◌-◌, ◌*◌, ◌≤◌, ◌<◌}
use native.Mathlib.Numerals.{add-one}
use native.Mathlib.Omega.{arith}
use lib.ListN.{length, get_elem?, take, drop, length-append}
use lib.Seq.{take_all}
use Rattle.numbers.proofs.Lists.{item-seam, item-past}
use Rattle.buffers.specs.Texts.{Text}
use Rattle.buffers.specs.Writes.{Place, Kept, Said, missing, written, place_says}
use Rattle.buffers.proofs.Writing.{kept_same, said-some, said-none, kept_then, wrote-anew}
use Rattle.record.specs.Missing.{over, or_default, present}
use Rattle.record.specs.Readings.{total}
use Rattle.record.specs.Columns.{extends}
use Rattle.record.specs.View.{View, view_of}
use Rattle.record.specs.Types.{type_full_name, type}
use Rattle.record.specs.Names.{number_in, class_row, sizes_of, levels, type_in, type_name_in, type_steps_in, base_indices, base_types, base_steps}
use Rattle.record.proofs.Read.{class-row}
use Rattle.rows.specs.Columns as columns
use Rattle.rows.specs.Layout.{Laid, rows_at, cell, options_in, view_in}
use Rattle.rows.proofs.Classes.{classes-are}
use Rattle.steps.specs.Counting.{Steps, Takes, left, spent}
use Rattle.steps.proofs.Laws.{takes-left, takes-spent}
use Rattle.signatures.specs.Environment.{env_in}
use Rattle.rows.specs.Held.{keyed}
use Rattle.keys.specs.Keyed.{Row, FoundIs}
use Rattle.keys.proofs.Laws.{keyed-none, keyed-at-most, interfaces-count, interfaces-found, interfaces-missed, interfaces-passed}
use Rattle.bases.specs.Candidates.{bases_among, KnowsBases, CandidateIs, index, past}
use Rattle.bases.specs.declared.Bases.{Bases}
use Rattle.std.specs.Prelude.{Some, None}

-- ---- An item of a list

item-cut : {A : Type 0} (l : List A) (i : ℕ) {x : A} → get_elem? l i ≡ some x → l ≡ take i l ++ x ∷ drop (suc i) l
item-cut [] i {x} e = absurd (none-ne-some x e)
item-cut (y ∷ l) zero {x} e = ap (λ z. z ∷ l) (some-injective y x e)
item-cut (y ∷ l) (suc i) e = ap (λ r. y ∷ r) (item-cut l i e)

item-take : {A : Type 0} (l : List A) (i : ℕ) {x : A} → get_elem? l i ≡ some x → take (suc i) l ≡ take i l ++ x ∷ []
item-take [] i {x} e = absurd (none-ne-some x e)
item-take (y ∷ l) zero {x} e = ap (λ z. z ∷ []) (some-injective y x e)
item-take (y ∷ l) (suc i) e = ap (λ r. y ∷ r) (item-take l i e)

item-none : {A : Type 0} (l : List A) (i : ℕ) → get_elem? l i ≡ none → length l ≤ i
item-none [] i e = omega arith
item-none (y ∷ l) zero e = absurd (some-ne-none y e)
item-none (y ∷ l) (suc i) e = omega (arith, item-none l i e)

-- ---- Names of which some are missing

present-append : {A : Type 0} (l m : List (Option A)) → present (l ++ m) ≡ present l ++ present m
present-append [] m = refl
present-append (none ∷ l) m = present-append l m
present-append (some a ∷ l) m = ap (λ k. a ∷ k) (present-append l m)

named-append : {A : Type 0} (f : ℕ → Option A) (l m : List ℕ) → present (map f (l ++ m)) ≡ present (map f l) ++ present (map f m)
named-append f l m = ap present (map-append f l m) ∙ present-append (map f l) (map f m)

present-most : {A : Type 0} (l : List (Option A)) → length (present l) ≤ length l
present-most [] = omega arith
present-most (none ∷ l) = omega (arith, present-most l)
present-most (some a ∷ l) = omega (arith, present-most l)

taken-most : {A : Type 0} (f : ℕ → Option A) (l : List ℕ) (i : ℕ) → length (map f (take i l)) ≤ i
taken-most f l zero = omega arith
taken-most f [] (suc i) = omega arith
taken-most f (x ∷ l) (suc i) = omega (arith, taken-most f l i)

-- ---- The base types among the first candidates

module _ (v : View) (c : ℕ) where
  pub among_none : 0 ≡ length (bases_among v c 0)
  unfolding bases_among
  among_none = refl

  pub among-most : (i : ℕ) → length (bases_among v c i) ≤ i
  unfolding bases_among
  among-most i =
      let a = present-most (map (type_name_in v c) (take i (base_indices v c))) in
      let b = taken-most (type_name_in v c) (base_indices v c) i in
      omega arith

  -- Past the last candidate all base types are among them.
  pub among-all : (i : ℕ) → length (base_indices v c) ≤ i → bases_among v c i ≡ base_types v c
  unfolding bases_among base_types
  among-all i h = ap (λ l. present (map (type_name_in v c) l)) (take_all i (base_indices v c) h)

  -- One candidate more, by its name.
  module _ (i : ℕ) {x : ℕ} (at : get_elem? (base_indices v c) i ≡ some x) where
    among-more : bases_among v c (i + 1) ≡ bases_among v c i ++ present (type_name_in v c x ∷ [])
    unfolding bases_among
    among-more =
        rw (add-one i) (ap (λ l. present (map (type_name_in v c) l)) (item-take (base_indices v c) i at)
        ∙ named-append (type_name_in v c) (take i (base_indices v c)) (x ∷ []))

    pub among-missing : type_name_in v c x ≡ none → length (bases_among v c i) ≡ length (bases_among v c (i + 1))
    among-missing e =
        sym (ap length (among-more ∙ ap (λ o. bases_among v c i ++ present (o ∷ [])) e ∙ append-nil (bases_among v c i)))

    module _ {t : Text} (e : type_name_in v c x ≡ some t) where
      pub among-named : length (bases_among v c i) + 1 ≡ length (bases_among v c (i + 1))
      among-named =
          sym (ap length (among-more ∙ ap (λ o. bases_among v c i ++ present (o ∷ [])) e) ∙ length-append (bases_among v c i) (t ∷ []))

      pub among-item : get_elem? (base_types v c) (length (bases_among v c i)) ≡ some t
      unfolding bases_among base_types
      among-item =
          let rest = drop (suc i) (base_indices v c) in
          let f = type_name_in v c in
          let is : base_types v c ≡ bases_among v c i ++ t ∷ present (map f rest) =
          ap (λ l. present (map f l)) (item-cut (base_indices v c) i at)
          ∙ named-append f (take i (base_indices v c)) (x ∷ rest)
          ∙ ap (λ o. bases_among v c i ++ present (o ∷ map f rest)) e in
          rw is (item-seam (bases_among v c i) t (present (map f rest)))

-- ---- The candidates by their rows

module _ {t l : List ℕ} (laid : Laid t l) (strings blob : List ℕ) (r : ℕ) (low : 1 < r) where
  abbrev v : View
  v = view_in t l strings blob

  -- The name behind an index, in a row of the class, as a signature has it.
  pub type-name : (k i : ℕ) → k ≡ 2 * r
      → (type_full_name (env_in t l strings blob (Some k) None) (type (env_in t l strings blob (Some k) None) levels) i).got ≡ type_name_in v (r - 2) i
  unfolding env_in type_in type_name_in
  type-name k i e = let q : k ≡ 2 * (r - 2 + 2) = omega arith in rw q

  pub type-steps : (k i : ℕ) → k ≡ 2 * r
      → (type_full_name (env_in t l strings blob (Some k) None) (type (env_in t l strings blob (Some k) None) levels) i).steps ≡ type_steps_in v (r - 2) i
  unfolding env_in type_in type_steps_in
  type-steps k i e = let q : k ≡ 2 * (r - 2 + 2) = omega arith in rw q

  extended : r ≤ rows_at l columns.type_name → number_in v extends (class_row v (r - 2)) ≡ cell t l columns.extends (r - 1)
  unfolding view_of
  extended h =
      let c : r - 2 + 1 ≡ r - 1 = omega arith in
      ap (λ (x : Option (List ℕ)). or_default 0 (over (extends (sizes_of v)) x))
      (class-row (options_in l) t strings blob (r - 2) (omega (arith, classes-are laid strings blob columns.type_name (omega arith) refl)))
      ∙ ap (cell t l columns.extends) c

  pub candidate-extended : (i : ℕ) {p x : ℕ} → r ≤ rows_at l columns.type_name → i ≡ 0 → p ≡ r - 1 → x ≡ cell t l columns.extends p
      → CandidateIs t l strings blob r i (Some (x, 0))
  unfolding base_indices
  candidate-extended i {p} h z e f = rw z (index {after = 0} (ap some (extended h ∙ sym (f ∙ ap (cell t l columns.extends) e))) (omega arith) (keyed-none _ _))

  -- The interfaces of the class by its row.
  interface-item : (j : ℕ) → get_elem? (base_indices v (r - 2)) (suc j) ≡ get_elem? (v.interfaces r) j
  unfolding base_indices
  interface-item j = let c : r - 2 + 2 ≡ r = omega arith in ap (λ (k : ℕ). get_elem? (v.interfaces k) j) c

  module _ (i : ℕ) {key nth : ℕ} (found : Row) (z : i ≡ 0 → ⊥) (k : key ≡ r) (q : nth ≡ i - 1)
      (f : FoundIs (cell t l columns.impl_class) key (rows_at l columns.impl_class) nth found) where
    finds : FoundIs (cell t l columns.impl_class) r (rows_at l columns.impl_class) (i - 1) found
    finds = rw (k, q) at f

    pub candidate-own : (j : ℕ) {x : ℕ} → found ≡ Some j → x ≡ cell t l columns.impl_interface j → CandidateIs t l strings blob r i (Some (x, (j + 1)))
    candidate-own j e g =
        let one : i ≡ suc (i - 1) = omega arith in
        let sum : i ≡ i - 1 + 1 = omega arith in
        let item = interfaces-found laid strings blob r (i - 1) j finds e in
        index {after = j + 1} (ap (get_elem? (base_indices v (r - 2))) one ∙ interface-item (i - 1) ∙ item.2 ∙ ap some (sym g)) (omega (arith, item.0)) (sum ∙ interfaces-passed laid strings blob r (i - 1) j finds e)

    pub candidate-past : found ≡ None → CandidateIs t l strings blob r i None
    candidate-past e =
        let one : i ≡ suc (i - 1) = omega arith in
        past (ap (get_elem? (base_indices v (r - 2))) one ∙ interface-item (i - 1) ∙ interfaces-missed laid strings blob r (i - 1) finds e)

  pub candidates-most : length (base_indices v (r - 2)) ≤ rows_at l columns.impl_class + 1
  unfolding base_indices
  candidates-most =
      let c : r - 2 + 2 ≡ r = omega arith in
      let n : length (v.interfaces (r - 2 + 2)) ≡ keyed (cell t l columns.impl_class) r (rows_at l columns.impl_class) =
      ap (λ (k : ℕ). length (v.interfaces k)) c ∙ interfaces-count laid strings blob r in
      omega (arith, keyed-at-most (cell t l columns.impl_class) r (rows_at l columns.impl_class))

  pub bases-most : length (base_types v (r - 2)) ≤ rows_at l columns.impl_class + 1
  bases-most =
      let n = rows_at l columns.impl_class + 1 in
      subst (λ (bases : List Text). length bases ≤ n) (among-all v (r - 2) n candidates-most) (among-most v (r - 2) n)

  -- Past all of them none is found.
  pub never-found : {b b' : List ℕ} {at : ℕ} (nth : ℕ) (p : Place) → rows_at l columns.impl_class + 1 ≤ nth
      → Said b at b' (get_elem? (base_types v (r - 2)) nth) (place_says p) → p ≡ None
  never-found nth None h s = refl
  never-found nth (Some at) h s =
      absurd (none-ne-some _ (sym (item-past (base_types v (r - 2)) nth (omega (arith, bases-most))) ∙ (said-some s).is))

-- What a candidate that was matched says.
module _ {t l strings blob : List ℕ} {r i : ℕ} where
  pub candidate-index : {x after : ℕ} → CandidateIs t l strings blob r i (Some (x, after))
      → (get_elem? (base_indices (view_in t l strings blob) (r - 2)) i ≡ some x)
      × (after ≤ rows_at l columns.impl_class)
      × (i ≡ keyed (cell t l columns.impl_class) r after)
  candidate-index (index e a k) = (e, a, k)

  pub candidate-none : CandidateIs t l strings blob r i None → get_elem? (base_indices (view_in t l strings blob) (r - 2)) i ≡ none
  candidate-none (past e) = e

-- ---- The search for a base type

-- Of the class at TypeDef row r, i candidates have been tried and so many base types seen; the next candidate is looked for from a
-- place of InterfaceImpl on. From the buffer b₀ to b nothing before the place `at` changed.
pub record Searching (t l strings blob : List ℕ) (r nth : ℕ) (b₀ : List ℕ) (at : ℕ) (b : List ℕ) (i seen from passed : ℕ) : Type 0 where
  pub counted : seen ≡ length (bases_among (view_in t l strings blob) (r - 2) i)
  pub few : seen ≤ nth
  pub within : from ≤ rows_at l columns.impl_class
  pub own : passed ≡ keyed (cell t l columns.impl_class) r from
  pub less : passed ≤ i - 1
  pub keeps : Kept b₀ at b

-- What is known of a class, by its row as a number.
pub knows-none : (v : View) (row : ℕ) → KnowsBases v (record { row = row; seen = 0; tried = 0 })
knows-none v row = record { counted = λ _. among_none v (row - 2) }

knows-so-many : (v : View) (key r seen tried : ℕ) → key ≡ r → seen ≡ length (bases_among v (r - 2) tried)
    → KnowsBases v (record { row = key; seen = seen; tried = tried })
knows-so-many v key r seen tried e s = rw e (record { counted = λ _. s })

module _ {t l strings blob : List ℕ} {r nth : ℕ} {b₀ : List ℕ} {at : ℕ} where
  pub search-start : (k : Bases) {key : ℕ} → 1 < r → KnowsBases (view_in t l strings blob) k → k.row ≡ key → key ≡ r → k.seen ≤ nth
      → Searching t l strings blob r nth b₀ at b₀ k.tried k.seen 0 0
  search-start k {key} low knows e f few =
      let row : k.row ≡ r = e ∙ f in
      record {
        counted = subst (λ (m : ℕ). k.seen ≡ length (bases_among (view_in t l strings blob) (m - 2) k.tried)) row (knows.counted (omega arith));
        few = few;
        within = omega arith;
        own = keyed-none _ _;
        less = omega arith;
        keeps = kept_same b₀ at;
      }

  module _ {b : List ℕ} {i seen from passed : ℕ} (s : Searching t l strings blob r nth b₀ at b i seen from passed) where
    pub search-seen : seen ≤ i
    search-seen = omega (arith, s.counted, among-most (view_in t l strings blob) (r - 2) i)

    -- A candidate has been rendered.
    module _ {b' : List ℕ} {x after : ℕ} (c : CandidateIs t l strings blob r i (Some (x, after))) where
      pub search-more : {at' : ℕ} → seen + 1 ≤ nth → Said b at b' (type_name_in (view_in t l strings blob) (r - 2) x) (some at')
          → Searching t l strings blob r nth b₀ at b' (i + 1) (seen + 1) after i
      search-more n said =
          let is = candidate-index c in
          let name = said-some said in
          record {
            counted = ap (λ (m : ℕ). m + 1) s.counted ∙ among-named (view_in t l strings blob) (r - 2) i is.0 name.is;
            few = n;
            within = is.1;
            own = is.2;
            less = omega arith;
            keeps = kept_then s.keeps name.wrote.keeps;
          }

      pub search-on : Said b at b' (type_name_in (view_in t l strings blob) (r - 2) x) none → Searching t l strings blob r nth b₀ at b' (i + 1) seen after i
      search-on said =
          let is = candidate-index c in
          let gone = said-none said in
          record {
            counted = s.counted ∙ among-missing (view_in t l strings blob) (r - 2) i is.0 gone.0;
            few = s.few;
            within = is.1;
            own = is.2;
            less = omega arith;
            keeps = kept_then s.keeps gone.1;
          }

      -- The one that was looked for.
      pub search-found : {at' key : ℕ} → key ≡ r → nth < seen + 1 → Said b at b' (type_name_in (view_in t l strings blob) (r - 2) x) (some at')
          → Said b₀ at b' (get_elem? (base_types (view_in t l strings blob) (r - 2)) nth) (some at') × KnowsBases (view_in t l strings blob) (record { row = key; seen = seen + 1; tried = i + 1 })
      search-found {at'} {key} k h said =
          let q : seen ≡ nth = omega (arith, s.few, h) in
          let is = candidate-index c in
          let name = said-some said in
          let item : get_elem? (base_types (view_in t l strings blob) (r - 2)) nth ≡ some name.text =
          ap (get_elem? (base_types (view_in t l strings blob) (r - 2))) (sym q ∙ s.counted) ∙ among-item (view_in t l strings blob) (r - 2) i is.0 name.is in (
            rw item (written (wrote-anew s.keeps name.wrote)),
            knows-so-many (view_in t l strings blob) key r (seen + 1) (i + 1) k
                (ap (λ (m : ℕ). m + 1) s.counted ∙ among-named (view_in t l strings blob) (r - 2) i is.0 name.is),
          )

    -- All candidates have been tried, of which there are no more than so many.
    module _ {last : ℕ} (most : length (base_indices (view_in t l strings blob) (r - 2)) ≤ last) where
      pub search-over : {key : ℕ} → key ≡ r → length (base_indices (view_in t l strings blob) (r - 2)) ≤ i
          → Said b₀ at b (get_elem? (base_types (view_in t l strings blob) (r - 2)) nth) none
          × KnowsBases (view_in t l strings blob) (record { row = key; seen = seen; tried = last })
          × (seen ≡ length (base_types (view_in t l strings blob) (r - 2)))
      search-over {key} k h =
          let all : seen ≡ length (base_types (view_in t l strings blob) (r - 2)) = s.counted ∙ ap length (among-all (view_in t l strings blob) (r - 2) i h) in (
            rw (item-past (base_types (view_in t l strings blob) (r - 2)) nth (omega (arith, s.few))) (missing s.keeps),
            knows-so-many (view_in t l strings blob) key r seen last k (all ∙ sym (ap length (among-all (view_in t l strings blob) (r - 2) last most))),
            all,
          )

      pub search-past : {key : ℕ} → key ≡ r → CandidateIs t l strings blob r i None
          → Said b₀ at b (get_elem? (base_types (view_in t l strings blob) (r - 2)) nth) none
          × KnowsBases (view_in t l strings blob) (record { row = key; seen = seen; tried = last })
          × (seen ≡ length (base_types (view_in t l strings blob) (r - 2)))
      search-past k c = search-over k (item-none (base_indices (view_in t l strings blob) (r - 2)) i (candidate-none c))

-- ---- Passing over all base types

total-append : (l m : List ℕ) → total (l ++ m) ≡ total l + total m
total-append [] m = omega arith
total-append (n ∷ l) m = omega (arith, total-append l m)

-- The steps of the first i candidates.
unfoldable pub steps_among : View → ℕ → ℕ → ℕ
steps_among v c i = total (map (type_steps_in v c) (take i (base_indices v c)))

module _ (v : View) (c : ℕ) where
  steps_all : (i : ℕ) → length (base_indices v c) ≤ i → steps_among v c i ≡ base_steps v c
  unfolding steps_among base_steps
  steps_all i h = ap (λ (l : List ℕ). total (map (type_steps_in v c) l)) (take_all i (base_indices v c) h)

  module _ (i : ℕ) {x : ℕ} (at : get_elem? (base_indices v c) i ≡ some x) where
    steps-more : steps_among v c (i + 1) ≡ steps_among v c i + type_steps_in v c x
    unfolding steps_among
    steps-more =
        let f = type_steps_in v c in
        rw (add-one i) (ap (λ (l : List ℕ). total (map f l)) (item-take (base_indices v c) i at)
        ∙ ap total (map-append f (take i (base_indices v c)) (x ∷ [])) ∙ total-append (map f (take i (base_indices v c))) (f x ∷ [])
        ∙ (let one : total (map f (take i (base_indices v c))) + (f x + 0) ≡ total (map f (take i (base_indices v c))) + f x = omega arith in one))

    steps-least : steps_among v c i + type_steps_in v c x ≤ base_steps v c
    unfolding steps_among base_steps
    steps-least =
        let f = type_steps_in v c in
        let cut = item-cut (base_indices v c) i at in
        let all : total (map f (base_indices v c)) ≡ total (map f (take i (base_indices v c))) + (f x + total (map f (drop (suc i) (base_indices v c)))) =
        ap (λ (l : List ℕ). total (map f l)) cut ∙ ap total (map-append f (take i (base_indices v c)) (x ∷ drop (suc i) (base_indices v c)))
        ∙ total-append (map f (take i (base_indices v c))) (map f (x ∷ drop (suc i) (base_indices v c))) in
        omega (arith, all)

-- Of the class at TypeDef row r, i candidates have been passed, and so many of the steps are left; the next candidate is looked for from a
-- place of InterfaceImpl on.
pub record Passing (t l strings blob : List ℕ) (r steps i from passed have : ℕ) : Type 0 where
  pub paid : steps_among (view_in t l strings blob) (r - 2) i + have ≡ steps
  pub within : from ≤ rows_at l columns.impl_class
  pub own : passed ≡ keyed (cell t l columns.impl_class) r from
  pub less : passed ≤ i - 1

module _ {t l strings blob : List ℕ} {r steps : ℕ} where
  pub pass-start : Passing t l strings blob r steps 0 0 0 steps
  unfolding steps_among
  pass-start = record { paid = omega arith; within = omega arith; own = keyed-none _ _; less = omega arith }

  module _ {i from passed have : ℕ} (s : Passing t l strings blob r steps i from passed have) where
    module _ {x after : ℕ} (c : CandidateIs t l strings blob r i (Some (x, after))) {rest : Steps} (takes : Takes (type_steps_in (view_in t l strings blob) (r - 2) x) have rest) where
      pub pass-more : {k : ℕ} → rest ≡ Some k → Passing t l strings blob r steps (i + 1) after i k
      pass-more e =
          let is = candidate-index c in
          record {
            paid = omega (arith, s.paid, takes-left takes e, steps-more (view_in t l strings blob) (r - 2) i is.0);
            within = is.1;
            own = is.2;
            less = omega arith;
          }

      pub pass_spent : rest ≡ None → Takes (base_steps (view_in t l strings blob) (r - 2)) steps None
      pass_spent e =
          let is = candidate-index c in
          spent (omega (arith, s.paid, takes-spent takes e, steps-least (view_in t l strings blob) (r - 2) i is.0))

    pub pass_all : length (base_indices (view_in t l strings blob) (r - 2)) ≤ i → Takes (base_steps (view_in t l strings blob) (r - 2)) steps (Some have)
    pass_all h = left {rest = have} (omega (arith, s.paid, steps_all (view_in t l strings blob) (r - 2) i h))

    pub pass-past : CandidateIs t l strings blob r i None → Takes (base_steps (view_in t l strings blob) (r - 2)) steps (Some have)
    pass-past c = pass_all (item-none (base_indices (view_in t l strings blob) (r - 2)) i (candidate-none c))
