-- How a layout is filled from its front, the numbers of a column in each turn: of any list of columns. Assumes nothing.
use mathlib.Core.Path.{◌≡◌, sym, ap, ◌∙◌}
use mathlib.Core.Bool.{true, cond, ◌&&◌, not}
use mathlib.Core.List.{List, map}
use Prim.Native.Nat.{ℕ, ◌+◌, ◌*◌, ◌/◌, ◌%◌, ◌≤◌, ◌<◌}
use native.Mathlib.Nat.{not-suc-le-zero}
use native.Mathlib.Omega.{arith}
use borrow.Author.Count.{below_more}
use lib.Dec.{eqb}
use lib.ListN.{length, get_or, set, length-set, length-replicate, replicate, get_or-replicate}
use lib.Seq.{get_or-set_same, get_or-set_other}
use Rattle.header.specs.declared.Options.{Options}
use Rattle.header.specs.Stream.{Opening}
use Rattle.layouts.specs.declared.IndexSizes.{IndexSizes}
use Rattle.layouts.specs.Lists.{all_below}
use Rattle.layouts.specs.Read.{Of, offset_in, bytes_in}
use Rattle.layouts.proofs.Reaches.{below}
use Rattle.layouts.proofs.Lists.{made_at}
use Rattle.tables.specs.Extents.{Walked, walk_says, walk_reply, extent, extent_by, only_entire, kept_by, sizes_in}
use Rattle.tables.specs.declared.Extents.{Extents}
use Rattle.rows.specs.Columns as columns
use Rattle.rows.specs.Layout.{column_numbers}

-- Of the numbers of l, which has so many, the first m are those of `all`, and the others are 0.
pub record Filled (size : ℕ) (all l : List ℕ) (m : ℕ) : Type 0 where
  pub long : length l ≡ size
  pub same : (j : ℕ) → j < m → get_or l j 0 ≡ get_or all j 0
  pub unset : (j : ℕ) → m ≤ j → j < size → get_or l j 0 ≡ 0

pub empty : (size : ℕ) (all : List ℕ) → Filled size all (replicate size 0) 0
empty size all =
    record { long = length-replicate size 0; same = λ j h. absurd (not-suc-le-zero h); unset = λ j h k. get_or-replicate size j 0 0 k }

pub put : {size : ℕ} {all l : List ℕ} {m : ℕ} → Filled size all l m → m < size → (v : ℕ) → v ≡ get_or all m 0 → Filled size all (set l m v) (m + 1)
put {size} {all} {l} {m} f h v e =
    record {
      long = simp length-set f.long;
      same =
          below_more _ _ (λ j a. get_or-set_other l m j v 0 (λ r. omega arith) ∙ f.same j a)
          (get_or-set_same l m v 0 (omega (arith, f.long)) ∙ e);
      unset = λ j a b. get_or-set_other l m j v 0 (λ r. omega arith) ∙ f.unset j (omega arith) b;
    }

pub turn : {size : ℕ} {all l : List ℕ} (c : ℕ) → Filled size all l (columns.numbers * c) → columns.numbers * (c + 1) ≤ size → {v0 v1 v2 v3 v4 : ℕ}
    → v0 ≡ get_or all (columns.numbers * c) 0
    → v1 ≡ get_or all (columns.numbers * c + columns.start_high) 0
    → v2 ≡ get_or all (columns.numbers * c + columns.step) 0
    → v3 ≡ get_or all (columns.numbers * c + columns.width) 0
    → v4 ≡ get_or all (columns.numbers * c + columns.rows) 0
    → Filled size all
    (set (set (set (set (set l (columns.numbers * c) v0) (columns.numbers * c + columns.start_high) v1)
    (columns.numbers * c + columns.step) v2) (columns.numbers * c + columns.width) v3) (columns.numbers * c + columns.rows) v4)
    (columns.numbers * (c + 1))
turn {size} {all} {l} c f h {v0} {v1} {v2} {v3} {v4} e0 e1 e2 e3 e4 =
    let at : ℕ = columns.numbers * c in
    let a = put f (omega arith) v0 e0 in
    let b = put a (omega arith) v1 e1 in
    let p : at + columns.start_high + 1 ≡ at + columns.step = omega arith in
    let d = put (rw p at b) (omega arith) v2 e2 in
    let q : at + columns.step + 1 ≡ at + columns.width = omega arith in
    let g = put (rw q at d) (omega arith) v3 e3 in
    let r : at + columns.width + 1 ≡ at + columns.rows = omega arith in
    let k = put (rw r at g) (omega arith) v4 e4 in
    let z : at + columns.rows + 1 ≡ columns.numbers * (c + 1) = omega arith in
    rw z at k

-- What an array of the code has for a column.
pub read_at : (g : Of → ℕ) (cs : List Of) (d₀ : Of) (l : List ℕ) → l ≡ map g cs → (c : ℕ) → c < length cs → get_or l c 0 ≡ g (get_or cs c d₀)
read_at g cs d₀ l e c h = rw e (made_at g d₀ cs c 0 h)

-- The table of a column has a number that an array of 64 has: one test over all columns.
pub kind-below : (cs : List Of) → all_below 64 (map (λ x. x.kind) cs) ≡ true → (kinds : List ℕ) → kinds ≡ map (λ x. x.kind) cs → (c : ℕ) → get_or kinds c 0 < 64
kind-below cs all kinds e c = rw e (below (map (λ x. x.kind) cs) all c)

-- The numbers of a column, as the code has them, are those of the columns cs, which `all` begins with.
module _ (o : Options) (h : Opening) (n : ℕ) (cs : List Of) (d₀ : Of) (all : List ℕ)
    (all-at : (c d : ℕ) → c < length cs → d < columns.numbers → get_or all (columns.numbers * c + d) 0 ≡ get_or (column_numbers o h n (get_or cs c d₀)) d 0) where
  module _ (r : Extents) (e : walk_says r ≡ walk_reply o h n) (c k : ℕ) (l : c < length cs) (ek : k ≡ (get_or cs c d₀).kind) where
    -- Where it stands, and from that the two words.
    pub first-is : (w : IndexSizes) (f g : ℕ) → w ≡ sizes_in o h → f ≡ offset_in w (get_or cs c d₀) → g ≡ f
        → get_or r.starts k 0 + g ≡ (extent o h n (get_or cs c d₀).kind).start + offset_in (sizes_in o h) (get_or cs c d₀)
    unfolding extent_by
    first-is w f g ew ef eg = rw (ap (λ (w : Walked). w.starts) e, ek, eg, ef, ew)

    pub step_is : (s : ℕ) → s ≡ get_or r.sizes k 0 → s ≡ get_or all (columns.numbers * c + columns.step) 0
    unfolding extent_by
    step_is s es = es ∙ rw (ap (λ (w : Walked). w.sizes) e, ek) (sym (all-at c columns.step l (omega arith)))

    pub kept-is : (v : ℕ) → v ≡ cond (only_entire k && not (eqb (get_or r.rows k 0) (get_or h.counts k 0))) 0 (get_or r.rows k 0)
        → v ≡ get_or all (columns.numbers * c + columns.rows) 0
    unfolding extent_by kept_by
    kept-is v ev = ev ∙ rw (ap (λ (w : Walked). w.rows) e, ek) (sym (all-at c columns.rows l (omega arith)))

  pub width_is : (c : ℕ) → c < length cs → (w : IndexSizes) (f g : ℕ) → w ≡ sizes_in o h → f ≡ bytes_in w (get_or cs c d₀) → g ≡ f
      → g ≡ get_or all (columns.numbers * c + columns.width) 0
  width_is c l w f g ew ef eg = eg ∙ ef ∙ ap (λ (v : IndexSizes). bytes_in v (get_or cs c d₀)) ew ∙ sym (all-at c columns.width l (omega arith))

  -- The two words of where a column stands.
  module _ (c : ℕ) (l : c < length cs) {first : ℕ} (e : first ≡ (extent o h n (get_or cs c d₀).kind).start + offset_in (sizes_in o h) (get_or cs c d₀)) where
    pub low-is : first % columns.word ≡ get_or all (columns.numbers * c) 0
    low-is =
        let z : columns.numbers * c + 0 ≡ columns.numbers * c = omega arith in
        rw e (sym (rw z at (all-at c 0 l (omega arith))))

    pub high_is : first / columns.word ≡ get_or all (columns.numbers * c + columns.start_high) 0
    high_is = rw e (sym (all-at c columns.start_high l (omega arith)))
