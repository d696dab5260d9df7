-- What the numbers of columns say, of any list of columns that are read: they stand one after the other, and a kept row's columns lie
-- within the stream. Assumes nothing.
use mathlib.Core.Path.{◌≡◌, refl, sym, ap, ◌∙◌}
use mathlib.Core.Bool.{Bool, true, ◌&&◌}
use mathlib.Core.List.{List, [], ◌∷◌, ◌++◌}
use Prim.Native.Nat.{ℕ, zero, suc, ◌+◌, ◌*◌, ◌≤◌, ◌<◌}
use native.Mathlib.Nat.{le_of_suc-le-suc, not-suc-le-zero, mul-le-mul_right, suc-mul}
use native.Mathlib.Omega.{arith}
use lib.Dec.{T, ltb, ltb→lt}
use lib.ListN.{length, get_or}
use Rattle.numbers.specs.Fixed.{le_at, TwoOrFour}
use Rattle.header.specs.declared.Options.{Options}
use Rattle.header.specs.Stream.{Opening}
use Rattle.layouts.specs.Columns.{Two, columns_of, width_in, row_size}
use Rattle.layouts.specs.Read.{Of, offset_in, bytes_in}
use Rattle.layouts.proofs.Reaches.{and_left, and_right}
use Rattle.layouts.proofs.Facts.{two-or-four}
use Rattle.tables.specs.Extents.{Extent, kept_rows, counted, sizes_in}
use Rattle.tables.proofs.Places.{stands}
use Rattle.record.specs.Columns.{column}
use Rattle.record.specs.Rows.{row_bytes}
use Rattle.record.specs.View.{place}
use Rattle.record.proofs.Read.{column-at, column-inside}
use Rattle.record.proofs.Extents.{kept-le}
use Rattle.rows.specs.Columns as columns
use Rattle.rows.specs.Layout.{column_numbers, all_numbers}

-- The numbers of column c stand one after the other.
module _ (o : Options) (h : Opening) (n : ℕ) where
  pub numbers-at : (cs : List Of) (rest : List ℕ) (d₀ : Of) (c d : ℕ) → c < length cs → d < columns.numbers
      → get_or (all_numbers o h n cs ++ rest) (columns.numbers * c + d) 0 ≡ get_or (column_numbers o h n (get_or cs c d₀)) d 0
  numbers-at [] rest d₀ c d l m = absurd (not-suc-le-zero l)
  numbers-at (x ∷ cs) rest d₀ zero zero l m = refl
  numbers-at (x ∷ cs) rest d₀ zero (suc zero) l m = refl
  numbers-at (x ∷ cs) rest d₀ zero (suc (suc zero)) l m = refl
  numbers-at (x ∷ cs) rest d₀ zero (suc (suc (suc zero))) l m = refl
  numbers-at (x ∷ cs) rest d₀ zero (suc (suc (suc (suc zero)))) l m = refl
  numbers-at (x ∷ cs) rest d₀ zero (suc (suc (suc (suc (suc d))))) l m = absurd (omega arith)
  numbers-at (x ∷ cs) rest d₀ (suc c) d l m =
      let e : columns.numbers * suc c + d ≡ suc (suc (suc (suc (suc (columns.numbers * c + d))))) = omega arith in
      rw e (numbers-at cs rest d₀ c d (le_of_suc-le-suc l) m)

-- Every column of a list is a column of a known table: one test over all of them.
abbrev pub known : List Of → Bool
known [] = true
known (c ∷ cs) = ltb c.kind 45 && (ltb c.place (length (columns_of c.kind)) && known cs)

pub known_at : (cs : List Of) (d : Of) → T (known cs) → (c : ℕ) → c < length cs → ((get_or cs c d).kind < 45) × ((get_or cs c d).place < length (columns_of (get_or cs c d).kind))
known_at [] d t c l = absurd (not-suc-le-zero l)
known_at (x ∷ cs) d t zero l =
    let more = and_right (ltb x.kind 45) _ t in
    (ltb→lt x.kind 45 (and_left (ltb x.kind 45) _ t), ltb→lt x.place _ (and_left (ltb x.place _) (known cs) more))
known_at (x ∷ cs) d t (suc c) l =
    known_at cs d (and_right (ltb x.place _) (known cs) (and_right (ltb x.kind 45) _ t)) c (le_of_suc-le-suc l)

-- Where column c stands in the first row of its table.
abbrev first_at : List ℕ → ℕ → ℕ
first_at l c = get_or l (columns.numbers * c) 0 + get_or l (columns.numbers * c + columns.start_high) 0 * columns.word

-- What reading row i of a column relies on, by the column's numbers: the number lies within the stream, and is v.
pub record Reads (t : List ℕ) (v i first step width : ℕ) : Type 0 where
  pub sized : TwoOrFour width
  pub small : i * step ≤ length t
  pub within : first + i * step + width ≤ length t
  pub is : le_at width t (first + i * step) ≡ v

-- The list l begins with the numbers of the columns cs.
module _ (cs : List Of) (d₀ : Of) (each : T (known cs)) (o : Options) (h : Opening) (t l : List ℕ)
    (number_at : (c d : ℕ) → c < length cs → d < columns.numbers
    → get_or l (columns.numbers * c + d) 0 ≡ get_or (column_numbers o h (length t) (get_or cs c d₀)) d 0) where
  abbrev cell_of : ℕ → ℕ → ℕ
  cell_of c i = column (get_or cs c d₀).kind (get_or cs c d₀).place (sizes_in o h) (row_bytes (place o h t (get_or cs c d₀).kind) t i)

  first-at : (c : ℕ) → c < length cs → first_at l c ≡ (place o h t (get_or cs c d₀).kind).start + offset_in (sizes_in o h) (get_or cs c d₀)
  first-at c k =
      let e : columns.numbers * c ≡ columns.numbers * c + 0 = omega arith in
      let low = ap (λ (x : ℕ). get_or l x 0) e ∙ number_at c 0 k (omega arith) in
      let high = number_at c columns.start_high k (omega arith) in
      omega arith

  reads_at : (c i : ℕ) → c < length cs → i < kept_rows o h (length t) (get_or cs c d₀).kind
      → Reads t (cell_of c i) i (first_at l c) (get_or l (columns.numbers * c + columns.step) 0) (get_or l (columns.numbers * c + columns.width) 0)
  unfolding row_size
  reads_at c i k lt =
      let a = first-at c k in
      let b = number_at c columns.step k (omega arith) in
      let d = number_at c columns.width k (omega arith) in
      let known = known_at cs d₀ each c k in
      let kept = kept-le o h (length t) (get_or cs c d₀).kind in
      let s = stands o h (length t) (get_or cs c d₀).kind known.0 (omega arith) in
      let e : Extent = place o h t (get_or cs c d₀).kind in
      let all : suc i * e.size ≤ e.rows * e.size = mul-le-mul_right e.size (omega arith) in
      let one = suc-mul i e.size in
      let inside = column-inside (width_in (sizes_in o h)) (columns_of (get_or cs c d₀).kind) (get_or cs c d₀).place known.1 in
      let step : i * get_or l (columns.numbers * c + columns.step) 0 ≡ i * e.size = ap (λ (x : ℕ). i * x) b in
      let at : e.start + i * e.size + offset_in (sizes_in o h) (get_or cs c d₀) ≡ first_at l c + i * get_or l (columns.numbers * c + columns.step) 0 = omega arith in
      record {
        sized = rw d (two-or-four (counted o h) h.heap h.counts (get_or (columns_of (get_or cs c d₀).kind) (get_or cs c d₀).place Two));
        small = omega (arith, s.within);
        within = omega (arith, s.within, s.sized);
        is =
            rw d (ap (le_at (bytes_in (sizes_in o h) (get_or cs c d₀)) t) (sym at)
            ∙ sym (column-at (get_or cs c d₀).kind (get_or cs c d₀).place (sizes_in o h) e t i s.sized known.1));
      }

  -- As the code has the numbers.
  pub numbers-read : (c i : ℕ) → c < length cs → i < kept_rows o h (length t) (get_or cs c d₀).kind → {low high step width : ℕ}
      → low ≡ get_or l (columns.numbers * c) 0
      → high ≡ get_or l (columns.numbers * c + columns.start_high) 0
      → step ≡ get_or l (columns.numbers * c + columns.step) 0
      → width ≡ get_or l (columns.numbers * c + columns.width) 0
      → Reads t (cell_of c i) i (low + high * columns.word) step width
  numbers-read c i k lt e0 e1 e2 e3 = rw (e0, e1, e2, e3) (reads_at c i k lt)
