-- What a layout says: the numbers of each column, the kept rows, and what its columns are read as. Assumes nothing.
use mathlib.Core.Path.{◌≡◌, refl, sym, ap, subst, ◌∙◌}
use mathlib.Core.Bool.{Bool, true}
use mathlib.Core.List.{List}
use Prim.Native.Nat.{ℕ, zero, suc, ◌+◌, ◌*◌, ◌≤◌, ◌<◌}
use native.Mathlib.Omega.{arith}
use mathlib.Core.Logic.{◌≢◌, ◌⊎◌, inl, inr, ⊎_elim}
use denote.Bor.{Bor}
use lib.Dec.{T, eqb, eqb→eq}
use lib.ListN.{length, get_or}
use Rattle.numbers.specs.Parts.{CutOf}
use Rattle.numbers.proofs.Parts.{cut-is}
use Rattle.buffers.specs.Writes.{Wrote}
use Rattle.buffers.specs.Telling as telling
use Rattle.buffers.specs.Telling.{ToldIs}
use Rattle.buffers.proofs.Writing.{kept_same}
use Rattle.heaps.specs.Lookups.{Part, string_at, name, name_or_why}
use Rattle.buffers.specs.declared.Reason.{Reason}
use Rattle.heaps.proofs.Lookups.{string-within, name-found, name-missing}
use Rattle.header.specs.declared.Options.{Options}
use Rattle.header.specs.Stream.{Opening}
use Rattle.layouts.specs.Columns.{tables, columns_of}
use Rattle.layouts.proofs.Reaches.{and_left, and_right}
use Rattle.tables.specs.Extents.{kept_rows}
use Rattle.tables.proofs.Places.{few-rows}
use Rattle.header.proofs.Cases.{few-counted}
use Rattle.record.proofs.Extents.{kept-le}
use Rattle.layouts.specs.Read.{read_columns, read_column}
use Rattle.rows.specs.Columns as columns
use Rattle.rows.specs.Layout.{column_numbers, option_numbers, layout_of, options_in, header_in, rows_at, is_marked, cell, Ascends, Laid}
use Rattle.rows.proofs.Numbers.{numbers-at, known_at, Reads, numbers-read}
use Rattle.std.specs.Prelude.{Ok, Err}
use Rattle.buffers.specs.declared.Unnamed.TheVariants.{Missing}

-- Every column that is read is a column of a known table: one test over all of them.
pub column-known : (c : ℕ) → c < columns.count → ((read_column c).kind < 45) × ((read_column c).place < length (columns_of (read_column c).kind))
unfolding tables
column-known c l = known_at read_columns _ tt c l

module _ {t l : List ℕ} (laid : Laid t l) where
  abbrev o : Options
  o = options_in l

  abbrev h : Opening
  h = header_in t l

  number_at : (c d : ℕ) → c < columns.count → d < columns.numbers → get_or l (columns.numbers * c + d) 0 ≡ get_or (column_numbers o h (length t) (read_column c)) d 0
  unfolding layout_of
  number_at c d k m = laid.is (columns.numbers * c + d) (omega arith) ∙ numbers-at o h (length t) read_columns (option_numbers o h (length t)) _ c d k m

  -- The kept rows of the table of column c.
  pub rows-at : (c : ℕ) → c < columns.count → rows_at l c ≡ kept_rows o h (length t) (read_column c).kind
  rows-at c k = number_at c columns.rows k (omega arith)

  -- What reading row i of column c relies on, as the code has the column's numbers.
  pub reads : (c i : ℕ) → c < columns.count → i < rows_at l c → {low high step width : ℕ}
      → low ≡ get_or l (columns.numbers * c) 0
      → high ≡ get_or l (columns.numbers * c + columns.start_high) 0
      → step ≡ get_or l (columns.numbers * c + columns.step) 0
      → width ≡ get_or l (columns.numbers * c + columns.width) 0
      → Reads t (cell t l c i) i (low + high * columns.word) step width
  unfolding tables
  reads c i k lt e0 e1 e2 e3 =
      numbers-read read_columns (read_column columns.count) tt o h t l number_at c i k (omega (arith, rows-at c k)) e0 e1 e2 e3

-- A string that was looked up, and what it came to at a place.
module _ {b : List ℕ} {at : ℕ} {p : Part} where
  pub told-string : (s : Bor (List ℕ)) (i : ℕ) {b' : List ℕ} {start n end : ℕ} {text : Bor (List ℕ)} → p ≡ string_at s.now i → p ≡ Ok (record { start = start; len = n })
      → CutOf text s start n → Wrote b at text.now b' end → ToldIs (name_or_why (name s.now i)) b at b' (Ok end)
  told-string s i {text = text} e f c w =
      let there = sym f ∙ e in
      telling.name text.now (rw (name-found s.now i there, ← (cut-is _ s _ _ (string-within s.now i there) c).bytes) refl) w

  pub told-absent : (s : List ℕ) (i : ℕ) {why : Reason} → p ≡ string_at s i → p ≡ Err why → ToldIs (name_or_why (name s i)) b at b (Err (Missing why))
  told-absent s i e f = telling.missing (ap name_or_why (name-missing s i (sym f ∙ e))) (kept_same b at)

-- Columns of one table have the same rows.
pub same_rows : {t l : List ℕ} → Laid t l → (c d : ℕ) → c < columns.count → d < columns.count → (read_column c).kind ≡ (read_column d).kind → rows_at l c ≡ rows_at l d
same_rows {t} {l} laid c d k m e = rows-at laid c k ∙ ap (kept_rows (options_in l) (header_in t l) (length t)) e ∙ sym (rows-at laid d m)

pub same-enclosing : {t l : List ℕ} → Laid t l → rows_at l columns.nested ≡ rows_at l columns.enclosing
same-enclosing laid = same_rows laid columns.nested columns.enclosing (omega arith) (omega arith) refl

-- No table has more rows than 32 bits can say.
pub rows-narrow : {t l : List ℕ} → Laid t l → (c : ℕ) → c < columns.count → rows_at l c < columns.word
rows-narrow {t} {l} laid c k =
    let kind : (read_column c).kind < 64 = omega (arith, (column-known c k).0) in
    omega (
      arith,
      laid.narrow,
      rows-at laid c k,
      kept-le (options_in l) (header_in t l) (length t) (read_column c).kind,
      few-rows (options_in l) (header_in t l) (length t) (read_column c).kind kind,
      few-counted (options_in l) t (read_column c).kind kind,
    )

-- A column that is marked ascends.
pub marked-ascends : {t l : List ℕ} → Laid t l → (c : ℕ) → c < columns.count → {r : Bool} → r ≡ is_marked l c → r ≡ true → Ascends (cell t l c) (rows_at l c)
marked-ascends {t} {l} laid c k e m =
    let both : T (is_marked l c) = rw (sym e ∙ m) tt in
    let is = eqb→eq c columns.method_list (and_left (eqb c columns.method_list) _ both) in
    let mark = eqb→eq (get_or l columns.mark 0) 1 (and_right (eqb c columns.method_list) _ both) in
    subst (λ (x : ℕ). Ascends (cell t l x) (rows_at l x)) (sym is) (laid.marked mark)

-- A number is at most another, or greater.
pub le-or-lt : (m n : ℕ) → (m ≤ n) ⊎ (n < m)
le-or-lt zero n = inl (omega arith)
le-or-lt (suc m) zero = inr (omega arith)
le-or-lt (suc m) (suc n) = ⊎_elim (λ h. inl (omega arith)) (λ h. inr (omega arith)) (le-or-lt m n)

-- A number is another, or is not.
pub same_or_not : (m n : ℕ) → (m ≡ n) ⊎ (m ≢ n)
same_or_not zero zero = inl refl
same_or_not zero (suc n) = inr (λ e. omega arith)
same_or_not (suc m) zero = inr (λ e. omega arith)
same_or_not (suc m) (suc n) = ⊎_elim (λ e. inl (ap suc e)) (λ f. inr (λ e. f (omega arith))) (same_or_not m n)
