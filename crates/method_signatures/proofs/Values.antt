-- What a reading of a method's signature says of the method: its return type and its parameters. Assumes nothing.
use mathlib.Core.Path.{◌≡◌, refl, sym, ap, ◌∙◌}
use mathlib.Core.List.{List, [], ◌∷◌, ◌++◌}
use mathlib.Core.Option.{Option, none, some}
use Prim.Native.Nat.{ℕ, zero, suc, ◌+◌, ◌-◌, ◌≤◌, ◌<◌}
use native.Mathlib.Nat.{add-zero, zero-add}
use native.Mathlib.Omega.{arith}
use borrow.Author.Tests.{eq-eqb, ne_eqb, lt-ltb, le-ltb}
use denote.Ref.{Bor}
use lib.ListN.{length, get_elem?}
use Rattle.numbers.specs.Parts.{part, CutOf}
use Rattle.numbers.proofs.Parts.{cut-is}
use Rattle.buffers.specs.Texts.{Text, q, decimal}
use Rattle.buffers.specs.Writes.{Wrote, Said, written}
use Rattle.buffers.specs.Replies.{refused_by, value, name_or_5}
use Rattle.buffers.specs.Telling.{ToldIs, name, missing}
use Rattle.buffers.specs.declared.Refusal.TheVariants.{NoSuchRow}
use Rattle.heaps.specs.Lookups.{Part, string_at, string}
use Rattle.buffers.specs.declared.Reason.{Reason}
use Rattle.buffers.specs.declared.Reason.TheVariants.{Untold}
use Rattle.heaps.proofs.Lookups.{string-within, string-some, string-none}
use Rattle.layouts.specs.Kinds.{param}
use Rattle.tables.specs.Extents.{kept_rows}
use Rattle.record.specs.Missing.{over, or_default}
use Rattle.record.specs.Columns.{param_list}
use Rattle.record.specs.View.{View, view_of, other_row}
use Rattle.record.specs.Names.{indexed, sizes_of, number_in, method_row}
use Rattle.record.specs.Methods.{Signature, signature_in, param_text, parameter_name}
use Rattle.record.specs.Record.{Parameter, parameters_from, method}
use Rattle.record.specs.Answers.{or_no_row}
use Rattle.record.proofs.Read.{method-row}
use Rattle.rows.specs.Columns as columns
use Rattle.rows.specs.Layout.{Laid, rows_at, cell, options_in, header_in, view_in}
use Rattle.rows.proofs.Laws.{rows-at}
use Rattle.method_signatures.specs.Signatures.{type_by, types_from, ReadingIs, read}
use Rattle.method_signatures.specs.declared.Reading.{Reading}
use Rattle.method_signatures.proofs.Laws.{types-length, reading-missed}
use Rattle.std.specs.Prelude.{Some, None, Ok, Err}
use Rattle.buffers.specs.declared.Unnamed.TheVariants.{Missing}

-- ---- Parameters by their types

module _ (v : View) (m : ℕ) where
  pub parameters-length : (i : ℕ) (ts : List (Option Text)) → length (parameters_from v m i ts) ≡ length ts
  parameters-length i [] = refl
  parameters-length i (t ∷ ts) = ap suc (parameters-length (i + 1) ts)

  parameter-at : (i p : ℕ) (ts : List (Option Text)) → get_elem? (parameters_from v m i ts) p ≡ over (λ t. record { type = t; name = parameter_name v m (i + p) }) (get_elem? ts p)
  parameter-at i p [] = refl
  parameter-at i zero (t ∷ ts) = rw (add-zero i)
  parameter-at i (suc p) (t ∷ ts) =
      let e : i + 1 + p ≡ i + suc p = omega arith in
      parameter-at (i + 1) p ts ∙ ap (λ (k : ℕ). over (λ t. record { type = t; name = parameter_name v m k }) (get_elem? ts p)) e

  pub parameter-some : (p : ℕ) (ts : List (Option Text)) {t : Option Text} → get_elem? ts p ≡ some t
      → or_no_row (get_elem? (parameters_from v m 0 ts) p) ≡ value (record { type = t; name = parameter_name v m p })
  parameter-some p ts e = ap or_no_row (parameter-at 0 p ts) ∙ rw (e, zero-add p)

  pub parameter-gone : (p : ℕ) (ts : List (Option Text)) → get_elem? ts p ≡ none → or_no_row (get_elem? (parameters_from v m 0 ts) p) ≡ refused_by NoSuchRow
  parameter-gone p ts e = ap or_no_row (parameter-at 0 p ts) ∙ rw e

-- A method by what its signature is.
module _ (v : View) (c m : ℕ) where
  unread-returns : signature_in v c m ≡ none → (method v c m).returns ≡ none
  unfolding method
  unread-returns e = rw e

  unread-parameters : signature_in v c m ≡ none → (method v c m).parameters ≡ []
  unfolding method
  unread-parameters e = rw e

  module _ {s : Signature} (e : signature_in v c m ≡ some s) where
    read-returns : (method v c m).returns ≡ some s.returns
    unfolding method
    read-returns = rw e

    read-parameters : (method v c m).parameters ≡ parameters_from v m 0 s.parameters
    unfolding method
    read-parameters = rw e

-- ---- A reading that was made

-- What a reading that succeeded found.
pub record Made (v : View) (heap : List ℕ) (c m : ℕ) (b : List ℕ) (at : ℕ) (b' : List ℕ) (r : Reading) : Type 0 where
  pub text : Text
  pub inside : r.start + r.len ≤ length heap
  pub is : signature_in v c m ≡ some (record { returns = text; parameters = types_from (type_by v m r.owner) r.count (part heap r.start r.len) r.next })
  pub wrote : Wrote b at text b' r.end

module _ {v : View} {heap : List ℕ} {c m : ℕ} {b b' : List ℕ} {at : ℕ} where
  pub made : {r : Reading} → ReadingIs v heap m (signature_in v c m) b at b' (Some r) → Made v heap c m b at b' r
  made (read t i e w) = record { text = t; inside = i; is = e; wrote = w }

  module _ {r : Reading} (k : Made v heap c m b at b' r) where
    pub told-return : ToldIs (name_or_5 (method v c m).returns) b at b' (Ok r.end)
    told-return = name k.text (ap name_or_5 (read-returns v c m k.is)) k.wrote

    pub parameters-counted : r.count ≡ length (method v c m).parameters
    parameters-counted =
        sym (ap (λ (l : List Parameter). length l) (read-parameters v c m k.is)
        ∙ parameters-length v m 0 (types_from (type_by v m r.owner) r.count (part heap r.start r.len) r.next)
        ∙ types-length (type_by v m r.owner) r.count (part heap r.start r.len) r.next)

-- No reading was made.
module _ {v : View} {heap : List ℕ} (c : ℕ) {m : ℕ} {b b' : List ℕ} {at : ℕ} (h : ReadingIs v heap m (signature_in v c m) b at b' None) where
  pub no_return : ToldIs (name_or_5 (method v c m).returns) b at b' (Err (Missing Untold))
  no_return = missing (ap name_or_5 (unread-returns v c m (reading-missed h).0)) (reading-missed h).1

  pub no-parameters : 0 ≡ length (method v c m).parameters
  no-parameters = rw (unread-parameters v c m (reading-missed h).0)

-- ---- The names of parameters, by the ParamList column

module _ {t l : List ℕ} (laid : Laid t l) (strings blob : List ℕ) (m : ℕ) (h : m < rows_at l columns.param_list) {first : ℕ} (col : first ≡ cell t l columns.param_list m) (p : ℕ) where
  abbrev v : View
  v = view_in t l strings blob

  list-is : number_in v param_list (method_row v m) ≡ first
  unfolding view_of
  list-is =
      ap (λ (r : Option (List ℕ)). or_default 0 (over (param_list (sizes_of v)) r)) (method-row (options_in l) t strings blob m (omega (arith, rows-at laid columns.param_list (omega arith))))
      ∙ sym col

  kept : rows_at l columns.param_name ≡ kept_rows (options_in l) (header_in t l) (length t) param
  kept = rows-at laid columns.param_name (omega arith)

  pub name-missing : first ≡ 0 → parameter_name v m p ≡ none
  unfolding parameter_name
  name-missing e = rw (list-is, eq-eqb first 0 e)

  module _ (n : first ≡ 0 → ⊥) where
    at_row : parameter_name v m p ≡ some (param_text v p (indexed v param (first + p)))
    unfolding parameter_name
    at_row = rw (list-is, ne_eqb first 0 n)

    pub name-numbered : rows_at l columns.param_name < first + p → parameter_name v m p ≡ some (q "P_" ++ decimal p)
    unfolding view_of other_row
    name-numbered k =
        at_row ∙ rw (ne_eqb (first + p) 0 (λ e. n (omega arith)), le-ltb (first + p - 1) (kept_rows (options_in l) (header_in t l) (length t) param) (omega (arith, kept)))

    pub name-read : first + p ≤ rows_at l columns.param_name → parameter_name v m p ≡ some (or_default [] (string strings (cell t l columns.param_name (first + p - 1))))
    unfolding view_of other_row
    name-read k =
        at_row ∙ rw (ne_eqb (first + p) 0 (λ e. n (omega arith)), lt-ltb (first + p - 1) (kept_rows (options_in l) (header_in t l) (length t) param) (omega (arith, kept)))

    -- The string that the Param row finds, and the empty name where it finds none.
    module _ {part : Part} (k : first + p ≤ rows_at l columns.param_name) where
      pub said-no-param : part ≡ string_at strings (cell t l columns.param_name (first + p - 1)) → {why : Reason} → part ≡ Err why → {b b' : List ℕ} {at end : ℕ} → Wrote b at [] b' end
          → Said b at b' (parameter_name v m p) (some end)
      said-no-param e f w = rw (name-read k, string-none strings _ (sym f ∙ e)) (written w)

-- The same with a lent heap, of which the string is a part.
pub said-param : {t l : List ℕ} (laid : Laid t l) (strings : Bor (List ℕ)) (blob : List ℕ) (m : ℕ) (h : m < rows_at l columns.param_list) {first : ℕ} (col : first ≡ cell t l columns.param_list m) (p : ℕ)
    (n : first ≡ 0 → ⊥) (k : first + p ≤ rows_at l columns.param_name) {found : Part} → found ≡ string_at strings.now (cell t l columns.param_name (first + p - 1))
    → {start len : ℕ} → found ≡ Ok (record { start = start; len = len }) → {text : Bor (List ℕ)} → CutOf text strings start len
    → {b b' : List ℕ} {at end : ℕ} → Wrote b at text.now b' end → Said b at b' (parameter_name (view_in t l strings.now blob) m p) (some end)
said-param laid strings blob m h col p n k e f c w =
    let there = sym f ∙ e in
    rw (name-read laid strings.now blob m h col p n k, string-some strings.now _ there, ← (cut-is _ strings _ _ (string-within strings.now _ there) c).bytes) (written w)
