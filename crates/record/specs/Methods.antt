-- Which methods a class has, and the types and names of their parameters, by the view.
use Rattle.std.specs.Prelude.{Bool, false, cond, ◌&&◌, List, [], ◌∷◌, ◌++◌, map, ℕ, zero, suc, ◌+◌, ◌-◌, eqb, leb, ltb}
use Rattle.std.proofs.Math.Option.{Option, none, some}
use Rattle.numbers.specs.Lists.{tabulate}
use Rattle.record.specs.Missing.{and_then, or_default, first_there}
use Rattle.numbers.specs.Reading.{Res, Reader, give, ◌>>=◌}
use Rattle.record.specs.Readings.{attempt, in_blob, total}
use Rattle.buffers.specs.Texts.{Text, q, decimal}
use Rattle.heaps.specs.Lookups.{blob}
use Rattle.layouts.specs.Kinds.{method_def, param}
use Rattle.record.specs.Columns.{method_list, method_signature, param_list, param_name}
use Rattle.record.specs.View.{View}
use Rattle.record.specs.Types.{Env, method_start, type}
use Rattle.record.specs.Names.{indexed, rows_in, sizes_of, string_in, classes, class_row, method_row, class_generics, method_generics, env, levels, number_in}

-- The MethodList columns (II.22.37) of the n classes from c on.
abbrev pub method_lists : View → ℕ → ℕ → List ℕ
method_lists v = tabulate (λ c. number_in v method_list (class_row v c))

-- ---- Which methods a class takes (`finalize`, where it drains the methods)

-- How many methods are left once a class has taken its own, of those that were left before: column 0 takes none;
-- a first method at or below the number left takes the rest from there.
unfoldable pub takes : ℕ → ℕ → ℕ
takes col left = cond (eqb col 0) left (cond (leb (col - 1) left) (col - 1) left)

-- How many are left once these classes have taken theirs, the last class first.
unfoldable pub left_over : ℕ → List ℕ → ℕ
left_over all [] = all
left_over all (col ∷ later) = takes col (left_over all later)

-- How many methods are left when class c's turn is over: those of the classes before it.
unfoldable pub left_after : View → ℕ → ℕ
left_after v c = left_over (rows_in v method_def) (method_lists v c (classes v - c))

-- ---- Who reads a method's signature (`finalize`, its first pass)

-- What a method's signature says: its return type, and its parameters' types, each of which may be missing.
pub record Signature : Type 0 where
  pub returns : Text
  pub parameters : List (Option Text)

-- n readings in a row, each of which may fail.
unfoldable pub tries : {A : Type 0} → ℕ → Reader A → Reader (List (Option A))
tries zero p = give []
tries (suc n) p = do
  t ← attempt p
  ts ← tries n p
  give (t ∷ ts)

-- A method's signature (II.23.2.1, `parse_method_def_signature`).
unfoldable pub signature : Env → Reader Signature
signature e = do
  n ← method_start
  t ← type e levels
  ts ← tries n (type e levels)
  give (record { returns = t; parameters = ts })

-- The blob of method m's signature.
unfoldable pub signature_blob : View → ℕ → Option (List ℕ)
signature_blob v m = and_then (method_row v m) (λ row. blob v.blob (method_signature (sizes_of v) row))

-- Class c's reading of the whole of it; nothing is read where there is no blob.
unfoldable pub reading : View → ℕ → ℕ → Res Signature
reading v m c = in_blob (signature (env v (class_generics v c) (method_generics v m))) (signature_blob v m)

-- Method m's signature as class c reads it: missing where the reading fails.
unfoldable pub read_by : View → ℕ → ℕ → Option Signature
read_by v m c = (reading v m c).got

-- How many type bytes class c reads there, also where the reading fails.
unfoldable pub read_steps : View → ℕ → ℕ → ℕ
read_steps v m c = (reading v m c).steps

-- Where the methods end that a class reads, by the columns of the classes behind it: at the first method of the first of them whose column
-- is not 0, or with the last method.
unfoldable pub end_before : ℕ → List ℕ → ℕ
end_before all [] = all
end_before all (col ∷ later) = cond (eqb col 0) (end_before all later) (col - 1)

-- Whether a class with this column reads method m, where the methods that it reads end there: it reads from its first method on. Column 0
-- reads none.
unfoldable pub reads : ℕ → ℕ → ℕ → Bool
reads m col end = cond (eqb col 0) false (leb (col - 1) m && ltb m end)

-- The classes from c on that read method m, by their columns.
unfoldable pub readers_among : ℕ → ℕ → ℕ → List ℕ → List ℕ
readers_among all m c [] = []
readers_among all m c (col ∷ later) =
    cond (reads m col (end_before all later)) (c ∷ readers_among all m (c + 1) later) (readers_among all m (c + 1) later)

unfoldable pub readers_from : View → ℕ → ℕ → List ℕ
readers_from v m c = readers_among (rows_in v method_def) m c (method_lists v c (classes v - c))

abbrev pub readers : View → ℕ → List ℕ
readers v m = readers_from v m 0

-- The signature of method m. The Rust goes over the classes from the last to the first, and a reading that succeeds replaces an earlier
-- one: so that of the lowest class that succeeds stands. Where the first method of the class handled before lies past the end, the Rust
-- indexes out of range and panics; here the methods that are read stop at the last one, since no class has a method past it.
unfoldable pub signature_of : View → ℕ → Option Signature
signature_of v m = first_there (map (read_by v m) (readers v m))

-- How many type bytes are read in all readings of it, those that fail or are replaced included (2026-06).
unfoldable pub method_steps : View → ℕ → ℕ
method_steps v m = total (map (read_steps v m) (readers v m))

-- ---- Two modes (2026-09): as the Rust, or the class that takes a method reads its signature, and no other class does

-- The signature of method m, which class c takes.
unfoldable pub signature_in : View → ℕ → ℕ → Option Signature
signature_in v c m = cond v.taker (read_by v m c) (signature_of v m)

-- How many type bytes are read for it.
unfoldable pub steps_in : View → ℕ → ℕ → ℕ
steps_in v c m = cond v.taker (read_steps v m c) (method_steps v m)

-- ---- Parameters

-- The name that a Param row gives (II.22.33, `parse_params`): empty where it has no string; `P_` and the place where there is no row.
abbrev pub param_text : View → ℕ → Option (List ℕ) → Text
param_text v i none = q "P_" ++ decimal i
param_text v i (some row) = or_default [] (string_in v param_name (some row))

-- The name of parameter i, from 0, of method m: Param row (column + i); missing where the column is 0.
unfoldable pub parameter_name : View → ℕ → ℕ → Option Text
parameter_name v m i =
    let first = number_in v param_list (method_row v m) in
    cond (eqb first 0) none (some (param_text v i (indexed v param (first + i))))
