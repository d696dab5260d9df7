-- The two modes of reading signatures (2026-09), and where they agree. In the base's mode every class whose range has a method reads its
-- signature, as in the Rust; in the other only the class that takes the method does. Methods.antt has what each mode reads.
use Rattle.std.specs.Prelude.{◌≡◌, ◌≢◌, Bool, true, false, List, ℕ, ◌-◌, ◌≤◌, ◌<◌}
use Rattle.header.specs.declared.Options.{Options}
use Rattle.layouts.specs.Kinds.{method_def}
use Rattle.record.specs.Columns.{method_list}
use Rattle.record.specs.View.{View, view}
use Rattle.record.specs.Names.{rows_in, number_in, classes, class_row}
use Rattle.record.specs.Record.{class_record}
use Rattle.record.specs.Answers.{walk_answer, NumberCall, NameCall}
use Rattle.record.specs.Allowance.{number_charged, name_charged}

-- The options, but in that mode.
abbrev pub in_mode : Bool → Options → Options
in_mode b o = record { limit = o.limit; security = o.security; taker = b }

-- The MethodList column (II.22.37) of class c. Its first method, counted from 0, is the one before it.
abbrev pub list_of : View → ℕ → ℕ
list_of v c = number_in v method_list (class_row v c)

-- The classes' first methods, leaving out classes whose column is 0, never fall and never pass the number of methods.
pub record InOrder (v : View) : Type 0 where
  pub never-fall : (c d : ℕ) → c < d → d < classes v → list_of v c ≢ 0 → list_of v d ≢ 0 → list_of v c - 1 ≤ list_of v d - 1
  pub never-pass : (c : ℕ) → c < classes v → list_of v c ≢ 0 → list_of v c - 1 ≤ rows_in v method_def

-- Two views have the same class record and give the same walk and the same answer to every call, with what is left of any allowance.
pub record Agree (v w : View) : Type 0 where
  pub record_same : class_record w ≡ class_record v
  pub walk_same : walk_answer w ≡ walk_answer v
  pub numbers-same : (call : NumberCall) (allowance : ℕ) → number_charged call w allowance ≡ number_charged call v allowance
  pub names_same : (call : NameCall) (allowance : ℕ) → name_charged call w allowance ≡ name_charged call v allowance

-- The modes agree on every stream whose first methods are in order, opened with whatever other options.
abbrev pub ModesAgree : Type 0
ModesAgree =
    (o : Options) (t strings blob : List ℕ) → InOrder (view (in_mode false o) t strings blob)
    → Agree (view (in_mode false o) t strings blob) (view (in_mode true o) t strings blob)
