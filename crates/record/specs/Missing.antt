-- Values that may be missing.
use Rattle.std.specs.Prelude.{List, [], ◌∷◌}
use Rattle.std.proofs.Math.Option.{Option, none, some}

-- f of a value that is there.
abbrev pub over : {A B : Type 0} → (A → B) → Option A → Option B
over f none = none
over f (some a) = some (f a)

-- A value found by way of another.
abbrev pub and_then : {A B : Type 0} → Option A → (A → Option B) → Option B
and_then none f = none
and_then (some a) f = f a

-- The first of two values that is there.
abbrev pub or_else : {A : Type 0} → Option A → Option A → Option A
or_else none b = b
or_else (some a) b = some a

-- A value, or d where it is missing.
abbrev pub or_default : {A : Type 0} → A → Option A → A
or_default d none = d
or_default d (some a) = a

-- The values of a list that are there, in order.
abbrev pub present : {A : Type 0} → List (Option A) → List A
present [] = []
present (none ∷ l) = present l
present (some a ∷ l) = a ∷ present l

-- The first of them.
abbrev pub first_there : {A : Type 0} → List (Option A) → Option A
first_there [] = none
first_there (o ∷ l) = or_else o (first_there l)
