-- Numbers that stand one after another in a signature, and what the code says of them.
use Rattle.std.specs.Prelude.{◌≡◌, Bool, true, false, List, [], ◌∷◌, ℕ, zero, suc, ℤ, pos, neg_ℤ, Result, Ok, Err}
use Rattle.std.proofs.Math.Option.{Option, none, some}
use Rattle.numbers.specs.Reading.{Res, Reader, some_at, none_at}
use Rattle.numbers.specs.Compressed.{uint, sint}
use Rattle.record.specs.Readings.{times}
use Rattle.shapes.specs.declared.Items.{Items}

-- The position after numbers that were passed, or after the bytes of the first that is not there, as the code has it.
abbrev pub Pass : Type 0
Pass = Result ℕ ℕ

-- Numbers that were found and the position after them, or the position after the bytes used up, as the code has them.
abbrev pub Found : Type 0
Found = Result (Items × ℕ) ℕ

-- A number whose size stands apart from its sign.
abbrev pub with_sign : Bool → ℕ → ℤ
with_sign false n = pos n
with_sign true n = neg_ℤ (pos n)

abbrev pub onto : {A : Type 0} → Option A → List A → List A
onto none xs = []
onto (some a) xs = a ∷ xs

-- At most n values of a reading, from a position on, up to the first that fails.
unfoldable pub numbers : {A : Type 0} → ℕ → Reader A → List ℕ → ℕ → List A
numbers zero p s at = []
numbers (suc n) p s at = onto (p s at).got (numbers n p s (p s at).next)

abbrev pub items : {A : Type 0} → Reader A → List ℕ → Items → List A
items p s i = numbers i.count p s i.first

-- Where the next value stands: a reading that failed leaves the position.
abbrev pub onward : {A : Type 0} → Option A → ℕ → ℕ → ℕ
onward none at next = at
onward (some a) at next = next

abbrev pub moved : {A : Type 0} → ℕ → Res A → ℕ
moved at r = onward r.got at r.next

-- The first of a list, if it has one, and the others.
abbrev pub first : {A : Type 0} → List A → Option A
first [] = none
first (x ∷ xs) = some x

abbrev pub rest : {A : Type 0} → List A → List A
rest [] = []
rest (x ∷ xs) = xs

-- Of n values from a position on, r is the first or says that there is none, and the others are n' values from where r leads.
pub record Pops {A : Type 0} (p : Reader A) (s : List ℕ) (at n n' : ℕ) (r : Res A) : Type 0 where
  pub head : first (numbers n p s at) ≡ r.got
  pub others : rest (numbers n p s at) ≡ numbers n' p s (moved at r)

-- What each case of a pass says of values.
abbrev pub pass_says : {A : Type 0} → List A → Pass → Res (List A)
pass_says xs (Ok next) = some_at xs next
pass_says xs (Err next) = none_at next

-- n numbers were passed, which may be of either kind.
pub record Passes (n : ℕ) (s : List ℕ) (at : ℕ) (r : Pass) : Type 0 where
  pub unsigned : times n uint s at ≡ pass_says (numbers n uint s at) r
  pub signed : times n sint s at ≡ pass_says (numbers n sint s at) r

-- A count and so many numbers were found, or the count is not there, or not all of the numbers.
pub data Finds (s : List ℕ) (at : ℕ) : Found → Type 0 where
  all : {i : Items} {next : ℕ} → uint s at ≡ some_at i.count i.first → Passes i.count s i.first (Ok next) → Finds s at (Ok (i, next))
  no-count : {next : ℕ} → uint s at ≡ none_at next → Finds s at (Err next)
  too_few : {next : ℕ} (n first : ℕ) → uint s at ≡ some_at n first → Passes n s first (Err next) → Finds s at (Err next)
