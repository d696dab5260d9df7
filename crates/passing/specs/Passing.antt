-- Passing over a part of a signature without writing it, within a number of steps.
use Rattle.std.specs.Prelude.{◌≡◌, true, List, ℕ, ◌+◌, ◌%◌, ◌<◌, ◌≤◌, length, get_or, Some, None}
use Rattle.std.proofs.Math.Option.{none, some}
use Rattle.numbers.specs.Reading.{Res}
use Rattle.numbers.specs.Compressed.{uint}
use Rattle.heaps.specs.Lookups.{is_there}
use Rattle.record.specs.Types.{Env, simple, type_full_name, type}
use Rattle.record.specs.View.{View}
use Rattle.record.specs.Names.{spec_blob}
use Rattle.record.specs.Methods.{signature}
use Rattle.passing.specs.declared.Passed.{Passed}
use Rattle.passing.specs.declared.Passed.TheVariants.{Over, Failed}
use Rattle.std.specs.declared.option.Option as std
use Rattle.steps.specs.Counting.{Steps}

-- A part of a signature that was passed over, or none, where the steps do not suffice, as the code has it.
abbrev pub Passage : Type 0
Passage = std.Option Passed

-- Within so many steps r is what passing over the reading d comes to: it has a value or none, the position after it is the reading's, and
-- so many steps are left; or the steps do not suffice.
pub data Passes {A : Type 0} (d : Res A) (steps : ℕ) : Passage → Type 0 where
  over : {next left : ℕ} (a : A) → d.got ≡ some a → d.next ≡ next → d.steps + left ≡ steps → Passes d steps (Some (Over next left))
  failed : {next left : ℕ} → d.got ≡ none → d.next ≡ next → d.steps + left ≡ steps → Passes d steps (Some (Failed next left))
  spent : steps < d.steps → Passes d steps None

-- What is left of the steps.
abbrev pub left_of : Passage → Steps
left_of (Some (Over next left)) = Some left
left_of (Some (Failed next left)) = Some left
left_of None = None

-- A type that is its tag alone (II.23.1.16) stands at the position, with a level and a step left for it.
pub record Simple (s : List ℕ) (at left steps : ℕ) : Type 0 where
  pub inside : at < length s
  pub level : 0 < left
  pub step : 0 < steps
  pub alone : is_there (simple (get_or s at 0)) ≡ true

-- The byte at a position begins the name of a TypeSpec row (II.23.2.8), if it is a type byte.
pub record NamesSpec (s : List ℕ) (at : ℕ) : Type 0 where
  pub class : (0x11 ≤ get_or s at 0) × (get_or s at 0 < 0x13)
  pub index : ℕ
  pub read : (uint s (at + 1)).got ≡ some index
  pub spec : index % 4 ≡ 2

-- So many steps suffice for whatever is read of a signature, with any names: for a type at any position and level, and for a method's.
pub record Suffices (s : List ℕ) (steps : ℕ) : Type 0 where
  pub types : (e : Env) (l at : ℕ) → (type e l s at).steps ≤ steps
  pub method : (e : Env) → (signature e s 0).steps ≤ steps

-- So many steps suffice for every TypeSpec row, at any level.
abbrev pub SpecsWithin : Env → ℕ → Type 0
SpecsWithin e most = (l i : ℕ) → (type_full_name e (type e l) i).steps ≤ most

-- The same of the TypeSpec rows of a view, up to one: of the signature of each that has one.
abbrev pub RowsWithin : View → ℕ → ℕ → Type 0
RowsWithin v most n = (r : ℕ) (spec : List ℕ) → r ≤ n → spec_blob v r ≡ some spec → Suffices spec most
