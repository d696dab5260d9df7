use Rattle.record.specs.Types.{type, parameters}
use Rattle.signatures.specs.Environment.{env_of}
use Prim.Native.Nat.{ℕ, ◌+◌, ◌-◌, ◌≤◌, ◌*◌, ◌^◌}
use mathlib.Core.Path.{◌≡◌}
use lib.ListN.{length}
use Rattle.frames.specs.Stack.{whole, stack}
use Rattle.passing.specs.Passing.{Passage, Passes}
use mathlib.Core.List.{List}
use Rattle.passing.proofs.+over.Given as goal

-- Levels left, then bytes left, then which of the functions that read from one place: 17 levels of fewer than 2 ^ 67 each.
abbrev μ : ℕ → List ℕ → ℕ → ℕ → ℕ
μ left sig pos k = left * 2 ^ 67 + (8 * (length sig - pos) + k)

abbrev pub decreases-over_array : goal.decreases-over_array
decreases-over_array l = μ l.left l.sig.now l.pos 6

abbrev pub decreases-over_class : goal.decreases-over_class
decreases-over_class l = l.left * 2 ^ 67 + (2 ^ 66 + 7)

abbrev pub decreases-over_few : goal.decreases-over_few
decreases-over_few l = μ l.left l.sig.now l.pos 2

abbrev pub decreases-over_inner : goal.decreases-over_inner
decreases-over_inner l = μ l.left l.sig.now l.pos 5

abbrev pub decreases-over_level : goal.decreases-over_level
decreases-over_level l = μ l.left l.sig.now l.pos 1

abbrev pub decreases-over_many : goal.decreases-over_many
decreases-over_many l = μ l.left l.sig.now l.pos 2

abbrev pub decreases-over_method : goal.decreases-over_method
decreases-over_method l = μ l.left l.sig.now l.pos 6

abbrev pub decreases-over_name : goal.decreases-over_name
decreases-over_name l = l.left * 2 ^ 67 + (8 * length l.blob.now + 5)

abbrev pub decreases-over_next : goal.decreases-over_next
decreases-over_next l = μ l.left l.sig.now l.pos 4

abbrev pub decreases-over_parameters : goal.decreases-over_parameters
decreases-over_parameters l = μ l.left l.sig.now l.pos 5

abbrev pub decreases-over_type : goal.decreases-over_type
decreases-over_type l = μ l.left l.sig.now l.pos 3

-- What the type at hand, and what the frames ask for, come to, the whole comes to.
abbrev pub invariant-over_level-loop-p : goal.invariant-over_level-loop-p
invariant-over_level-loop-p l = (l.n + l.pos ≤ l.p)
    × (l.n ≤ length l.slots)
    × (length l.slots ≡ length l.initial.slots)
    × (length l.space ≡ 1)
    × ((r : Passage)
    → Passes (whole (type (env_of l.tables l.layout l.strings l.blob l.owners) l.left) (stack l.slots l.n) l.sig l.p) l.have r
    → Passes (type (env_of l.tables l.layout l.strings l.blob l.owners) l.left l.sig l.pos) l.steps r)

abbrev pub decreases-over_level-loop-p : goal.decreases-over_level-loop-p
decreases-over_level-loop-p l = length l.sig - l.p

-- What the rest comes to, the whole comes to.
abbrev pub invariant-over_parameters-loop : goal.invariant-over_parameters-loop
invariant-over_parameters-loop l = (l.pos ≤ l.p)
    × ((r : Passage)
    → Passes (parameters (l.count - l.counter) l.counter (type (env_of l.tables l.layout l.strings l.blob l.owners) l.left) l.sig l.p) l.have r
    → Passes (parameters l.count 0 (type (env_of l.tables l.layout l.strings l.blob l.owners) l.left) l.sig l.pos) l.steps r)

abbrev pub decreases-over_parameters-loop : goal.decreases-over_parameters-loop
decreases-over_parameters-loop l = l.count - l.counter

-- What the type at hand comes to, the first comes to.
abbrev pub invariant-over_type-loop-p : goal.invariant-over_type-loop-p
invariant-over_type-loop-p l = (l.pos ≤ l.p)
    × (l.deep ≤ l.left)
    × ((r : Passage)
    → Passes (type (env_of l.tables l.layout l.strings l.blob l.owners) l.deep l.sig l.p) l.have r
    → Passes (type (env_of l.tables l.layout l.strings l.blob l.owners) l.left l.sig l.pos) l.steps r)

abbrev pub decreases-over_type-loop-p : goal.decreases-over_type-loop-p
decreases-over_type-loop-p l = length l.sig - l.p
