use mathlib.Core.Path.{◌≡◌}
use Prim.Native.Nat.{ℕ, ◌+◌, ◌*◌, ◌-◌, ◌^◌, ◌≤◌}
use Rattle.record.specs.Types.{type, parameters}
use Rattle.signatures.specs.Environment.{env_of}
use mathlib.Core.List.{List}
use lib.ListN.{length}
use Rattle.rendering.specs.Rendered.{Rendering, Rendered}
use Rattle.frames.specs.Stack.{whole, stack}
use Rattle.signatures.proofs.+sig.Given as goal

-- Levels left, then bytes left, then which of the functions that read from one place: 17 levels of fewer than 2 ^ 67 each.
abbrev μ : ℕ → List ℕ → ℕ → ℕ → ℕ
μ left sig pos k = left * 2 ^ 67 + (8 * (length sig - pos) + k)

abbrev pub decreases-parse_method_def_signature : goal.decreases-parse_method_def_signature
decreases-parse_method_def_signature l = μ l.left l.sig.now l.pos 6

abbrev pub decreases-sig_around : goal.decreases-sig_around
decreases-sig_around l = μ l.left l.sig.now l.pos 6

abbrev pub decreases-sig_array : goal.decreases-sig_array
decreases-sig_array l = μ l.left l.sig.now l.pos 6

abbrev pub decreases-sig_class : goal.decreases-sig_class
decreases-sig_class l = l.left * 2 ^ 67 + (2 ^ 66 + 7)

abbrev pub decreases-sig_few : goal.decreases-sig_few
decreases-sig_few l = μ l.left l.sig.now l.pos 2

abbrev pub decreases-sig_form : goal.decreases-sig_form
decreases-sig_form l = μ l.left l.sig.now l.pos 0

abbrev pub decreases-sig_inner : goal.decreases-sig_inner
decreases-sig_inner l = μ l.left l.sig.now l.pos 5

abbrev pub decreases-sig_level : goal.decreases-sig_level
decreases-sig_level l = μ l.left l.sig.now l.pos 1

abbrev pub decreases-sig_many : goal.decreases-sig_many
decreases-sig_many l = μ l.left l.sig.now l.pos 2

abbrev pub decreases-sig_parameters : goal.decreases-sig_parameters
decreases-sig_parameters l = μ l.left l.sig.now l.pos 5

abbrev pub decreases-sig_plain : goal.decreases-sig_plain
decreases-sig_plain l = μ l.left l.sig.now l.pos 3

abbrev pub decreases-sig_type : goal.decreases-sig_type
decreases-sig_type l = μ l.left l.sig.now l.pos 4

abbrev pub decreases-type_name : goal.decreases-type_name
decreases-type_name l = l.left * 2 ^ 67 + (8 * length l.blob.now + 5)

-- What completes the type at hand, and what the frames ask for, completes the whole.
abbrev pub invariant-sig_level-loop-p : goal.invariant-sig_level-loop-p
invariant-sig_level-loop-p l = (l.n + l.pos ≤ l.p)
    × (l.n ≤ length l.slots)
    × (length l.slots ≡ length l.initial.slots)
    × (length l.buf ≡ length l.initial.buf)
    × ((b' : List ℕ) (r : Rendering)
    → Rendered (whole (type (env_of l.tables l.layout l.strings l.blob l.owners) l.left) (stack l.slots l.n) l.sig l.p) l.buf l.k b' r
    → Rendered (type (env_of l.tables l.layout l.strings l.blob l.owners) l.left l.sig l.pos) l.initial.buf l.at b' r)

abbrev pub decreases-sig_level-loop-p : goal.decreases-sig_level-loop-p
decreases-sig_level-loop-p l = length l.sig - l.p

-- What completes the rest completes the whole.
abbrev pub invariant-sig_parameters-loop-i : goal.invariant-sig_parameters-loop-i
invariant-sig_parameters-loop-i l = (l.pos ≤ l.p)
    × (l.k ≤ length l.buf + 1)
    × (length l.buf ≡ length l.initial.buf)
    × ((b' : List ℕ) (r : Rendering)
    → Rendered (parameters (l.count - l.i) l.i (type (env_of l.tables l.layout l.strings l.blob l.owners) l.left) l.sig l.p) l.buf l.k b' r
    → Rendered (parameters l.count 0 (type (env_of l.tables l.layout l.strings l.blob l.owners) l.left) l.sig l.pos) l.initial.buf l.at b' r)

abbrev pub decreases-sig_parameters-loop-i : goal.decreases-sig_parameters-loop-i
decreases-sig_parameters-loop-i l = l.count - l.i
