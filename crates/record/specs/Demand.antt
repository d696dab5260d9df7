-- What is claimed of rearranged streams (demand 3). proofs/Demand.antt proves both halves.
use Rattle.std.specs.Prelude.{◌≡◌, ◌≢◌, List, map, ℕ, ◌*◌, ◌<◌, length}
use Rattle.heaps.specs.Lookups.{text_of, string}
use Rattle.layouts.specs.Kinds.{generic_param}
use Rattle.record.specs.Columns.{owner, generic_name}
use Rattle.tables.specs.Extents.{sizes_in}
use Rattle.header.specs.declared.Options.{Options}
use Rattle.record.specs.View.{View, view, side_row}
use Rattle.header.specs.Stream.{opened}
use Rattle.record.specs.Names.{class_index}
use Rattle.record.specs.Record.{class, class_record}
use Rattle.record.specs.References.{references}
use Rattle.record.specs.Answers.{walk_answer, NumberCall, NameCall}
use Rattle.record.specs.Allowance.{number_charged, name_charged, NumberedCharged, NamedCharged}
use Rattle.record.specs.Rearrangement.{Rearranged, ThreeRearranged, Swapped}
use Rattle.buffers.specs.Replies.{Reply}

-- Two views give the same class record, the same references, the same walk and the same answer to every call, asked alike: with the same
-- arguments, what the allowance holds before among them, and with buffers of equal length, however filled before. A refusal is an answer,
-- and what is left of the allowance is part of one.
pub record Survives (v w : View) : Type 1 where
  pub record_same : class_record w ≡ class_record v
  pub references-same : references w ≡ references v
  pub walk_same : walk_answer w ≡ walk_answer v
  pub numbers-same :
      (call : NumberCall) (allowance : ℕ) (r r' : Reply) (left left' : ℕ)
      → NumberedCharged (number_charged call v allowance) r left → NumberedCharged (number_charged call w allowance) r' left'
      → (r' ≡ r) × (left' ≡ left)
  pub names_same :
      (call : NameCall) (allowance : ℕ) (before before' after after' : List ℕ) (r r' : Reply) (left left' : ℕ) → length before' ≡ length before
      → NamedCharged (name_charged call v allowance) before r after left → NamedCharged (name_charged call w allowance) before' r' after' left'
      → (r' ≡ r) × (after' ≡ after) × (left' ≡ left)
  pub all-else-same : {A : Type 0} (answer : View → A) → answer w ≡ answer v

-- First half: an allowed rearrangement changes nothing that is answered.
abbrev pub RearrangementSurvives : Type 1
RearrangementSurvives =
    (o : Options) (t u strings blob : List ℕ) → Rearranged o t u
    → (view o u strings blob ≡ view o t strings blob) × Survives (view o t strings blob) (view o u strings blob)

-- What demand 3 first allowed, of three tables, is allowed still.
abbrev pub ThreeStillAllowed : Type 0
ThreeStillAllowed = (o : Options) (t u : List ℕ) → ThreeRearranged o t u → Rearranged o t u

-- Second half: two GenericParam rows of a listed class that have different names (or one missing), exchanged, change the values of that class:
-- the texts of its generic names. Two that are both missing, for whatever reasons, have the same name.
abbrev pub SwapShows : Type 0
SwapShows =
    (o : Options) (t u strings blob : List ℕ) (i j c : ℕ) → Swapped o t u i j
    → c < length (class_record (view o t strings blob))
    → owner (sizes_in o (opened o t)) (side_row o (opened o t) t generic_param i) ≡ 2 * class_index c
    → owner (sizes_in o (opened o t)) (side_row o (opened o t) t generic_param j) ≡ 2 * class_index c
    → string strings (generic_name (sizes_in o (opened o t)) (side_row o (opened o t) t generic_param i))
    ≢ string strings (generic_name (sizes_in o (opened o t)) (side_row o (opened o t) t generic_param j))
    → (map text_of (class (view o u strings blob) c).generics ≢ map text_of (class (view o t strings blob) c).generics)
    × (class (view o u strings blob) c ≢ class (view o t strings blob) c)
    × (class_record (view o u strings blob) ≢ class_record (view o t strings blob))
