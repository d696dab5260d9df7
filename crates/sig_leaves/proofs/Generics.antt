-- Names of generic parameters: a string that was looked up and appended, the parameter of an owner, and the one that a signature says
-- by its place. Each starts from an answer of the code that was matched. Assumes nothing.
use mathlib.Core.Path.{◌≡◌, refl}
use mathlib.Core.List.{List, []}
use mathlib.Core.Option.{Option, none, some}
use Prim.Native.Nat.{ℕ}
use denote.Ref.{Bor}
use Rattle.numbers.specs.Reading.{some_at, none_at}
use Rattle.numbers.specs.Compressed.{uint}
use Rattle.numbers.specs.Parts.{CutOf}
use Rattle.numbers.proofs.Parts.{cut-is}
use Rattle.buffers.specs.Texts.{Text}
use Rattle.buffers.specs.Writes.{Kept, Wrote, Said, written}
use Rattle.buffers.proofs.Writing.{said-some, said-none, said-missing}
use Rattle.heaps.specs.Lookups.{Part, string_at, string}
use Rattle.heaps.proofs.Lookups.{string-within, string-some, string-none}
use Rattle.record.specs.Types.{generic}
use Rattle.rows.specs.Columns as columns
use Rattle.rows.specs.Layout.{rows_at, cell, Laid}
use Rattle.keys.specs.Keyed.{Row, FoundIs}
use Rattle.keys.proofs.Laws.{generics-found, generics-missed}
use Rattle.rendering.specs.Rendered.{Rendered, done, failed}
use Rattle.sig_leaves.specs.Leaves.{Owner, GenericIs}
use Rattle.heaps.specs.declared.Span.{Span}
use Rattle.std.specs.Result.{result_ok}
use Rattle.std.specs.Prelude.{Some, None, Ok, Err}

-- A string that was looked up.
module _ {b b' : List ℕ} {at : ℕ} where
  pub said-string : (s : Bor (List ℕ)) (i : ℕ) (p : Part) {place : Span} {at' : ℕ} {text : Bor (List ℕ)} → p ≡ string_at s.now i → Some place ≡ result_ok p
      → CutOf text s place.start place.len → Wrote b at text.now b' at' → Said b at b' (string s.now i) (some at')
  said-string s i (Ok found) {place} e f c w =
      let same : Ok place ≡ string_at s.now i = cc in
      rw (string-some s.now i same, ← (cut-is _ s _ _ (string-within s.now i same) c).bytes) (written w)
  said-string s i (Err why) e f c w = cc

  pub said-no-string : (s : List ℕ) (i : ℕ) (p : Part) → p ≡ string_at s i → None ≡ result_ok p → Kept b at b' → Said b at b' (string s i) none
  said-no-string s i (Ok found) e f k = cc
  said-no-string s i (Err why) e f k = said-missing (string-none s i e) k

-- The row of parameter i of an owner.
module _ {t l : List ℕ} (laid : Laid t l) (i : ℕ) {owner : Owner} where
  pub generic-row : {k : ℕ} → owner ≡ Some k → (r : Row) → FoundIs (cell t l columns.owner) k (rows_at l columns.owner) i r → GenericIs t l owner i r
  unfolding string
  generic-row {k} e (Some row) found =
      rw e ((generics-found laid [] [] k i row found refl).0, λ strings blob. rw (generics-found laid strings blob k i row found refl).1 refl)
  generic-row {k} e None found = rw e (λ strings blob. rw (generics-missed laid strings blob k i found refl) refl)

  pub nobody : owner ≡ None → GenericIs t l owner i None
  nobody e = rw e (λ strings blob. refl)

-- The parameter that a signature says by its place.
module _ (name : ℕ → Option Text) (s : List ℕ) (pos : ℕ) where
  pub generic-failed : {next : ℕ} → none_at next ≡ uint s pos → {b b' : List ℕ} {at : ℕ} → Kept b at b' → Rendered (generic name s pos) b at b' (Err next)
  unfolding generic
  generic-failed told kept = failed (rw (← told)) (rw (← told)) kept

  -- The place i was told as j, and what appending its name came to as r.
  module _ {i next : ℕ} (told : some_at i next ≡ uint s pos) {j : ℕ} (same : j ≡ i) {b b' : List ℕ} {at : ℕ} where
    pub generic-done : {at' : ℕ} → Said b at b' (name j) (some at') → Rendered (generic name s pos) b at b' (Ok (at', next))
    unfolding generic
    generic-done said = let there = said-some said in done there.text (rw (← told, ← same) there.is) (rw (← told)) there.wrote

    pub generic-missing : Said b at b' (name j) none → Rendered (generic name s pos) b at b' (Err next)
    unfolding generic
    generic-missing said = let absent = said-none said in failed (rw (← told, ← same) absent.0) (rw (← told)) absent.1
