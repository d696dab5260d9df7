-- Full names: of a class, from its name and what stands in front of it, and of a TypeRef row. Assumes nothing.
use mathlib.Core.Path.{◌≡◌, refl, sym, ap, ◌∙◌}
use mathlib.Core.Bool.{Bool}
use mathlib.Core.List.{List, ◌∷◌, [], ◌++◌, append_assoc}
use mathlib.Core.Option.{Option, none, some}
use Prim.Native.Nat.{ℕ, ◌+◌, ◌-◌, ◌≤◌, ◌<◌}
use native.Mathlib.Omega.{arith}
use borrow.Author.Tests.{eq-eqb, ne_eqb, lt-ltb, le-ltb}
use denote.Ref.{Bor}
use lib.ListN.{length, length-append}
use Rattle.numbers.specs.Parts.{part, CutOf}
use Rattle.numbers.proofs.Parts.{cut-is}
use Rattle.buffers.specs.Texts.{Text}
use Rattle.buffers.specs.Writes.{Kept, Wrote, Said, written}
use Rattle.buffers.proofs.Writing.{wrote_then}
use Rattle.backwards.proofs.Laws.{wrote-over-kept}
use Rattle.heaps.specs.Lookups.{Part, before, string_at, string, is_there}
use Rattle.buffers.specs.declared.Reason.{Reason}
use Rattle.heaps.proofs.Lookups.{string-within, string-some, string-none}
use Rattle.layouts.specs.Kinds.{type_ref}
use Rattle.tables.specs.Extents.{kept_rows}
use Rattle.record.specs.Missing.{over}
use Rattle.record.specs.Namespaces.{cut, full_name}
use Rattle.record.specs.View.{view_of, other_row}
use Rattle.record.specs.Names.{class_full_name, ref_full_name}
use Rattle.rows.specs.Columns as columns
use Rattle.rows.specs.Layout.{options_in, header_in, rows_at, cell, Laid, view_in}
use Rattle.rows.proofs.Laws.{rows-at}
use Rattle.names.specs.Naming.{name_in, space_in, dotted, front_in, behind_front}
use Rattle.names.proofs.Leaves.{over-there, cut-part}
use Rattle.std.specs.Prelude.{Ok, Err}

-- A name and what stands in front of it.
whole : (space : Option Text) (m : Text) → full_name space (some m) ≡ some (dotted space ++ m)
unfolding full_name dotted
whole none m = refl
whole (some s) m = ap some (sym (append_assoc s (0x2E ∷ []) m))

bare : (space : Option Text) → full_name space none ≡ none
unfolding full_name
bare none = refl
bare (some s) = refl

-- Whether a full name is there is whether the name is.
full-there : (space name : Option Text) → is_there (full_name space name) ≡ is_there name
full-there space none = ap is_there (bare space)
full-there space (some m) = ap is_there (whole space m)

-- A text that was written.
said-text : {b b' : List ℕ} {at at' : ℕ} {o : Option Text} (m : Text) → o ≡ some m → Wrote b at m b' at' → Said b at b' o (some at')
said-text m e w = rw e (written w)

-- A name that was written behind its front, or that does not fit, by itself or with the front.
module _ {b b' : List ℕ} {at : ℕ} (t l strings : List ℕ) (r : ℕ) {m m' : Text} (e : m ≡ m') where
  pub front-wrote : {at' : ℕ} → Wrote b at (front_in t l strings (rows_at l columns.nested) r ++ m) b' at' → Wrote b at (behind_front t l strings r m') b' at'
  unfolding behind_front
  front-wrote w = rw (← e) w

  pub over-name : length b < at + length m → Kept b at b' → Wrote b at (behind_front t l strings r m') b' (length b + 1)
  unfolding behind_front
  over-name h k = wrote-over-kept _ _ (omega (arith, length-append (front_in t l strings (rows_at l columns.nested) r) m', ap length e)) k

  pub over-front : length b < at + length (front_in t l strings (rows_at l columns.nested) r ++ m) → Kept b at b'
      → Wrote b at (behind_front t l strings r m') b' (length b + 1)
  over-front h k = front-wrote (wrote-over-kept _ _ h k)

-- A namespace that was looked up.
module _ {b b' : List ℕ} {at at' : ℕ} {p : Part} where
  pub dotted-some : (s : Bor (List ℕ)) (i : ℕ) {start n : ℕ} {text : Bor (List ℕ)} → p ≡ string_at s.now i → p ≡ Ok (record { start = start; len = n }) → CutOf text s start n
      → Wrote b at (text.now ++ 0x2E ∷ []) b' at' → Wrote b at (dotted (string s.now i)) b' at'
  unfolding dotted
  dotted-some s i e f c w =
      let at = sym f ∙ e in
      rw (string-some s.now i at, ← (cut-is _ s _ _ (string-within s.now i at) c).bytes) w

  pub dotted-none : (s : List ℕ) (i : ℕ) {why : Reason} → p ≡ string_at s i → p ≡ Err why → Wrote b at [] b' at' → Wrote b at (dotted (string s i)) b' at'
  unfolding dotted
  dotted-none s i e f w = rw (string-none s i (sym f ∙ e)) w

module _ {t l : List ℕ} (laid : Laid t l) (strings blob : List ℕ) where
  -- The full name of a class by the pass over the NestedClass rows.
  class-is : (r : ℕ) → class_full_name (view_in t l strings blob) r ≡ full_name (space_in t l strings (rows_at l columns.nested) r) (name_in t l strings r)
  unfolding class_full_name view_of space_in name_in
  class-is r = rw (rows-at laid columns.nested (omega arith))

  pub said-class : (r : ℕ) (m : Text) {b b' : List ℕ} {at at' : ℕ} → name_in t l strings r ≡ some m
      → Wrote b at (behind_front t l strings r m) b' at' → Said b at b' (class_full_name (view_in t l strings blob) r) (some at')
  unfolding behind_front
  said-class r m e w =
      said-text _ (class-is r ∙ ap (full_name (space_in t l strings (rows_at l columns.nested) r)) e ∙ whole (space_in t l strings (rows_at l columns.nested) r) m) w

  pub class-bare : (r : ℕ) → name_in t l strings r ≡ none → class_full_name (view_in t l strings blob) r ≡ none
  class-bare r e = class-is r ∙ ap (full_name (space_in t l strings (rows_at l columns.nested) r)) e ∙ bare (space_in t l strings (rows_at l columns.nested) r)

  pub class-there : (r : ℕ) {b : Bool} → is_there (name_in t l strings r) ≡ b → b ≡ is_there (class_full_name (view_in t l strings blob) r)
  class-there r e = sym (ap is_there (class-is r) ∙ full-there (space_in t l strings (rows_at l columns.nested) r) (name_in t l strings r) ∙ e)

  -- TypeRef row r, from 1.
  kept : rows_at l columns.ref_name ≡ kept_rows (options_in l) (header_in t l) (length t) type_ref
  kept = rows-at laid columns.ref_name (omega arith)

  pub ref-null : (r : ℕ) → r ≡ 0 → ref_full_name (view_in t l strings blob) r ≡ none
  unfolding ref_full_name full_name
  ref-null r e = rw (eq-eqb r 0 e)

  module _ (r : ℕ) (n : r ≡ 0 → ⊥) where
    pub ref-past : rows_at l columns.ref_name < r → ref_full_name (view_in t l strings blob) r ≡ none
    unfolding ref_full_name view_of other_row full_name
    ref-past h = rw (ne_eqb r 0 n, le-ltb (r - 1) (kept_rows (options_in l) (header_in t l) (length t) type_ref) (omega (arith, kept)))

    module _ (h : r ≤ rows_at l columns.ref_name) where
      ref-is : ref_full_name (view_in t l strings blob) r ≡ full_name (string strings (cell t l columns.ref_namespace (r - 1))) (over cut (string strings (cell t l columns.ref_name (r - 1))))
      unfolding ref_full_name view_of other_row
      ref-is = rw (ne_eqb r 0 n, lt-ltb (r - 1) (kept_rows (options_in l) (header_in t l) (length t) type_ref) (omega (arith, kept)))

      pub ref-bare : {p : Part} {why : Reason} → p ≡ string_at strings (cell t l columns.ref_name (r - 1)) → p ≡ Err why
          → ref_full_name (view_in t l strings blob) r ≡ none
      ref-bare e f =
          ref-is
          ∙ ap (λ (o : Option Text). full_name (string strings (cell t l columns.ref_namespace (r - 1))) (over cut o)) (string-none strings (cell t l columns.ref_name (r - 1)) (sym f ∙ e))
          ∙ bare (string strings (cell t l columns.ref_namespace (r - 1)))

      pub ref-there : is_there (string strings (cell t l columns.ref_name (r - 1))) ≡ is_there (ref_full_name (view_in t l strings blob) r)
      ref-there =
          let name = string strings (cell t l columns.ref_name (r - 1)) in
          sym (ap is_there ref-is ∙ full-there (string strings (cell t l columns.ref_namespace (r - 1))) (over cut name) ∙ over-there cut name)

      pub said-ref : {p : Part} {start len n at at₁ at₂ : ℕ} {b b₁ b₂ : List ℕ} {text : List ℕ}
          → p ≡ string_at strings (cell t l columns.ref_name (r - 1)) → p ≡ Ok (record { start = start; len = len }) → n ≡ before 0x60 (part strings start len)
          → Wrote b at (dotted (string strings (cell t l columns.ref_namespace (r - 1)))) b₁ at₁ → text ≡ part strings start n → Wrote b₁ at₁ text b₂ at₂
          → Said b at b₂ (ref_full_name (view_in t l strings blob) r) (some at₂)
      said-ref {start = start} {len} {n} e f q first c second =
          let at = sym f ∙ e in
          let short = cut-part strings start len n (string-within strings (cell t l columns.ref_name (r - 1)) at) q in
          said-text _
          (ref-is
          ∙ ap (λ (o : Option Text). full_name (string strings (cell t l columns.ref_namespace (r - 1))) (over cut o)) (string-some strings (cell t l columns.ref_name (r - 1)) at)
          ∙ ap (λ (m : Text). full_name (string strings (cell t l columns.ref_namespace (r - 1))) (some m)) (short.0 ∙ sym c)
          ∙ whole (string strings (cell t l columns.ref_namespace (r - 1))) _)
          (wrote_then first second)
