-- What the calls answer of a class that is listed, by its base types, and of one that is not. Assumes nothing.
use mathlib.Core.Path.{◌≡◌, sym, ap, subst, ◌∙◌}
use mathlib.Core.List.{List}
use mathlib.Core.Option.{Option}
use Prim.Native.Nat.{ℕ, ◌+◌, ◌-◌, ◌≤◌, ◌<◌}
use native.Mathlib.Omega.{arith}
use lib.ListN.{length, get_elem?}
use Rattle.buffers.specs.Texts.{Text}
use Rattle.buffers.specs.Writes.{Place, Said, place_says}
use Rattle.buffers.specs.Replies.{refused_by, value}
use Rattle.buffers.specs.Telling.{Told, ToldIs, name, no_row}
use Rattle.buffers.specs.declared.Refusal.TheVariants.{NoSuchRow}
use Rattle.buffers.proofs.Writing.{kept_same, said-some, said-none}
use Rattle.buffers.proofs.Telling.{told_same}
use Rattle.classes.specs.declared.TypeDefRow.{TypeDefRow}
use Rattle.record.specs.View.{View}
use Rattle.record.specs.Names.{base_types, base_steps}
use Rattle.record.specs.Allowance.{count_of, base_work}
use Rattle.record.specs.Record.{class}
use Rattle.record.specs.Answers.{◌⟫◌, or_no_row, item, the_class, Numbered, base_count, base_name}
use Rattle.steps.specs.Counting.{Steps, Takes, left}
use Rattle.rows.specs.Columns as columns
use Rattle.rows.specs.Layout.{Laid, rows_at, view_in}
use Rattle.places.proofs.Laws.{listed, unlisted}
use Rattle.std.specs.Prelude.{Some, None, Ok, Err, ok_or}
use Rattle.buffers.specs.declared.Unnamed.TheVariants.{NoRow}

-- A text that may be missing, as the answer of a call that says 4 where it is missing.
module _ {o : Option Text} {b b' : List ℕ} {at : ℕ} where
  pub told-by : (place : Place) → Said b at b' o (place_says place) → ToldIs (or_no_row o) b at b' (ok_or place NoRow)
  told-by (Some at') s = let there = said-some s in name there.text (ap or_no_row there.is) there.wrote
  told-by None s = let gone = said-none s in no_row (ap or_no_row gone.0) gone.1

module _ {t l : List ℕ} (laid : Laid t l) (strings blob : List ℕ) (c : ℕ) where
  abbrev v : View
  v = view_in t l strings blob

  -- A class that is listed, with its row.
  module _ {row : TypeDefRow} (at : (row.0 ≡ c + 2) × (c + 2 ≤ rows_at l columns.type_name)) where
    is : the_class v c ≡ value (class v c)
    is = listed laid strings blob c at.1

    number_of : row.0 - 2 ≡ c
    number_of = omega (arith, at.0)

    pub class-bases : {x : ℕ} → x ≡ length (base_types v (row.0 - 2)) → Numbered (base_count v c) (Ok x)
    unfolding base_count class
    class-bases e =
        ap value (e ∙ ap (λ (k : ℕ). length (base_types v k)) number_of)
        ∙ sym (ap (λ a. a ⟫ (λ k. value (length k.bases))) is)

    pub class-takes : {steps : ℕ} {r : Steps} → Takes (base_steps v (row.0 - 2)) steps r → Takes (count_of (base_work v c)) steps r
    unfolding base_work
    class-takes {steps} {r} takes =
        let work : base_work v c ≡ value (base_steps v c) = ap (λ a. a ⟫ (λ _. value (base_steps v c))) is in
        subst (λ (n : ℕ). Takes n steps r) (ap (base_steps v) number_of ∙ sym (ap count_of work)) takes

    module _ (n : ℕ) where
      base-is : base_name v c n ≡ or_no_row (get_elem? (base_types v (row.0 - 2)) n)
      unfolding base_name class
      base-is = ap (λ a. a ⟫ (λ k. item k.bases n)) is ∙ ap (λ (k : ℕ). or_no_row (get_elem? (base_types v k) n)) (sym number_of)

      pub class-base : {b b' : List ℕ} {place : ℕ} {r : Told} → ToldIs (or_no_row (get_elem? (base_types v (row.0 - 2)) n)) b place b' r
          → ToldIs (base_name v c n) b place b' r
      class-base told = told_same base-is told

  -- A class that is not.
  module _ (h : rows_at l columns.type_name < c + 2) where
    isn't : the_class v c ≡ refused_by NoSuchRow
    isn't = unlisted laid strings blob c h

    pub no-class-bases : Numbered (base_count v c) (Err NoSuchRow)
    unfolding base_count
    no-class-bases = sym (ap (λ a. a ⟫ (λ k. value (length k.bases))) isn't)

    pub no-class-base : (n : ℕ) (b : List ℕ) (place : ℕ) → ToldIs (base_name v c n) b place b (Err NoRow)
    unfolding base_name
    no-class-base n b place = no_row (ap (λ a. a ⟫ (λ k. item k.bases n)) isn't) (kept_same b place)

    pub no-class-takes : (steps : ℕ) → Takes (count_of (base_work v c)) steps (Some steps)
    unfolding base_work
    no-class-takes steps =
        let work : count_of (base_work v c) ≡ 0 = ap count_of (ap (λ a. a ⟫ (λ _. value (base_steps v c))) isn't) in
        left {rest = steps} (omega (arith, work))
