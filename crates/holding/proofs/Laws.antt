-- What filling the memories of a layout relies on: the start, a memory more, and the end. Assumes nothing.
use mathlib.Core.Path.{◌≡◌, sym, ap, subst, ◌∙◌}
use mathlib.Core.List.{List, ◌++◌}
use mathlib.Core.Logic.{◌≢◌, ⊎_elim}
use Prim.Native.Nat.{ℕ, zero, suc, ◌+◌, ◌-◌, ◌*◌, ◌≤◌, ◌<◌}
use native.Mathlib.Omega.{arith}
use lib.ListN.{length, get_or, set, take, drop, length-set, length-append, length-drop, get_or-append}
use Rattle.std.proofs.lemmas.List.{get_or-drop, get_or-append_right}
use lib.Seq.{get_or-set_same, get_or-set_other, get_or-take, length-take-le, take_at, drop_at}
use Rattle.numbers.specs.Parts.{part}
use Rattle.rows.specs.Columns as columns
use Rattle.rows.specs.Layout.{Laid, held_start, held_length, held_at}
use Rattle.rows.proofs.Laws.{same_or_not}
use Rattle.rows.proofs.Memory.{sorted_none, nested-none, held_none, part_length, part_same, same-options, relaid}
use Rattle.holding.specs.Holding.{Told, Bare, Holding, Held}

-- ---- The copy: v is the memory with its first words zeroed, where the first ones of the layout are then put

pub copied : (l v m : List ℕ) → columns.size ≤ length l → ((k : ℕ) → k < columns.size → get_or v k 0 ≡ 0) → m ≡ take columns.held l → Bare l (m ++ drop columns.held v)
copied l v m h z e =
    let long : length m ≡ columns.held = ap length e ∙ length-take-le columns.held l (omega arith) in
    record {
      same = λ i b. get_or-append m (drop columns.held v) 0 i (omega arith) ∙ ap (λ (x : List ℕ). get_or x i 0) e ∙ get_or-take columns.held l i 0 b;
      none = λ i a b.
          let q : columns.held + (i - columns.held) ≡ i = omega arith in
          get_or-append_right m (drop columns.held v) columns.held i 0 long a ∙ get_or-drop columns.held v (i - columns.held) 0
          ∙ ap (λ (x : ℕ). get_or v x 0) q ∙ z i b;
    }

-- ---- The start

told_none : (t l : List ℕ) (j : ℕ) (w : List ℕ) → held_length w j ≡ 0 → Told t l j (held_at w j)
told_none t l zero w e = subst (Told t l zero) (sym (held_none w zero e)) (sorted_none _ _)
told_none t l (suc zero) w e = subst (Told t l (suc zero)) (sym (held_none w (suc zero) e)) (sorted_none _ _)
told_none t l (suc (suc zero)) w e = subst (Told t l (suc (suc zero))) (sym (held_none w (suc (suc zero)) e)) (nested-none _ _ _)
told_none t l (suc (suc (suc j))) w e = subst (Told t l (suc (suc (suc j)))) (sym (held_none w (suc (suc (suc j))) e)) (sorted_none _ _)

pub hold-start : (t l w : List ℕ) → columns.size ≤ length w → Bare l w → Holding t l w columns.size
hold-start t l w h b =
    record {
      order = omega arith;
      long = h;
      same = b.same;
      inside = λ j k. omega (arith, b.none (columns.held + columns.held_numbers * j) (omega arith) (omega arith), no_words j k);
      behind = λ j k p. absurd (omega (arith, no_words j k));
      told = λ j k. told_none t l j w (no_words j k);
    }
  where
    no_words : (j : ℕ) → j < columns.held_count → held_length w j ≡ 0
    no_words j k = b.none (columns.held + columns.held_numbers * j + columns.held_words) (omega arith) (omega arith)

-- ---- A memory more: the words m, k of them, from the place on

module _ {t l : List ℕ} (w : List ℕ) {at : ℕ} (h : Holding t l w at) (j k : ℕ) (num : j < columns.held_count) (m : List ℕ) (full : length m ≡ k)
    (room : at + k ≤ length w) where
  abbrev w₁ : List ℕ
  w₁ = take at w ++ (m ++ drop k (drop at w))

  front : length (take at w) ≡ at
  front = length-take-le at w h.long

  pub more-length : length w₁ ≡ length w
  more-length =
      omega (arith, front, full, length-append (take at w) (m ++ drop k (drop at w)), length-append m (drop k (drop at w)), length-drop k (drop at w), length-drop at w)

  first : (i : ℕ) → i < at → get_or w₁ i 0 ≡ get_or w i 0
  first i b = get_or-append (take at w) (m ++ drop k (drop at w)) 0 i (omega (arith, front)) ∙ get_or-take at w i 0 b

  there : part w₁ at k ≡ m
  there = ap (take k) (drop_at (take at w) (m ++ drop k (drop at w)) at front) ∙ take_at m (drop k (drop at w)) k full

  abbrev a : ℕ
  a = columns.held + columns.held_numbers * j

  module _ (w₂ : List ℕ) (is : w₂ ≡ set (set w₁ a at) (a + columns.held_words) k) where
    long₂ : length w₂ ≡ length w
    long₂ = ap length is ∙ length-set (set w₁ a at) (a + columns.held_words) k ∙ length-set w₁ a at ∙ more-length

    other : (i : ℕ) → i ≢ a → i ≢ a + columns.held_words → get_or w₂ i 0 ≡ get_or w₁ i 0
    other i p q =
        ap (λ (x : List ℕ). get_or x i 0) is ∙ get_or-set_other (set w₁ a at) (a + columns.held_words) i k 0 q ∙ get_or-set_other w₁ a i at 0 p

    start-here : held_start w₂ j ≡ at
    start-here =
        ap (λ (x : List ℕ). get_or x a 0) is ∙ get_or-set_other (set w₁ a at) (a + columns.held_words) a k 0 (λ e. omega arith)
        ∙ get_or-set_same w₁ a at 0 (omega (arith, more-length, h.order, h.long))

    length-here : held_length w₂ j ≡ k
    length-here =
        ap (λ (x : List ℕ). get_or x (a + columns.held_words) 0) is
        ∙ get_or-set_same (set w₁ a at) (a + columns.held_words) k 0 (omega (arith, length-set w₁ a at, more-length, h.order, h.long))

    here : held_at w₂ j ≡ m
    here =
        ap (λ (x : ℕ). part w₂ x (held_length w₂ j)) start-here ∙ ap (part w₂ at) length-here
        ∙ part_same w₁ w₂ at k (omega (arith, more-length)) (omega (arith, long₂)) (λ i b c. other i (λ e. omega (arith, h.order)) (λ e. omega (arith, h.order)))
        ∙ there

    -- The memories that were there.
    module _ (d : ℕ) (dn : d < columns.held_count) (ne : d ≢ j) where
      start-kept : held_start w₂ d ≡ held_start w d
      start-kept =
          other (columns.held + columns.held_numbers * d) (λ e. ne (omega arith)) (λ e. omega arith)
          ∙ first (columns.held + columns.held_numbers * d) (omega (arith, h.order))

      length-kept : held_length w₂ d ≡ held_length w d
      length-kept =
          other (columns.held + columns.held_numbers * d + columns.held_words) (λ e. omega arith) (λ e. ne (omega arith))
          ∙ first (columns.held + columns.held_numbers * d + columns.held_words) (omega (arith, h.order))

      kept : held_at w₂ d ≡ held_at w d
      kept =
          ap (λ (x : ℕ). part w₂ x (held_length w₂ d)) start-kept ∙ ap (part w₂ (held_start w d)) length-kept
          ∙ part_same w w₂ (held_start w d) (held_length w d) (omega (arith, h.inside d dn, h.long)) (omega (arith, h.inside d dn, h.long, long₂))
          (λ i b c.
          let far = h.behind d dn (omega arith) in
          other i (λ e. omega arith) (λ e. omega arith) ∙ first i (omega (arith, h.inside d dn)))

    pub hold-more : Told t l j m → Holding t l w₂ (at + k)
    hold-more true =
        record {
          order = omega (arith, h.order);
          long = omega (arith, long₂);
          same = λ i b. other i (λ e. omega arith) (λ e. omega arith) ∙ first i (omega (arith, h.order)) ∙ h.same i b;
          inside = λ d dn.
              ⊎_elim (λ e. let s : held_start w₂ d ≡ at = ap (held_start w₂) e ∙ start-here in let n : held_length w₂ d ≡ k = ap (held_length w₂) e ∙ length-here in omega arith)
              (λ ne. omega (arith, start-kept d dn ne, length-kept d dn ne, h.inside d dn)) (same_or_not d j);
          behind = λ d dn p.
              ⊎_elim (λ e. let s : held_start w₂ d ≡ at = ap (held_start w₂) e ∙ start-here in omega (arith, h.order))
              (λ ne. omega (arith, start-kept d dn ne, h.behind d dn (omega (arith, length-kept d dn ne)))) (same_or_not d j);
          told = λ d dn.
              ⊎_elim (λ e. subst (λ (x : ℕ). Told t l x (held_at w₂ x)) (sym e) (subst (Told t l j) (sym here) true))
              (λ ne. subst (Told t l d) (sym (kept d dn ne)) (h.told d dn)) (same_or_not d j);
        }

-- As the code has it.
pub hold-done : {t l : List ℕ} (w : List ℕ) {at : ℕ} → Holding t l w at → (j end : ℕ) → j < columns.held_count → at ≤ end → end ≤ length w → (m : List ℕ)
    → length m ≡ length (part w at (end - at)) → (w₂ : List ℕ)
    → w₂ ≡ set (set (take at w ++ (m ++ drop (end - at) (drop at w))) (columns.held + columns.held_numbers * j) at)
    (columns.held + columns.held_numbers * j + columns.held_words) (end - at)
    → Told t l j m → Holding t l w₂ end
hold-done {t} {l} w {at} h j end num order room m e w₂ is true =
    let full = e ∙ part_length w at (end - at) (omega arith) in
    let same : at + (end - at) ≡ end = omega arith in
    subst (Holding t l w₂) same (hold-more w h j (end - at) num m full (omega arith) w₂ is true)

-- ---- The end

pub hold-end : {t l : List ℕ} (w : List ℕ) {at : ℕ} → Laid t l → Holding t l w at → Held t l w
hold-end {t} {l} w laid h =
    record {
      laid =
          relaid w laid (λ i b. h.same i (omega arith)) (omega (arith, h.order, h.long)) (λ e. laid.marked (sym (h.same columns.mark (omega arith)) ∙ e))
          (λ j b. omega (arith, h.inside j b, h.long)) h.behind (h.told columns.by_owner (omega arith)) (h.told columns.by_class (omega arith))
          (h.told columns.by_parent (omega arith)) (h.told columns.by_nested (omega arith));
      options = same-options w laid (λ i b. h.same i (omega arith));
    }
