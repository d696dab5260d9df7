-- What the calls cite of an opened stream: the layout says the options that it was opened with, and so the stream's view. Assumes nothing.
use mathlib.Core.Path.{◌≡◌, refl, sym, ap, subst, ◌∙◌}
use mathlib.Core.Bool.{Bool, true, false, cond}
use mathlib.Core.List.{List}
use Prim.Native.Nat.{ℕ, ◌+◌, ◌*◌, ◌<◌}
use native.Mathlib.Omega.{arith}
use lib.Dec.{eqb}
use lib.ListN.{length, replicate}
use Rattle.buffers.specs.declared.Refusal.{Refusal}
use Rattle.header.specs.Stream.{Opened, opened}
use Rattle.header.specs.declared.Options.{Options}
use Rattle.header.specs.Stream.{Opening}
use Rattle.record.specs.View.{view}
use Rattle.rows.specs.Columns as columns
use Rattle.rows.specs.Layout.{layout_of, options_in, held_length, Laid, view_in}
use Rattle.rows.specs.Held.{Sorted, Nested}
use Rattle.rows.proofs.Memory.{sorted_none, nested-none, held_none}
use Rattle.opening.specs.Opening.{OpenedAs, Unmarked}
use Rattle.std.specs.Prelude.{Ok, Err}

-- The layout of a stream that was opened: it says the options, and has no mark and no memory.
pub flag_is : (b : Bool) → eqb (cond b 1 0) 1 ≡ b
flag_is true = refl
flag_is false = refl

opened-options : (o : Options) (h : Opening) (n : ℕ) → options_in (layout_of o h n) ≡ o
unfolding options_in layout_of
opened-options o h n = rw (flag_is o.security, flag_is o.taker)

module _ (o : Options) (t : List ℕ) {l : List ℕ} (u : Unmarked (layout_of o (opened o t) (length t)) l) where
  said : options_in l ≡ o
  unfolding options_in
  said =
      let same = opened-options o (opened o t) (length t) in
      rw (u.same columns.limit (omega arith), u.same columns.security (omega arith), u.same columns.taker (omega arith)) same

  no_words : (j : ℕ) → j < columns.held_count → held_length l j ≡ 0
  no_words j h = u.none (columns.held + columns.held_numbers * j + columns.held_words) (omega arith) (omega arith)

  fresh : (opened o t).answer ≡ (Ok tt) → o.limit < columns.word → Laid t l
  fresh r n =
      record {
        size = u.size;
        ready = rw said r;
        narrow = rw said n;
        is = rw said u.same;
        marked = λ m. absurd (omega (arith, u.none columns.mark (omega arith) (omega arith)));
        inside = λ j h.
            omega (
              arith,
              u.none (columns.held + columns.held_numbers * j) (omega arith) (omega arith),
              no_words j h,
              u.size,
            );
        behind = λ j h p. absurd (omega (arith, no_words j h));
        generics = subst (Sorted _ _) (sym (held_none l columns.by_owner (no_words columns.by_owner (omega arith)))) (sorted_none _ _);
        interfaces = subst (Sorted _ _) (sym (held_none l columns.by_class (no_words columns.by_class (omega arith)))) (sorted_none _ _);
        layouts = subst (Sorted _ _) (sym (held_none l columns.by_parent (no_words columns.by_parent (omega arith)))) (sorted_none _ _);
        nests = subst (Nested _ _ _) (sym (held_none l columns.by_nested (no_words columns.by_nested (omega arith)))) (nested-none _ _ _);
      }

-- The answer of opening, by what the code finds.
module _ {o : Options} {t : List ℕ} {h : Opening} (e : h ≡ opened o t) where
  pub is-refused : {why : Refusal} {a : Opened} {l : List ℕ} → h.answer ≡ Err why → (a ≡ Err why) × (l ≡ replicate columns.size 0) → OpenedAs o t a l
  is-refused f (g, z) =
      record {
        answer = g ∙ sym f ∙ ap (λ (x : Opening). x.answer) e;
        laid = λ r. let no : ◌≡◌ {A = ℕ} 0 1 = cc in absurd (omega arith);
        options = λ r. let no : ◌≡◌ {A = ℕ} 0 1 = cc in absurd (omega arith);
        blank = λ _. z;
      }

  pub is-ready : {l : List ℕ} → h.answer ≡ (Ok tt)
      → Unmarked (layout_of o (record { answer = (Ok tt); heap = h.heap; first = h.first; counts = h.counts }) (length t)) l → o.limit < columns.word
      → OpenedAs o t (Ok tt) l
  is-ready {l} f g n =
      let same : record { answer = (Ok tt); heap = h.heap; first = h.first; counts = h.counts } ≡ opened o t = rw (← f) e in
      let is : (opened o t).answer ≡ (Ok tt) = ap (λ (x : Opening). x.answer) (sym e) ∙ f in
      let all : Unmarked (layout_of o (opened o t) (length t)) l = rw same at g in
      record { answer = sym is; laid = λ _. fresh o t all is n; options = λ _. said o t all; blank = λ r. let z : ◌≡◌ {A = ℕ} 0 1 = cc in absurd (omega arith) }

-- What the calls cite of it.
module _ {o : Options} {t : List ℕ} {a : Opened} {l : List ℕ} (c : OpenedAs o t a l) (r : a ≡ (Ok tt)) where
  pub opened-laid : Laid t l
  opened-laid = c.laid r

  pub opened_view : (strings blob : List ℕ) → view_in t l strings blob ≡ view o t strings blob
  opened_view strings blob = rw (c.options r)
