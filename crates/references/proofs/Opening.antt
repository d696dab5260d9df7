-- What opening answers, by what the code finds: the layout says the options that the stream was opened with, and so its view. Assumes
-- nothing.
use mathlib.Core.Path.{◌≡◌, sym, ap, ◌∙◌}
use mathlib.Core.List.{List}
use Prim.Native.Nat.{ℕ}
use native.Mathlib.Omega.{arith}
use lib.ListN.{length, replicate}
use Rattle.buffers.specs.declared.Refusal.{Refusal}
use Rattle.header.specs.Stream.{Opened, opened}
use Rattle.header.specs.declared.Options.{Options}
use Rattle.header.specs.Stream.{Opening}
use Rattle.record.specs.View.{view}
use Rattle.opening.proofs.Laws.{flag_is}
use Rattle.references.specs.Columns as columns
use Rattle.references.specs.Layout.{layout_of, options_in, view_in, OpenedAs}
use Rattle.references.proofs.Laying.{layout-size}
use Rattle.std.specs.Prelude.{Ok, Err}

said : (o : Options) (h : Opening) (n : ℕ) → options_in (layout_of o h n) ≡ o
unfolding options_in layout_of
said o h n = rw (flag_is o.security, flag_is o.taker)

module _ {o : Options} {t : List ℕ} {h : Opening} (e : h ≡ opened o t) where
  pub is-refused : {why : Refusal} {a : Opened} {l : List ℕ} → h.answer ≡ Err why → (a ≡ Err why) × (l ≡ replicate columns.size 0) → OpenedAs o t a l
  is-refused f (g, z) =
      record {
        answer = g ∙ sym f ∙ ap (λ (x : Opening). x.answer) e;
        laid = λ r. let no : ◌≡◌ {A = ℕ} 0 1 = cc in absurd (omega arith);
        options = λ r. let no : ◌≡◌ {A = ℕ} 0 1 = cc in absurd (omega arith);
        blank = λ _. z;
      }

  pub is-ready : {l : List ℕ} → h.answer ≡ (Ok tt)
      → l ≡ layout_of o (record { answer = (Ok tt); heap = h.heap; first = h.first; counts = h.counts }) (length t) → OpenedAs o t (Ok tt) l
  is-ready {l} f g =
      let same : record { answer = (Ok tt); heap = h.heap; first = h.first; counts = h.counts } ≡ opened o t = rw (← f) e in
      let is : (opened o t).answer ≡ (Ok tt) = ap (λ (x : Opening). x.answer) (sym e) ∙ f in
      let all : l ≡ layout_of o (opened o t) (length t) = rw same at g in
      let by : options_in l ≡ o = rw all (said o (opened o t) (length t)) in
      record {
        answer = sym is;
        laid = λ _. record { size = rw all (layout-size o (opened o t) (length t)); ready = rw by is; is = rw by all };
        options = λ _. by;
        blank = λ r. let z : ◌≡◌ {A = ℕ} 0 1 = cc in absurd (omega arith);
      }

-- What the calls cite of it.
module _ {o : Options} {t : List ℕ} {a : Opened} {l : List ℕ} (c : OpenedAs o t a l) (r : a ≡ (Ok tt)) where
  pub opened_view : (strings blob : List ℕ) → view_in t l strings blob ≡ view o t strings blob
  opened_view strings blob = rw (c.options r)
