-- A run of tags that keep the level, tag by tag. Assumes nothing.
use mathlib.Core.Path.{◌≡◌, refl, sym, ◌∙◌, ap}
use mathlib.Core.List.{List, [], ◌++◌, append_assoc, append-nil}
use mathlib.Core.Option.{Option, none, some}
use Prim.Native.Nat.{ℕ, zero, suc, ◌+◌, ◌-◌, ◌<◌, ◌≤◌}
use mathlib.Core.Logic.{⊎_elim}
use native.Mathlib.Nat.{add-zero, sub-zero, eq-or-lt_of_le}
use native.Mathlib.Omega.{arith}
use lib.ListN.{length, get_or}
use Rattle.numbers.specs.Reading.{Res, Reader, some_at, none_at, give, after, chain}
use Rattle.numbers.specs.Compressed.{uint}
use Rattle.numbers.proofs.Compressed.{uint-onward}
use Rattle.buffers.specs.Texts.{Text, q}
use Rattle.buffers.specs.Writes.{Wrote}
use Rattle.buffers.proofs.Writing.{wrote_then}
use Rattle.record.specs.Types.{around, modified}
use Rattle.shapes.specs.Runs.{brackets, suffixed, SameLevel, Plain, Leads, Stops, Tags, is-vector, is-modifier, is-torn, is-other}
use Rattle.shapes.specs.declared.Tag.TheVariants.{Vector, Modifier, Other}
use Rattle.std.specs.Prelude.{Ok, Err}

-- Brackets behind a text.
no-brackets : (o : Option Text) → o ≡ suffixed (brackets 0) o
unfolding brackets
no-brackets none = refl
no-brackets (some t) = ap some (sym (append-nil t))

brackets-add : (c n : ℕ) → brackets n ++ brackets c ≡ brackets (c + n)
unfolding brackets
brackets-add c zero = rw (add-zero c) refl
brackets-add c (suc n) =
    let z : c + suc n ≡ suc (c + n) = omega arith in
    rw z (append_assoc (q "[]") (brackets n) (brackets c) ∙ ap (λ (t : Text). q "[]" ++ t) (brackets-add c n))

brackets-both : (c n : ℕ) (o : Option Text) → suffixed (brackets c) (suffixed (brackets n) o) ≡ suffixed (brackets (c + n)) o
brackets-both c n none = refl
brackets-both c n (some t) = ap some (append_assoc t (brackets n) (brackets c) ∙ ap (λ (u : Text). t ++ u) (brackets-add c n))

-- A type between texts, as to its text and as to where it ends.
around-got : (s : List ℕ) (o : Option Text) (n m : ℕ) → (chain o n m (λ t i. give ([] ++ t ++ q "[]") s i)).got ≡ suffixed (brackets 1) o
unfolding brackets
around-got s none n m = refl
around-got s (some t) n m = refl

around-next : (s : List ℕ) (o : Option Text) (n m : ℕ) → (chain o n m (λ t i. give ([] ++ t ++ q "[]") s i)).next ≡ n
around-next s none n m = refl
around-next s (some t) n m = refl

-- A tag before a number that is passed over.
pub record Modifies (s : List ℕ) (at : ℕ) : Type 0 where
  pub is : (T : Reader Text) → SameLevel T → T s at ≡ after 1 (modified T s (at + 1))

-- One tag, for each way out of `read_tag`.
module _ {s : List ℕ} {at : ℕ} (lt : at < length s) where
  pub tag-vector : get_or s at 0 ≡ 0x1D → Tags s at (Ok Vector)
  unfolding around
  tag-vector e = is-vector (record {
    forward = omega arith;
    got = λ T h. ap (λ (r : Res Text). r.got) (h.vector s at lt e)
        ∙ around-got s (T s (at + 1)).got (T s (at + 1)).next (T s (at + 1)).steps;
    on = λ T h. ap (λ (r : Res Text). r.next) (h.vector s at lt e)
        ∙ around-next s (T s (at + 1)).got (T s (at + 1)).next (T s (at + 1)).steps;
  })

  pub tag-other : (get_or s at 0 ≡ 0x1D → ⊥) → (get_or s at 0 ≡ 0x1F → ⊥) → (get_or s at 0 ≡ 0x20 → ⊥) → Tags s at (Ok Other)
  tag-other no₁ no₂ no₃ = is-other (record { no-vector = λ _. no₁; no-required = λ _. no₂; no-optional = λ _. no₃ })

  -- A modifier, which either of two tags is.
  pub modifies : 0x1F ≤ get_or s at 0 → get_or s at 0 < 0x21 → Modifies s at
  modifies lo hi = record { is = λ T h. ⊎_elim (λ e. h.required s at lt (sym e)) (λ g. h.optional s at lt (omega (arith, g, hi))) (eq-or-lt_of_le lo) }

module _ {s : List ℕ} {at : ℕ} (m : Modifies s at) where
  pub tag-modifier : {v next : ℕ} → uint s (at + 1) ≡ some_at v next → Tags s at (Ok (Modifier next))
  unfolding modified
  tag-modifier {v} {next} e =
      let n : next ≡ (uint s (at + 1)).next = ap (λ (r : Res ℕ). r.next) (sym e) in
      let beyond : at < next = omega (arith, (uint-onward.ahead s (at + 1)).from) in
      is-modifier beyond (record {
        forward = omega arith;
        got = λ T h. ap (λ (r : Res Text). r.got) (m.is T h) ∙ rw e (no-brackets (T s next).got);
        on = λ T h. ap (λ (r : Res Text). r.next) (m.is T h) ∙ rw e refl;
      })

  pub tag-torn : {next : ℕ} → uint s (at + 1) ≡ none_at next → Tags s at (Err next)
  unfolding modified
  tag-torn {next} e =
      let n : next ≡ (uint s (at + 1)).next = ap (λ (r : Res ℕ). r.next) (sym e) in
      is-torn {next = next} (record {
        forward = omega (arith, (uint-onward.ahead s (at + 1)).from);
        got = λ T h. ap (λ (r : Res Text). r.got) (m.is T h) ∙ rw e refl;
        on = λ T h. ap (λ (r : Res Text). r.next) (m.is T h) ∙ rw e refl;
      })

-- The loop of `skip_run`: the tags up to a position are passed.
pub run-start : (s : List ℕ) (at : ℕ) → Leads s at 0 at
run-start s at = record { forward = omega arith; got = λ T h. no-brackets (T s at).got; on = λ T h. refl }

pub plain_end : {s : List ℕ} {at : ℕ} → length s ≤ at → Plain s at
plain_end h = record { no-vector = λ l _. absurd (omega arith); no-required = λ l _. absurd (omega arith); no-optional = λ l _. absurd (omega arith) }

then-leads : {s : List ℕ} {at c p n next : ℕ} → Leads s at c p → Leads s p n next → Leads s at (c + n) next
then-leads {s} {at} {c} {p} {n} {next} a b = record {
  forward = omega (arith, a.forward, b.forward);
  got = λ T h. a.got T h ∙ ap (suffixed (brackets c)) (b.got T h) ∙ brackets-both c n (T s next).got;
  on = λ T h. a.on T h ∙ b.on T h;
}

module _ {s : List ℕ} {p : ℕ} where
  pub past-modifier : {next : ℕ} → Tags s p (Ok (Modifier next)) → p < next
  past-modifier (is-modifier lt l) = lt

  pub run-other : Tags s p (Ok Other) → Plain s p
  run-other (is-other l) = l

  module _ {at c : ℕ} where
    pub run-vector : Tags s p (Ok Vector) → Leads s at c p → Leads s at (c + 1) (p + 1)
    run-vector (is-vector l) a = then-leads a l

    pub run-modifier : {next : ℕ} → Tags s p (Ok (Modifier next)) → Leads s at c p → Leads s at c next
    run-modifier (is-modifier lt l) a = rw (add-zero c) at (then-leads a l)

    pub run-torn : {next : ℕ} → Tags s p (Err next) → Leads s at c p → Stops s at next
    run-torn (is-torn b) a = record {
      forward = omega (arith, a.forward, b.forward);
      got = λ T k. a.got T k ∙ ap (suffixed (brackets c)) (b.got T k);
      on = λ T k. a.on T k ∙ b.on T k;
    }

-- The loop of `push_brackets`: i of n pairs are written.
module _ (n : ℕ) {b b₁ : List ℕ} {at at₁ : ℕ} where
  pub brackets-start : Wrote b at (brackets (n - 0)) b₁ at₁ → Wrote b at (brackets n) b₁ at₁
  brackets-start w = rw (sub-zero n) at w

  pub brackets-done : {i : ℕ} → n ≤ i → Wrote b at [] b₁ at₁ → Wrote b at (brackets (n - i)) b₁ at₁
  unfolding brackets
  brackets-done {i} h w = let z : n - i ≡ 0 = omega arith in rw z w

  pub brackets-turn : {b₂ : List ℕ} {at₂ i : ℕ} → i < n → Wrote b at (q "[]") b₁ at₁ → Wrote b₁ at₁ (brackets (n - (i + 1))) b₂ at₂
      → Wrote b at (brackets (n - i)) b₂ at₂
  unfolding brackets
  brackets-turn {i = i} h w v = let z : n - i ≡ suc (n - (i + 1)) = omega arith in rw z (wrote_then w v)
