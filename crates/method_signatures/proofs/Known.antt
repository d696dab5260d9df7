-- How what is known of a signature is found, and how it stays true from one type to the next. Assumes nothing.
use mathlib.Core.Path.{◌≡◌, refl, sym, ap, ◌∙◌, subst}
use mathlib.Core.List.{List, [], ◌∷◌}
use mathlib.Core.Option.{Option, none, some}
use Prim.Native.Nat.{ℕ, zero, suc, ◌+◌, ◌-◌, ◌≤◌, ◌<◌}
use native.Mathlib.Nat.{add-zero}
use native.Mathlib.Numerals.{add-one}
use native.Mathlib.Omega.{arith}
use lib.ListN.{length, drop, get_elem?}
use Rattle.numbers.specs.Parts.{part}
use Rattle.numbers.specs.Reading.{Reader}
use Rattle.buffers.specs.Texts.{Text}
use Rattle.buffers.specs.Replies.{Answer, refused_by, name_or_5}
use Rattle.buffers.specs.Telling.{Told, ToldIs, name, missing, no_row}
use Rattle.buffers.specs.declared.Reason.TheVariants.{Untold}
use Rattle.buffers.specs.declared.Refusal.TheVariants.{NoSuchRow}
use Rattle.buffers.proofs.Writing.{kept_same}
use Rattle.buffers.proofs.Telling.{told_same}
use Rattle.record.specs.View.{View}
use Rattle.record.specs.Methods.{Signature as Found, signature_in, parameter_name}
use Rattle.record.specs.Record.{Parameter, parameters_from, method}
use Rattle.record.specs.Answers.{◌⟫◌, item}
use Rattle.rendering.specs.Rendered.{Rendering, Rendered}
use Rattle.rendering.proofs.Laws.{rendered-done, rendered-failed}
use Rattle.method_signatures.specs.Signatures.{type_by, types_from, behind}
use Rattle.method_signatures.specs.Known.{types_of, Reads, key_of, KnowsSignature, About, known_behind, read_more}
use Rattle.method_signatures.specs.declared.Reading.{Reading}
use Rattle.method_signatures.specs.declared.Signature.{Signature}
use Rattle.method_signatures.proofs.Laws.{types-length}
use Rattle.method_signatures.proofs.Values.{Made, parameter-some, parameter-gone}
use Rattle.std.specs.Prelude.{Ok, Err}
use Rattle.buffers.specs.declared.Unnamed.TheVariants.{Missing, NoRow}

-- ---- Types behind others

module _ (type : Reader Text) where
  types-behind : (n p : ℕ) (s : List ℕ) (at : ℕ) → p ≤ n → drop p (types_from type n s at) ≡ types_from type (n - p) s (behind type p s at)
  unfolding types_from behind
  types-behind n zero s at h = let e : n ≡ n - 0 = omega arith in ap (λ (k : ℕ). types_from type k s at) e
  types-behind zero (suc p) s at h = absurd (omega arith)
  types-behind (suc n) (suc p) s at h =
      let e : n - p ≡ suc n - suc p = omega arith in
      types-behind n p s (type s at).next (omega arith) ∙ ap (λ (k : ℕ). types_from type k s (behind type p s (type s at).next)) e

  types-gone : (n p : ℕ) (s : List ℕ) (at : ℕ) → n ≤ p → drop p (types_from type n s at) ≡ []
  unfolding types_from
  types-gone zero zero s at h = refl
  types-gone zero (suc p) s at h = refl
  types-gone (suc n) zero s at h = absurd (omega arith)
  types-gone (suc n) (suc p) s at h = types-gone n p s (type s at).next (omega arith)

  types_more : (n : ℕ) (s : List ℕ) (at : ℕ) → 0 < n → types_from type n s at ≡ (type s at).got ∷ types_from type (n - 1) s (type s at).next
  unfolding types_from
  types_more zero s at h = absurd (omega arith)
  types_more (suc n) s at h = let e : n ≡ suc n - 1 = omega arith in ap (λ (k : ℕ). (type s at).got ∷ types_from type k s (type s at).next) e

  types-over : {n : ℕ} (s : List ℕ) (at : ℕ) → n ≡ 0 → types_from type n s at ≡ []
  unfolding types_from
  types-over s at e = rw e

-- What stands where a list is dropped to.
drop_head : {A : Type 0} (l : List A) (p : ℕ) {a : A} {r : List A} → drop p l ≡ a ∷ r → get_elem? l p ≡ some a
drop_head [] zero e = cc
drop_head [] (suc p) e = cc
drop_head (x ∷ l) zero e = cc
drop_head (x ∷ l) (suc p) e = drop_head l p e

drop-suc : {A : Type 0} (l : List A) (p : ℕ) {a : A} {r : List A} → drop p l ≡ a ∷ r → drop (suc p) l ≡ r
drop-suc [] zero e = cc
drop-suc [] (suc p) e = cc
drop-suc (x ∷ l) zero e = cc
drop-suc (x ∷ l) (suc p) e = drop-suc l p e

drop-tail : {A : Type 0} (l : List A) (p : ℕ) {a : A} {r : List A} → drop p l ≡ a ∷ r → drop (p + 1) l ≡ r
drop-tail l p e = rw (add-one p) (drop-suc l p e)

drop-none : {A : Type 0} (l : List A) (p : ℕ) → drop p l ≡ [] → get_elem? l p ≡ none
drop-none [] zero e = refl
drop-none [] (suc p) e = refl
drop-none (x ∷ l) zero e = cc
drop-none (x ∷ l) (suc p) e = drop-none l p e

drop-nothing : {A : Type 0} (p : ℕ) → drop {A = A} p [] ≡ []
drop-nothing zero = refl
drop-nothing (suc p) = refl

-- None stands past the end.
element-past : {A : Type 0} (l : List A) (p : ℕ) → length l ≤ p → get_elem? l p ≡ none
element-past [] p h = refl
element-past (x ∷ l) zero h = absurd (omega arith)
element-past (x ∷ l) (suc p) h = element-past l p (omega arith)

-- ---- What is known of a method

module _ (v : View) (heap : List ℕ) (c m : ℕ) where
  types-read : {s : Found} → signature_in v c m ≡ some s → types_of v c m ≡ s.parameters
  unfolding types_of
  types-read e = rw e

  types-unread : signature_in v c m ≡ none → types_of v c m ≡ []
  unfolding types_of
  types-unread e = rw e

  parameters-are : (method v c m).parameters ≡ parameters_from v m 0 (types_of v c m)
  unfolding method types_of
  parameters-are = refl

  -- The answers by the types.
  answer-there : (p : ℕ) {t : Option Text} → get_elem? (types_of v c m) p ≡ some t → (item (method v c m).parameters p ⟫ (λ k. name_or_5 k.type)) ≡ name_or_5 t
  answer-there p e =
      ap (λ (a : Answer Parameter). a ⟫ (λ k. name_or_5 k.type)) (ap (λ (l : List Parameter). item l p) parameters-are ∙ parameter-some v m p (types_of v c m) e)

  answer-gone : (f : Parameter → Answer Text) (p : ℕ) → get_elem? (types_of v c m) p ≡ none → (item (method v c m).parameters p ⟫ f) ≡ refused_by NoSuchRow
  answer-gone f p e =
      ap (λ (a : Answer Parameter). a ⟫ f) (ap (λ (l : List Parameter). item l p) parameters-are ∙ parameter-gone v m p (types_of v c m) e)

  named-from : (i p : ℕ) (ts : List (Option Text)) → p < length ts
      → (item (parameters_from v m i ts) p ⟫ (λ k. name_or_5 k.name)) ≡ name_or_5 (parameter_name v m (i + p))
  named-from i p [] h = absurd (omega arith)
  named-from i zero (t ∷ ts) h = rw (add-zero i)
  named-from i (suc p) (t ∷ ts) h =
      let e : i + 1 + p ≡ i + suc p = omega arith in
      named-from (i + 1) p ts (omega arith) ∙ ap (λ (k : ℕ). name_or_5 (parameter_name v m k)) e

  answer-named : (p : ℕ) → p < length (types_of v c m) → (item (method v c m).parameters p ⟫ (λ k. name_or_5 k.name)) ≡ name_or_5 (parameter_name v m p)
  answer-named p h =
      let e : 0 + p ≡ p = omega arith in
      ap (λ (l : List Parameter). item l p ⟫ (λ k. name_or_5 k.name)) parameters-are
      ∙ named-from 0 p (types_of v c m) h ∙ ap (λ (k : ℕ). name_or_5 (parameter_name v m k)) e

  -- By the one number of a class and a method.
  knows-of : (k : Signature) → About k c m → Reads v heap c m k → KnowsSignature v heap k
  knows-of k mine r = record {
    signature = λ d i narrow is.
        let class : c ≡ d = omega (arith, mine.narrow, mine.method) in
        let row : m ≡ i = omega (arith, mine.narrow, mine.method) in
        subst (λ (j : ℕ). Reads v heap d j k) row (subst (λ (b : ℕ). Reads v heap b m k) class r);
  }

  reads_of : (k : Signature) → About k c m → KnowsSignature v heap k → Reads v heap c m k
  reads_of k mine r = r.signature c m mine.narrow mine.method

  -- A reading that was made, behind p types,
  module _ {b b' : List ℕ} {at : ℕ} {r : Reading} (k : Made v heap c m b at b' r) where
    made_counted : r.count ≡ length (types_of v c m)
    made_counted =
        sym (ap (λ (l : List (Option Text)). length l) (types-read k.is) ∙ types-length (type_by v m r.owner) r.count (part heap r.start r.len) r.next)

    module _ (narrow : m + 1 < 4294967296) where
      knows-made : {read next : ℕ} → drop read (types_of v c m) ≡ types_from (type_by v m r.owner) (r.count - read) (part heap r.start r.len) next
          → KnowsSignature v heap (known_behind r c m read next)
      knows-made rest = knows-of _ (record { narrow = narrow; method = refl }) (record { inside = k.inside; counted = made_counted; rest = rest })

      pub knows-behind : {p next : ℕ} → p ≤ r.count → {sig : List ℕ} → sig ≡ part heap r.start r.len → next ≡ behind (type_by v m r.owner) p sig r.next
          → KnowsSignature v heap (known_behind r c m p next)
      knows-behind {p} h is e =
          rw (e, is) (knows-made (ap (drop p) (types-read k.is) ∙ types-behind (type_by v m r.owner) r.count p (part heap r.start r.len) r.next h))

      -- at the first of them,
      pub knows-first : KnowsSignature v heap (known_behind r c m 0 r.next)
      unfolding behind
      knows-first = knows-behind (omega arith) refl refl

      -- past all of them,
      pub knows-past : {p : ℕ} → r.count ≤ p → KnowsSignature v heap (known_behind r c m p r.next)
      knows-past {p} h =
          let z : r.count - p ≡ 0 = omega arith in
          knows-made (ap (drop p) (types-read k.is) ∙ types-gone (type_by v m r.owner) r.count p (part heap r.start r.len) r.next h
          ∙ sym (types-over (type_by v m r.owner) (part heap r.start r.len) r.next z))

  -- and none.
  pub knows-none : m + 1 < 4294967296 → {key : ℕ} → key ≡ key_of c m → (p : ℕ) → signature_in v c m ≡ none
      → KnowsSignature v heap (record { method = key; owner = 0; start = 0; len = 0; count = 0; read = p; next = 0 })
  knows-none narrow its p e =
      let z : 0 - p ≡ 0 = omega arith in
      knows-of _ (record { narrow = narrow; method = its }) (record {
        inside = omega arith;
        counted = rw (types-unread e) refl;
        rest = ap (drop p) (types-unread e) ∙ drop-nothing p ∙ sym (types-over (type_by v m 0) (part heap 0 0) 0 z);
      })

-- ---- The name of a parameter

module _ (v : View) (heap : List ℕ) (c m p : ℕ) (k : Signature) (known : KnowsSignature v heap k) (mine : About k c m) where
  pub told-no-param : (b : List ℕ) (at : ℕ) → k.count ≤ p → ToldIs (item (method v c m).parameters p ⟫ (λ x. name_or_5 x.name)) b at b (Err NoRow)
  told-no-param b at h =
      no_row (answer-gone v heap c m (λ x. name_or_5 x.name) p (element-past (types_of v c m) p (omega (arith, (reads_of v heap c m k mine known).counted))))
      (kept_same b at)

  pub told-param : {b b' : List ℕ} {at : ℕ} {r : Told} → p < k.count → ToldIs (name_or_5 (parameter_name v m p)) b at b' r
      → ToldIs (item (method v c m).parameters p ⟫ (λ x. name_or_5 x.name)) b at b' r
  told-param h t = told_same (answer-named v heap c m p (omega (arith, (reads_of v heap c m k mine known).counted))) t

-- ---- A type more

module _ (v : View) (heap : List ℕ) (c m p : ℕ) (k : Signature) (known : KnowsSignature v heap k) (mine : About k c m) (behind-p : k.read ≡ p) where
  abbrev here : Reader Text
  here = type_by v m k.owner

  abbrev sig : List ℕ
  sig = part heap k.start k.len

  reads : Reads v heap c m k
  reads = reads_of v heap c m k mine known

  rest : drop p (types_of v c m) ≡ types_from here (k.count - k.read) sig k.next
  rest = ap (λ (i : ℕ). drop i (types_of v c m)) (sym behind-p) ∙ reads.rest

  pub part-inside : k.start + k.len ≤ length heap
  part-inside = reads.inside

  pub told-past : (b : List ℕ) (at : ℕ) → k.count ≤ k.read → ToldIs (item (method v c m).parameters p ⟫ (λ x. name_or_5 x.type)) b at b (Err NoRow)
  told-past b at h =
      let z : k.count - k.read ≡ 0 = omega arith in
      no_row (answer-gone v heap c m (λ x. name_or_5 x.type) p (drop-none (types_of v c m) p (rest ∙ types-over here sig k.next z))) (kept_same b at)

  module _ (more : k.read < k.count) where
    split : drop p (types_of v c m) ≡ (here sig k.next).got ∷ types_from here (k.count - k.read - 1) sig (here sig k.next).next
    split = rest ∙ types_more here (k.count - k.read) sig k.next (omega arith)

    next_known : {q : ℕ} → (here sig k.next).next ≡ q → KnowsSignature v heap (read_more k q)
    next_known e =
        let one : k.count - k.read - 1 ≡ k.count - (k.read + 1) = omega arith in
        knows-of v heap c m _ (record { narrow = mine.narrow; method = mine.method }) (record {
          inside = part-inside;
          counted = reads.counted;
          rest = ap (λ (i : ℕ). drop (i + 1) (types_of v c m)) behind-p ∙ drop-tail (types_of v c m) p split
              ∙ ap (λ (n : ℕ). types_from here n sig (here sig k.next).next) one
              ∙ ap (types_from here (k.count - (k.read + 1)) sig) e;
        })

    module _ {s : List ℕ} (is : s ≡ sig) {b b' : List ℕ} {at : ℕ} {r : Rendering} (rendered : Rendered (here s k.next) b at b' r) where
      at_part : Rendered (here sig k.next) b at b' r
      at_part = rw is at rendered

      pub told-type : {end next : ℕ} → r ≡ Ok (end, next) → {k' : Signature} → k' ≡ read_more k next
          → ToldIs (item (method v c m).parameters p ⟫ (λ x. name_or_5 x.type)) b at b' (Ok end) × KnowsSignature v heap k'
      told-type e f =
          let x = rendered-done at_part e in
          (name x.text (answer-there v heap c m p (drop_head (types_of v c m) p split) ∙ ap name_or_5 x.got) x.wrote, rw f (next_known x.on))

      pub told-no-type : {next : ℕ} → r ≡ Err next → {k' : Signature} → k' ≡ read_more k next
          → ToldIs (item (method v c m).parameters p ⟫ (λ x. name_or_5 x.type)) b at b' (Err (Missing Untold)) × KnowsSignature v heap k'
      told-no-type e f =
          let x = rendered-failed at_part e in
          (missing (answer-there v heap c m p (drop_head (types_of v c m) p split) ∙ ap name_or_5 x.got) x.keeps, rw f (next_known x.on))
