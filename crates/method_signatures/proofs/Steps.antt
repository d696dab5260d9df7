-- What the readings of a method's signature take of the steps, reader by reader. Assumes nothing.
use mathlib.Core.Path.{◌≡◌, refl, sym, ap, subst}
use mathlib.Core.Bool.{Bool, true, false, ◌||◌}
use mathlib.Core.List.{List, [], ◌∷◌, map}
use Prim.Native.Nat.{ℕ, ◌+◌, ◌*◌, ◌≤◌, ◌<◌}
use lib.ListN.{length}
use native.Mathlib.Nat.{add-zero}
use native.Mathlib.Omega.{arith}
use Rattle.numbers.specs.Reading.{Res}
use Rattle.numbers.specs.Parts.{part}
use Rattle.buffers.specs.declared.Reason.{Reason}
use Rattle.heaps.specs.Lookups.{Part, blob_at}
use Rattle.record.specs.Readings.{total}
use Rattle.record.specs.View.{View}
use Rattle.record.specs.Names.{env, class_generics, method_generics}
use Rattle.record.specs.Methods.{Signature, signature, reading, read_steps, readers_from, method_steps, steps_in}
use Rattle.rows.specs.Columns as columns
use Rattle.rows.specs.Layout.{Laid, Ascends, rows_at, is_marked, cell, view_in}
use Rattle.rows.proofs.Laws.{marked-ascends}
use Rattle.signatures.specs.Environment.{env_in}
use Rattle.steps.specs.Counting.{Steps, Takes, left, spent}
use Rattle.steps.proofs.Laws.{takes-left, takes-spent}
use Rattle.passing.specs.Passing.{Passage, Passes, left_of, Suffices}
use Rattle.passing.proofs.Laws.{passes-takes}
use Rattle.method_signatures.specs.Signatures.{FirstIn}
use Rattle.method_signatures.proofs.Laws.{unread-blob, read-part, few-readers, readers_in, itself, each}
use Rattle.std.specs.Prelude.{Some, None, Ok, Err}

-- ---- A class's reading

steps_of : (v : View) (m c : ℕ) {d : Res Signature} → reading v m c ≡ d → d.steps ≡ read_steps v m c
unfolding read_steps
steps_of v m c e = ap (λ (x : Res Signature). x.steps) (sym e)

module _ {t l : List ℕ} (laid : Laid t l) (strings heap : List ℕ) (m c : ℕ) (h : m < rows_at l columns.method_signature)
    {p : Part} {i : ℕ} (told : i ≡ cell t l columns.method_signature m) (looked : p ≡ blob_at heap i) (steps : ℕ) where
  abbrev v : View
  v = view_in t l strings heap

  pub no-blob-takes : {why : Reason} → p ≡ Err why → Takes (read_steps v m c) steps (Some steps)
  no-blob-takes e =
      let none = steps_of v m c (unread-blob laid strings heap m c h told looked e) in left {rest = steps} (omega (arith, none))

  pub reading-takes : {start len : ℕ} → p ≡ Ok (record { start = start; len = len }) → {sig : List ℕ} → sig ≡ part heap start len → {owner : ℕ} → owner ≡ 2 * (c + 2)
      → {q : Passage} {r : Steps} → Passes (signature (env_in t l strings heap (Some owner) (Some (2 * (m + 1) + 1))) sig 0) steps q → r ≡ left_of q
      → Takes (read_steps v m c) steps r
  unfolding env_in
  reading-takes {start} {len} e is its {q} {r} passes rest =
      let here : Passes (signature (env v (class_generics v c) (method_generics v m)) (part heap start len) 0) steps q = rw (is, its) at passes in
      subst (λ (n : ℕ). Takes n steps r) (steps_of v m c (read-part laid strings heap m c h told looked e)) (passes-takes here rest)

-- ---- All of them

-- The steps of these classes.
unfoldable pub steps_by : View → ℕ → List ℕ → ℕ
steps_by v m l = total (map (read_steps v m) l)

-- Of the steps for all these classes so many are left for the rest of them.
pub record Paying (v : View) (m : ℕ) (all : List ℕ) (steps : ℕ) (rest : List ℕ) (have : ℕ) : Type 0 where
  pub paid : steps_by v m all + have ≡ steps_by v m rest + steps

module _ (v : View) (m : ℕ) where
  pub pay-start : (l : List ℕ) (steps : ℕ) → Paying v m l steps l steps
  pay-start l steps = record { paid = refl }

  module _ {all : List ℕ} {steps : ℕ} {l : List ℕ} {have : ℕ} (pays : Paying v m all steps l have) where
    pub pay-end : l ≡ [] → Takes (steps_by v m all) steps (Some have)
    unfolding steps_by
    pay-end e = let none : steps_by v m l ≡ 0 = rw e in left {rest = have} (omega (arith, pays.paid, none))

    module _ {reader : ℕ} {others : List ℕ} (is : l ≡ reader ∷ others) {r : Steps} (takes : Takes (read_steps v m reader) have r) where
      one_more : steps_by v m l ≡ read_steps v m reader + steps_by v m others
      unfolding steps_by
      one_more = rw is

      pub pay-more : {k : ℕ} → r ≡ Some k → {rest : List ℕ} → others ≡ rest → Paying v m all steps rest k
      pay-more e f = record { paid = omega (arith, pays.paid, one_more, takes-left takes e, ap (steps_by v m) f) }

      pub pay-spent : r ≡ None → Takes (steps_by v m all) steps None
      pay-spent e = spent (omega (arith, pays.paid, one_more, takes-spent takes e))

-- ---- Whose readings count, by the mode

module _ (v : View) (c m : ℕ) where
  taker-steps : v.taker ≡ true → steps_in v c m ≡ read_steps v m c
  unfolding steps_in
  taker-steps e = rw e

  any-steps : v.taker ≡ false → steps_in v c m ≡ method_steps v m
  unfolding steps_in
  any-steps e = rw e

  counts : (first : ℕ) → FirstIn v c m first → steps_by v m (readers_in v m first) ≡ steps_in v c m
  unfolding steps_by method_steps
  counts first is = by_mode v.taker refl
    where
      by_mode : (b : Bool) → v.taker ≡ b → steps_by v m (readers_in v m first) ≡ steps_in v c m
      by_mode true e = rw (itself v m e first, is.0 e, taker-steps e) (add-zero (read_steps v m c))
      by_mode false e = rw (each v m e first, ← (is.1 e), any-steps e)

  pub takes-in : {first : ℕ} → FirstIn v c m first → {steps : ℕ} {r : Steps} → Takes (steps_by v m (readers_in v m first)) steps r → Takes (steps_in v c m) steps r
  takes-in {first} is {steps} {r} = subst (λ (n : ℕ). Takes n steps r) (counts first is)

-- ---- Where it is read at most once

pub at_most : (f : ℕ → ℕ) (l : List ℕ) (n : ℕ) → length l ≤ 1 → ((c : ℕ) → f c ≤ n) → total (map f l) ≤ n
at_most f [] n h each = omega arith
at_most f (c ∷ []) n h each = omega (arith, each c)
at_most f (c ∷ d ∷ l) n h each = absurd (omega arith)

module _ {t l : List ℕ} (laid : Laid t l) (strings heap : List ℕ) (m : ℕ)
    {once : Bool} (is-once : once ≡ ((view_in t l strings heap).taker || is_marked l columns.method_list)) (yes : once ≡ true) (steps : ℕ) where
  abbrev w : View
  w = view_in t l strings heap

  by_all : Ascends (cell t l columns.method_list) (rows_at l columns.method_list) → ((c : ℕ) → read_steps w m c ≤ steps) → method_steps w m ≤ steps
  unfolding method_steps
  by_all up each = at_most (read_steps w m) (readers_from w m 0) steps (few-readers laid strings heap up m) each

  pub by_one : ((c : ℕ) → read_steps w m c ≤ steps) → (c : ℕ) → steps_in w c m ≤ steps
  by_one each c = by_mode w.taker refl
    where
      by_mode : (b : Bool) → w.taker ≡ b → steps_in w c m ≤ steps
      by_mode true e = omega (arith, taker-steps w c m e, each c)
      by_mode false e =
          let up = marked-ascends laid columns.method_list (omega arith) (rw e at is-once) yes in
          omega (arith, any-steps w c m e, by_all up each)

  module _ (h : m < rows_at l columns.method_signature) {p : Part} {i : ℕ} (told : i ≡ cell t l columns.method_signature m) (looked : p ≡ blob_at heap i) where
    pub blobless-fits : {why : Reason} → p ≡ Err why → (c : ℕ) → steps_in w c m ≤ steps
    blobless-fits e = by_one (λ c. omega (arith, steps_of w m c (unread-blob laid strings heap m c h told looked e)))

    pub surely-fits : {start len : ℕ} → p ≡ Ok (record { start = start; len = len }) → {sig : List ℕ} → sig ≡ part heap start len → Suffices sig steps
        → (c : ℕ) → steps_in w c m ≤ steps
    surely-fits {start} {len} e is suffices =
        let whole = subst (λ (s : List ℕ). Suffices s steps) is suffices in
        by_one (λ c.
        omega (arith, steps_of w m c (read-part laid strings heap m c h told looked e), whole.method (env w (class_generics w c) (method_generics w m))))
