-- How passing over the parts of a form comes to passing over the form, and over a type by its tag. Assumes nothing.
use mathlib.Core.Path.{◌≡◌, refl, sym, ap, subst, ◌∙◌}
use mathlib.Core.Bool.{true, false}
use mathlib.Core.List.{List, [], ◌++◌}
use mathlib.Core.Option.{Option, none, some}
use mathlib.Core.Logic.{◌⊎◌, ⊎_elim}
use Prim.Native.Nat.{ℕ, zero, suc, ◌+◌, ◌-◌, ◌/◌, ◌%◌, ◌≤◌, ◌<◌}
use native.Mathlib.Decide.{dec_lt}
use native.Mathlib.Nat.{zero-add}
use native.Mathlib.Omega.{arith}
use borrow.Author.Tests.{ne_eqb, lt-ltb, le-ltb}
use lib.ListN.{length, get_or}
use Rattle.numbers.specs.Reading.{Reader, some_at, none_at, after, give, ◌>>=◌}
use Rattle.numbers.specs.Compressed.{uint}
use Rattle.numbers.proofs.Compressed.{uint-onward}
use Rattle.buffers.specs.Texts.{Text, q}
use Rattle.heaps.specs.Lookups.{is_there}
use Rattle.record.specs.Names.{name_at}
use Rattle.record.specs.Readings.{known, attempt}
use Rattle.record.specs.Types.{Env, look, names, simple, type_full_name, method_start, shown, parameters, around, class_type, generic, fn_ptr, shape, array, modified, form, type}
use Rattle.record.proofs.Unfold.{type-is}
use Rattle.record.proofs.Onward.{method_start-onward, type-onward}
use Rattle.rows.specs.Layout.{view_in}
use Rattle.sig_leaves.specs.Leaves.{Owner, generics_of}
use Rattle.signatures.specs.Environment.{env_in}
use Rattle.signatures.specs.Parts.{owner_by}
use Rattle.signatures.proofs.Forms.{Alone, alone, form-is, one_of_two, There, byte-read}
use Rattle.std.specs.Prelude.{Some, None}
use Rattle.passing.specs.Passing.{Passage, Passes, over, failed, spent, Simple}
use Rattle.passing.specs.declared.Passed.TheVariants.{Over, Failed}
use Rattle.passing.proofs.Laws.{Went, Stopped, When, passes-failed, after-passes, still-passes, then-over, then-failed, then_spent, given, made, there, missing}

-- ---- The forms, by a reading p of the types in them

-- What follows the first type of 0x14, of 0x1B, and a parameter.
abbrev shaped : Text → Reader Text
shaped t = shape >>= (λ d. give (t ++ d))

abbrev typed : Reader Text → ℕ → Text → Reader Text
typed p n t = parameters n 0 p >>= (λ ts. give (q "FnPtr<" ++ t ++ q "(" ++ ts ++ q ")>"))

abbrev more : Reader Text → ℕ → ℕ → Option Text → Reader Text
more p n i t = parameters n (i + 1) p >>= (λ ts. give (shown i t ++ ts))

module _ (p : Reader Text) (s : List ℕ) (pos : ℕ) {steps : ℕ} where
  -- 0x0F, 0x10, 0x1D
  around-passes : (u v : Text) {r : Passage} → Passes (p s pos) steps r → Passes (around u v p s pos) steps r
  unfolding around
  around-passes u v h = made p (λ t. u ++ t ++ v) s pos h

  -- 0x1F, 0x20
  modified-passes : {n next : ℕ} → some_at n next ≡ uint s pos → {r : Passage} → Passes (p s next) steps r → Passes (modified p s pos) steps r
  unfolding modified
  modified-passes {next = next} e h = rw (← e) (still-passes (p s next) steps h)

  modified-torn : {next : ℕ} → none_at next ≡ uint s pos → Passes (modified p s pos) steps (Some (Failed next steps))
  unfolding modified
  modified-torn e = rw (← e) (failed refl refl (zero-add steps))

  -- 0x14
  pub array-passes : {next left : ℕ} → Went (p s pos) steps next left → {r : Passage} → Passes (shape s next) left r → Passes (array p s pos) steps r
  unfolding array
  array-passes {next} w h = then-over p shaped s pos w (made shape (λ d. w.value ++ d) s next h)

  pub array-failed : {next left : ℕ} → Stopped (p s pos) steps next left → Passes (array p s pos) steps (Some (Failed next left))
  unfolding array
  array-failed w = then-failed p shaped s pos w

  pub array_spent : steps < (p s pos).steps → Passes (array p s pos) steps None
  unfolding array
  array_spent h = then_spent p shaped s pos h

-- 0x1B: what stands before the types, the return type, the parameters.
module _ (p : Reader Text) (s : List ℕ) (pos : ℕ) {steps : ℕ} where
  pub pointer-uncounted : {m : ℕ} → none_at m ≡ method_start s pos → Passes (fn_ptr p s pos) steps (Some (Failed m steps))
  unfolding fn_ptr
  pointer-uncounted e = rw (← e) (failed refl refl (zero-add steps))

  module _ {n first : ℕ} (e : some_at n first ≡ method_start s pos) where
    started : {r : Passage} → Passes ((p >>= typed p n) s first) steps r → Passes (fn_ptr p s pos) steps r
    unfolding fn_ptr
    started h = rw (← e) (still-passes ((p >>= typed p n) s first) steps h)

    pub pointer-passes : {next left : ℕ} → Went (p s first) steps next left → {r : Passage} → Passes (parameters n 0 p s next) left r
        → Passes (fn_ptr p s pos) steps r
    pointer-passes {next} w h =
        started (then-over p (typed p n) s first w (made (parameters n 0 p) (λ ts. q "FnPtr<" ++ w.value ++ q "(" ++ ts ++ q ")>") s next h))

    pub pointer-failed : {next left : ℕ} → Stopped (p s first) steps next left → Passes (fn_ptr p s pos) steps (Some (Failed next left))
    pointer-failed w = started (then-failed p (typed p n) s first w)

    pub pointer-spent : steps < (p s first).steps → Passes (fn_ptr p s pos) steps None
    pointer-spent h = started (then_spent p (typed p n) s first h)

-- The parameters: one that fails does not end the reading.
pub no-parameters : (p : Reader Text) (s : List ℕ) (pos i : ℕ) {n steps : ℕ} → n ≡ 0 → Passes (parameters n i p s pos) steps (Some (Over pos steps))
unfolding parameters
no-parameters p s pos i {steps = steps} e = rw e (given [] s pos steps)

module _ (p : Reader Text) (s : List ℕ) (pos i n : ℕ) {k : ℕ} (e : k ≡ suc n) {steps : ℕ} where
  next-parameter : {next left : ℕ} → (p s pos).next ≡ next → (p s pos).steps + left ≡ steps → {r : Passage} → Passes (parameters n (i + 1) p s next) left r
      → Passes (parameters k i p s pos) steps r
  unfolding parameters
  next-parameter {next} on paid h =
      rw e (then-over (attempt p) (more p n i) s pos (record { value = (p s pos).got; got = refl; on = on; paid = paid })
      (made (parameters n (i + 1) p) (λ ts. shown i (p s pos).got ++ ts) s next h))

  pub parameters-over : {next left : ℕ} → Went (p s pos) steps next left → {r : Passage} → Passes (parameters n (i + 1) p s next) left r
      → Passes (parameters k i p s pos) steps r
  parameters-over w h = next-parameter w.on w.paid h

  pub parameters-failed : {next left : ℕ} → Stopped (p s pos) steps next left → {r : Passage} → Passes (parameters n (i + 1) p s next) left r
      → Passes (parameters k i p s pos) steps r
  parameters-failed w h = next-parameter w.on w.paid h

  pub parameters-spent : steps < (p s pos).steps → Passes (parameters k i p s pos) steps None
  unfolding parameters
  parameters-spent h = rw e (then_spent (attempt p) (more p n i) s pos h)

-- 0x11, 0x12: the name behind an index. Nothing of the signature is read for the name.
module _ (e : Env) (p : Reader Text) (s : List ℕ) (pos : ℕ) {steps : ℕ} where
  pub class-unread : {m : ℕ} → none_at m ≡ uint s pos → Passes (class_type e p s pos) steps (Some (Failed m steps))
  unfolding class_type
  class-unread x = rw (← x) (failed refl refl (zero-add steps))

  module _ {i m : ℕ} (x : some_at i m ≡ uint s pos) where
    pub class-over : {next left : ℕ} → Went (type_full_name e p i) steps next left → Passes (class_type e p s pos) steps (Some (Over m left))
    unfolding class_type
    class-over w = rw (← x) (still-passes _ steps (over w.value w.got refl w.paid))

    pub class-failed : {next left : ℕ} → Stopped (type_full_name e p i) steps next left → Passes (class_type e p s pos) steps (Some (Failed m left))
    unfolding class_type
    class-failed w = rw (← x) (still-passes _ steps (failed w.got refl w.paid))

    pub class-spent : steps < (type_full_name e p i).steps → Passes (class_type e p s pos) steps None
    unfolding class_type
    class-spent h = rw (← x) (still-passes _ steps (spent h))

-- The name behind an index, by its two low bits.
module _ (e : Env) (p : Reader Text) (i : ℕ) {steps : ℕ} where
  module _ {r : Passage} where
    pub name-def : i % 4 ≡ 0 → Passes (known (e.type_defs (i / 4)) [] 0) steps r → Passes (type_full_name e p i) steps r
    unfolding type_full_name look
    name-def m h = rw m h

    pub name-ref : i % 4 ≡ 1 → Passes (known (e.type_refs (i / 4)) [] 0) steps r → Passes (type_full_name e p i) steps r
    unfolding type_full_name look
    name-ref m h = rw m h

    pub name-spec : i % 4 ≡ 2 → {b spec : List ℕ} → e.type_specs (i / 4) ≡ some b → spec ≡ b → Passes (p spec 0) steps r → Passes (type_full_name e p i) steps r
    unfolding type_full_name look
    name-spec m is same h = rw (m, is, ← same) h

  pub name-blobless : i % 4 ≡ 2 → e.type_specs (i / 4) ≡ none → Passes (type_full_name e p i) steps (Some (Failed 0 steps))
  unfolding type_full_name look
  name-blobless m is = rw (m, is) (failed refl refl (zero-add steps))

  pub name-none : (i % 4 ≡ 0 → ⊥) → (i % 4 ≡ 1 → ⊥) → (i % 4 ≡ 2 → ⊥) → Passes (type_full_name e p i) steps (Some (Failed 0 steps))
  unfolding type_full_name look
  name-none a b c = rw (ne_eqb (i % 4) 0 a, ne_eqb (i % 4) 1 b, ne_eqb (i % 4) 2 c) (failed refl refl (zero-add steps))

-- 0x13, 0x1E: the generic parameter at a place.
module _ (name : ℕ → Option Text) (s : List ℕ) (pos : ℕ) {steps : ℕ} where
  pub generic-unread : {m : ℕ} → none_at m ≡ uint s pos → Passes (generic name s pos) steps (Some (Failed m steps))
  unfolding generic
  generic-unread x = rw (← x) (failed refl refl (zero-add steps))

  pub generic-passes : {i j m : ℕ} → some_at i m ≡ uint s pos → j ≡ i → {r : Passage} → Passes (known (name j) [] m) steps r → Passes (generic name s pos) steps r
  unfolding generic
  generic-passes {i} {j} {m} x same h = rw (← x, ← same) (still-passes (known (name j) [] m) steps h)

-- ---- A type: the byte takes a step
module _ (e : Env) (l : ℕ) (s : List ℕ) (pos steps : ℕ) where
  pub type-past : length s ≤ pos → Passes (type e l s pos) steps (Some (Failed pos steps))
  unfolding type
  type-past h = by_level l
    where
      by_level : (k : ℕ) → Passes (type e k s pos) steps (Some (Failed pos steps))
      by_level zero = rw (le-ltb pos (length s) h) (failed refl refl (zero-add steps))
      by_level (suc k) = rw (type-is e k s pos, le-ltb pos (length s) h) (failed refl refl (zero-add steps))

  pub type-spent : pos < length s → steps ≡ 0 → Passes (type e l s pos) steps None
  unfolding type
  type-spent h z = by_level l
    where
      by_level : (k : ℕ) → Passes (type e k s pos) steps None
      by_level zero = rw (lt-ltb pos (length s) h) (spent (omega (arith, z)))
      by_level (suc k) = rw (form-is e k s pos (get_or s pos 0) h refl) (spent (omega (arith, z)))

  pub type-deep : pos < length s → (steps ≡ 0 → ⊥) → l ≡ 0 → Passes (type e l s pos) steps (Some (Failed (pos + 1) (steps - 1)))
  unfolding type
  type-deep h n z = let sum : 1 + (steps - 1) ≡ steps = omega (arith, n) in rw (z, lt-ltb pos (length s) h) (failed refl refl sum)

-- The tags whose types are their tag alone.
alone-simple : (tag : ℕ) → is_there (simple tag) ≡ true → Alone tag
unfolding simple names look
alone-simple tag h =
    record {
      no-0F = other 0x0F refl;
      no-10 = other 0x10 refl;
      no-11 = other 0x11 refl;
      no-12 = other 0x12 refl;
      no-13 = other 0x13 refl;
      no-14 = other 0x14 refl;
      no-15 = other 0x15 refl;
      no-1B = other 0x1B refl;
      no-1D = other 0x1D refl;
      no-1E = other 0x1E refl;
      no-1F = other 0x1F refl;
      no-20 = other 0x20 refl;
    }
  where
    other : (k : ℕ) → is_there (simple k) ≡ false → tag ≡ k → ⊥
    other k n x = subst When (sym (subst (λ (m : ℕ). is_there (simple m) ≡ true) x h) ∙ n) tt

module _ (e : Env) {l : ℕ} (s : List ℕ) {pos steps : ℕ} (inside : pos < length s) (level : l ≡ 0 → ⊥) (step : steps ≡ 0 → ⊥) where
  abbrev tag : ℕ
  tag = get_or s pos 0

  abbrev Behind : Passage → Type 0
  Behind r = Passes (form e (type e (l - 1)) (type e l) tag s (pos + 1)) (steps - 1) r

  abbrev Whole : Passage → Type 0
  Whole r = Passes (type e l s pos) steps r

  type-form : {r : Passage} → Behind r → Whole r
  type-form x =
      let one : l ≡ suc (l - 1) = omega (arith, level) in
      let is : type e l s pos ≡ after 1 (form e (type e (l - 1)) (type e l) tag s (pos + 1)) =
      ap (λ (j : ℕ). type e j s pos) one ∙ form-is e (l - 1) s pos tag inside refl
      ∙ ap (λ (j : ℕ). after 1 (form e (type e (l - 1)) (type e j) tag s (pos + 1))) (sym one) in
      rw is (after-passes 1 (form e (type e (l - 1)) (type e l) tag s (pos + 1)) (steps - 1) steps (omega (arith, step)) x)

  alone-is : Alone tag → form e (type e (l - 1)) (type e l) tag s (pos + 1) ≡ known (simple tag) [] (pos + 1)
  alone-is x = alone e (type e (l - 1)) (type e l) tag x s (pos + 1)

  pub type-simple : is_there (simple tag) ≡ true → Whole (Some (Over (pos + 1) (steps - 1)))
  type-simple h = type-form (rw (alone-is (alone-simple tag h)) (there (simple tag) (pos + 1) (steps - 1) (sym h)))

  pub type-unknown : Alone tag → is_there (simple tag) ≡ false → Whole (Some (Failed (pos + 1) (steps - 1)))
  type-unknown x h = type-form (rw (alone-is x) (missing (simple tag) (pos + 1) (steps - 1) (sym h)))

  pub type-torn : 0x1F ≤ tag → tag < 0x21 → {next : ℕ} → none_at next ≡ uint s (pos + 1) → Whole (Some (Failed next (steps - 1)))
  unfolding form look
  type-torn lo hi x =
      type-form (⊎_elim (λ t. rw t (modified-torn (type e l) s (pos + 1) x)) (λ t. rw t (modified-torn (type e l) s (pos + 1) x)) (one_of_two 0x1F tag lo hi))

  module _ {r : Passage} where
    pub type-deeper : 0x0F ≤ tag → tag < 0x11 → Passes (type e (l - 1) s (pos + 1)) (steps - 1) r → Whole r
    unfolding form look
    type-deeper lo hi h =
        type-form (⊎_elim (λ t. rw t (around-passes (type e (l - 1)) s (pos + 1) (q "Ptr<") (q ">") h))
        (λ t. rw t (around-passes (type e (l - 1)) s (pos + 1) (q "ref ") [] h)) (one_of_two 0x0F tag lo hi))

    pub type-vector : tag ≡ 0x1D → Passes (type e l s (pos + 1)) (steps - 1) r → Whole r
    unfolding form look
    type-vector t h = type-form (rw t (around-passes (type e l) s (pos + 1) [] (q "[]") h))

    pub type-modified : 0x1F ≤ tag → tag < 0x21 → {n next : ℕ} → some_at n next ≡ uint s (pos + 1) → Passes (type e l s next) (steps - 1) r → Whole r
    unfolding form look
    type-modified lo hi x h =
        type-form (⊎_elim (λ t. rw t (modified-passes (type e l) s (pos + 1) x h)) (λ t. rw t (modified-passes (type e l) s (pos + 1) x h)) (one_of_two 0x1F tag lo hi))

    pub type-class : 0x11 ≤ tag → tag < 0x13 → Passes (class_type e (type e (l - 1)) s (pos + 1)) (steps - 1) r → Whole r
    unfolding form look
    type-class lo hi h = type-form (⊎_elim (λ t. rw t h) (λ t. rw t h) (one_of_two 0x11 tag lo hi))

    pub type-array : tag ≡ 0x14 → Passes (array (type e (l - 1)) s (pos + 1)) (steps - 1) r → Whole r
    unfolding form look
    type-array t h = type-form (rw t h)

    pub type-pointer : tag ≡ 0x1B → Passes (fn_ptr (type e (l - 1)) s (pos + 1)) (steps - 1) r → Whole r
    unfolding form look
    type-pointer t h = type-form (rw t h)

module _ (t y strings blob : List ℕ) (class method : Owner) {l : ℕ} (s : List ℕ) {pos steps : ℕ} (inside : pos < length s) (level : l ≡ 0 → ⊥) (step : steps ≡ 0 → ⊥) where
  pub type-var : (get_or s pos 0 ≡ 0x13) ⊎ (get_or s pos 0 ≡ 0x1E) → {r : Passage}
      → Passes (generic (name_at (generics_of (view_in t y strings blob) (owner_by (get_or s pos 0) class method))) s (pos + 1)) (steps - 1) r
      → Passes (type (env_in t y strings blob class method) l s pos) steps r
  unfolding form look env_in owner_by
  type-var k h = type-form (env_in t y strings blob class method) s inside level step (⊎_elim (λ x. rw x (rw x at h)) (λ x. rw x (rw x at h)) k)

pub simple-passes : (e : Env) {s : List ℕ} {pos left steps : ℕ} → Simple s pos left steps → Passes (type e left s pos) steps (Some (Over (pos + 1) (steps - 1)))
simple-passes e {s} x =
    type-simple e s x.inside (λ z. absurd (omega (arith, x.level, z))) (λ z. absurd (omega (arith, x.step, z))) x.alone

-- ---- Readings go on
module _ (s : List ℕ) (pos : ℕ) where
  pub uint-ahead : {k m : ℕ} → some_at k m ≡ uint s pos → pos ≤ m
  uint-ahead e = rw (← e) at (uint-onward.ahead s pos).from

  pub start-ahead : {k m : ℕ} → some_at k m ≡ method_start s pos → pos ≤ m
  start-ahead e = rw (← e) at (method_start-onward.ahead s pos).from

  module _ (e : Env) (l : ℕ) {steps n left : ℕ} where
    pub over-ahead : Went (type e l s pos) steps n left → pos ≤ n
    over-ahead t = rw t.on at ((type-onward e l).ahead s pos).from

    pub failed-ahead : Stopped (type e l s pos) steps n left → pos ≤ n
    failed-ahead t = rw t.on at ((type-onward e l).ahead s pos).from

    -- A type that is there has at least one byte.
    pub over-beyond : Went (type e l s pos) steps n left → pos < n
    over-beyond t = go (dec_lt pos (length s))
      where
        go : Dec (pos < length s) → pos < n
        go (yes h) = omega (arith, byte-read e l s pos h, t.on)
        go (no g) =
            let u = passes-failed (type-past e l s pos steps (omega (arith, g))) in
            absurd (subst There u.got (subst There (sym t.got) tt))
