-- A stack of frames says the same as the definition's recursion. Assumes nothing.
use mathlib.Core.Path.{◌≡◌, refl, sym, ◌∙◌, ap}
use mathlib.Core.Logic.{⊎_elim}
use mathlib.Core.List.{List, [], ◌∷◌, ◌++◌, append_assoc, append-nil}
use mathlib.Core.Option.{Option, none, some}
use Prim.Native.Nat.{ℕ, zero, suc, ◌+◌, ◌-◌, ◌<◌, ◌≤◌}
use native.Mathlib.Nat.{add-zero, add_assoc, zero-add}
use native.Mathlib.Omega.{arith}
use borrow.Author.Tests.{ne_eqb, lt-ltb, le-ltb}
use lib.ListN.{length, get_or}
use Rattle.numbers.specs.Reading.{Res, Reader, some_at, none_at, give, after, chain, ◌>>=◌}
use Rattle.numbers.specs.Compressed.{uint}
use Rattle.buffers.specs.Texts.{Text, q}
use Rattle.record.specs.Dims.{sep}
use Rattle.record.specs.Types.{arguments, instance, around, modified}
use Rattle.shapes.specs.Runs.{brackets}
use Rattle.sig_leaves.specs.Leaves.{argument_count}
use Rattle.sig_leaves.proofs.Numbers.{instance_of, instance-is}
use Rattle.frames.specs.Stack.{joined, behind_text, before, argument_list, more_arguments, first_type, most_arguments, pairs, ends, rest, whole, Modifier, Level, Begins, Finishes, FramesRead}

-- ---- Readings one after the other

-- What the second reading adds to a text.
abbrev add : Text → Res Text → Res Text
add t r = chain r.got r.next r.steps (λ u to. some_at (t ++ u) to)

add_is : (t : Text) (o : Option Text) (n m : ℕ) → add t (record { got = o; next = n; steps = m }) ≡ before t (record { got = o; next = n; steps = m })
add_is t none n m = refl
add_is t (some u) n m = ap (λ (x : ℕ). record { got = some (t ++ u); next = n; steps = x }) (add-zero m)

pub before-both : (t u : Text) (o : Option Text) (n m : ℕ) → before t (before u (record { got = o; next = n; steps = m })) ≡ before (t ++ u) (record { got = o; next = n; steps = m })
before-both t u none n m = refl
before-both t u (some v) n m = ap (λ (x : Text). record { got = some x; next = n; steps = m }) (sym (append_assoc t u v))

-- The second of two readings, behind what the first gave: o, n, m.
abbrev then : Reader Text → List ℕ → Option Text → ℕ → ℕ → Res Text
then r s o n m = chain o n m (λ t to. before t (r s to))

then-alike : (r : Reader Text) (s : List ℕ) (o : Option Text) (n m : ℕ) → chain o n m (λ t to. add t (r s to)) ≡ then r s o n m
then-alike r s none n m = refl
then-alike r s (some t) n m = ap (after m) (add_is t (r s n).got (r s n).next (r s n).steps)

module _ (p r : Reader Text) (s : List ℕ) (at : ℕ) where
  pub joined_is : joined p r s at ≡ then r s (p s at).got (p s at).next (p s at).steps
  unfolding joined
  joined_is = then-alike r s (p s at).got (p s at).next (p s at).steps

-- A result with type bytes before it, and a text before it.
then-after : (r : Reader Text) (s : List ℕ) (k : ℕ) (o : Option Text) (n m : ℕ) → then r s o n (k + m) ≡ after k (then r s o n m)
then-after r s k none n m = refl
then-after r s k (some t) n m =
    ap (λ (x : ℕ). record { got = (before t (r s n)).got; next = (r s n).next; steps = x }) (add_assoc k m (r s n).steps)

then-before : (r : Reader Text) (s : List ℕ) (u : Text) (o : Option Text) (n m : ℕ) → then r s (behind_text u o) n m ≡ before u (then r s o n m)
then-before r s u none n m = refl
then-before r s u (some t) n m = ap (after m) (sym (before-both u t (r s n).got (r s n).next (r s n).steps))

module _ (p p' r : Reader Text) (s : List ℕ) (at to : ℕ) where
  pub joined-after : (m : ℕ) → p s at ≡ after m (p' s to) → joined p r s at ≡ after m (joined p' r s to)
  joined-after m e =
      joined_is p r s at ∙ ap (λ (x : Res Text). then r s x.got x.next x.steps) e
      ∙ then-after r s m (p' s to).got (p' s to).next (p' s to).steps ∙ ap (after m) (sym (joined_is p' r s to))

  pub joined-before : (u : Text) → p s at ≡ before u (p' s to) → joined p r s at ≡ before u (joined p' r s to)
  joined-before u e =
      joined_is p r s at ∙ ap (λ (x : Res Text). then r s x.got x.next x.steps) e
      ∙ then-before r s u (p' s to).got (p' s to).next (p' s to).steps ∙ ap (before u) (sym (joined_is p' r s to))

module _ (p r : Reader Text) (s : List ℕ) (at to : ℕ) where
  pub joined-some : (u : Text) → p s at ≡ some_at u to → joined p r s at ≡ before u (r s to)
  joined-some u e =
      joined_is p r s at ∙ ap (λ (x : Res Text). then r s x.got x.next x.steps) e
      ∙ ap (λ (x : ℕ). record { got = (before u (r s to)).got; next = (r s to).next; steps = x }) (zero-add (r s to).steps)

  pub joined-none : (m : ℕ) → p s at ≡ after m (none_at to) → joined p r s at ≡ after m (none_at to)
  joined-none m e = joined_is p r s at ∙ ap (λ (x : Res Text). then r s x.got x.next x.steps) e

-- Three readings.
then-assoc : (r x : Reader Text) (s : List ℕ) (o : Option Text) (n m : ℕ)
    → (let y = then r s o n m in then x s y.got y.next y.steps) ≡ then (joined r x) s o n m
then-assoc r x s none n m = refl
then-assoc r x s (some t) n m =
    let y = r s n in
    then-after x s m (behind_text t y.got) y.next y.steps
    ∙ ap (after m) (then-before x s t y.got y.next y.steps ∙ ap (before t) (sym (joined_is r x s n)))

pub joined-assoc : (p r x : Reader Text) (s : List ℕ) (at : ℕ) → joined (joined p r) x s at ≡ joined p (joined r x) s at
joined-assoc p r x s at =
    joined_is (joined p r) x s at
    ∙ ap (λ (y : Res Text). then x s y.got y.next y.steps) (joined_is p r s at)
    ∙ then-assoc r x s (p s at).got (p s at).next (p s at).steps
    ∙ sym (joined_is p (joined r x) s at)

-- No reading behind another.
then-nothing : (s : List ℕ) (o : Option Text) (n m : ℕ) → then (give []) s o n m ≡ record { got = o; next = n; steps = m }
then-nothing s none n m = refl
then-nothing s (some t) n m =
    ap (λ (x : ℕ). record { got = some (t ++ []); next = n; steps = x }) (add-zero m)
    ∙ ap (λ (x : Text). record { got = some x; next = n; steps = m }) (append-nil t)

whole-empty : (p : Reader Text) (s : List ℕ) (at : ℕ) → whole p [] s at ≡ p s at
unfolding rest
whole-empty p s at = joined_is p (give []) s at ∙ then-nothing s (p s at).got (p s at).next (p s at).steps

-- The second reading, another that says the same.
pub joined-alike : (p r x : Reader Text) (s : List ℕ) (at : ℕ) → ((to : ℕ) → r s to ≡ x s to) → joined p r s at ≡ joined p x s at
joined-alike p r x s at e =
    joined_is p r s at ∙ go (p s at).got (p s at).next (p s at).steps ∙ sym (joined_is p x s at)
  where
    go : (o : Option Text) (n m : ℕ) → then r s o n m ≡ then x s o n m
    go none n m = refl
    go (some t) n m = ap (λ (y : Res Text). after m (before t y)) (e n)

-- ---- The four tags

-- A generic type is its first type, and behind it the list of its arguments.
module _ (type : Reader Text) (s : List ℕ) where
  texts : (t : Text) (o : Option Text) (n m : ℕ)
      → chain o n m (λ ts to. give (t ++ q "<" ++ ts ++ q ">") s to) ≡ before t (chain o n m (λ ts to. give (q "<" ++ ts ++ q ">") s to))
  texts t none n m = refl
  texts t (some ts) n m =
      ap (λ (x : Text). record { got = some x; next = n; steps = m + 0 })
      (ap (λ (x : Text). x ++ q ">") (append_assoc t (q "<") ts) ∙ append_assoc t (q "<" ++ ts) (q ">"))

  counts : (t : Text) (o : Option ℕ) (n m : ℕ)
      → chain o n m (λ k to. instance_of type t k s to)
      ≡ before t (chain o n m (λ k to. (arguments k 0 type >>= (λ ts. give (q "<" ++ ts ++ q ">"))) s to))
  counts t none n m = refl
  counts t (some k) n m =
      let r = arguments k 0 type s n in
      ap (after m) (texts t r.got r.next r.steps)

  firsts : (o : Option Text) (n m : ℕ) → chain o n m (λ t to. (argument_count >>= instance_of type t) s to) ≡ then (argument_list type) s o n m
  unfolding argument_list
  firsts none n m = refl
  firsts (some t) n m = let c = argument_count s n in ap (after m) (counts t c.got c.next c.steps)

  instance-joined : (at : ℕ) → instance type s at ≡ joined type (argument_list type) s at
  instance-joined at =
      instance-is type s at ∙ firsts (type s at).got (type s at).next (type s at).steps ∙ sym (joined_is type (argument_list type) s at)

  pair-joined : (o : Option Text) (n m : ℕ) → chain o n m (λ t to. give ([] ++ t ++ q "[]") s to) ≡ then (give (q "[]")) s o n m
  pair-joined none n m = refl
  pair-joined (some t) n m = refl

  vector-joined : (at : ℕ) → around [] (q "[]") type s at ≡ joined type (give (q "[]")) s at
  unfolding around
  vector-joined at = pair-joined (type s at).got (type s at).next (type s at).steps ∙ sym (joined_is type (give (q "[]")) s at)

  modified-is : {v next : ℕ} (at : ℕ) → uint s at ≡ some_at v next → modified type s at ≡ type s next
  unfolding modified
  modified-is {next = next} at e =
      rw e (ap (λ (x : ℕ). record { got = (type s next).got; next = (type s next).next; steps = x }) (zero-add (type s next).steps))

  modified-torn : {next : ℕ} (at : ℕ) → uint s at ≡ none_at next → modified type s at ≡ none_at next
  unfolding modified
  modified-torn at e = rw e refl

-- A type behind a tag, and what follows it.
module _ (type : Reader Text) (h : Level type) (vs : List ℕ) (s : List ℕ) (at : ℕ) (lt : at < length s) where
  generic-whole : get_or s at 0 ≡ 0x15 → whole type vs s at ≡ after 1 (whole type (0 ∷ vs) s (at + 1))
  unfolding rest ends
  generic-whole e =
      joined-after type (joined type (argument_list type)) (rest type vs) s at (at + 1) 1 (h.generic s at lt e ∙ ap (after 1) (instance-joined type s (at + 1)))
      ∙ ap (after 1) (joined-assoc type (argument_list type) (rest type vs) s (at + 1))

  vector-whole : get_or s at 0 ≡ 0x1D → whole type vs s at ≡ after 1 (whole type (pairs 1 ∷ vs) s (at + 1))
  unfolding rest ends brackets
  vector-whole e =
      joined-after type (joined type (give (q "[]"))) (rest type vs) s at (at + 1) 1
      (h.same.vector s at lt e ∙ ap (after 1) (vector-joined type s (at + 1)))
      ∙ ap (after 1) (joined-assoc type (give (q "[]")) (rest type vs) s (at + 1))

-- A modifier is either of two tags.
module _ (type : Reader Text) (h : Level type) (vs s : List ℕ) (at : ℕ) (m : Modifier s at) where
  modifies : type s at ≡ after 1 (modified type s (at + 1))
  modifies = ⊎_elim (λ e. h.same.required s at m.inside e) (λ e. h.same.optional s at m.inside e) m.tag

  modifier-whole : {v next : ℕ} → uint s (at + 1) ≡ some_at v next → whole type vs s at ≡ after 1 (whole type vs s next)
  modifier-whole {next = next} u = joined-after type type (rest type vs) s at next 1 (modifies ∙ ap (after 1) (modified-is type s (at + 1) u))

  modifier-torn : {next : ℕ} → uint s (at + 1) ≡ none_at next → whole type vs s at ≡ after 1 (none_at next)
  modifier-torn {next = next} u = joined-none type (rest type vs) s at next 1 (modifies ∙ ap (after 1) (modified-torn type s (at + 1) u))

-- ---- Frames

module _ (type : Reader Text) where
  frame-brackets : (v : ℕ) → most_arguments < v → ends type v ≡ give (brackets (v - most_arguments))
  unfolding ends
  frame-brackets v h = rw (ne_eqb v 0 (λ e. absurd (omega (arith, e, h))), lt-ltb most_arguments v h) refl

  frame-arguments : (v : ℕ) → 0 < v → v ≤ most_arguments → ends type v ≡ more_arguments (v - 1) type
  unfolding ends
  frame-arguments v h l = rw (ne_eqb v 0 (λ e. absurd (omega (arith, e, h))), le-ltb most_arguments v l) refl

  module _ (s : List ℕ) where
    -- Arguments: the first of them, and the others.
    arguments-from : (i : ℕ) (t : Text) (n : ℕ) (o : Option Text) (p m : ℕ)
        → chain o p m (λ ts to. give (sep i (q ",") ++ t ++ ts) s to) ≡ before (sep i (q ",") ++ t) (record { got = o; next = p; steps = m })
    arguments-from i t n none p m = refl
    arguments-from i t n (some ts) p m = ap (λ (x : ℕ). record { got = some (sep i (q ",") ++ t ++ ts); next = p; steps = x }) (add-zero m)

    arguments-then : (n i : ℕ) (o : Option Text) (p m : ℕ)
        → chain o p m (λ t to. (arguments n (i + 1) type >>= (λ ts. give (sep i (q ",") ++ t ++ ts))) s to)
        ≡ before (sep i (q ",")) (then (arguments n (i + 1) type) s o p m)
    arguments-then n i none p m = refl
    arguments-then n i (some t) p m =
        let r = arguments n (i + 1) type s p in
        ap (after m) (arguments-from i t n r.got r.next r.steps ∙ sym (before-both (sep i (q ",")) t r.got r.next r.steps))

    arguments-joined : (n i at : ℕ) → arguments (suc n) i type s at ≡ before (sep i (q ",")) (joined type (arguments n (i + 1) type) s at)
    unfolding arguments
    arguments-joined n i at =
        arguments-then n i (type s at).got (type s at).next (type s at).steps
        ∙ ap (before (sep i (q ","))) (sym (joined_is type (arguments n (i + 1) type) s at))

    -- Behind the first, all separators are the same.
    sep-later : (i : ℕ) → sep (i + 1) (q ",") ≡ q ","
    unfolding sep
    sep-later i = rw (ne_eqb (i + 1) 0 (λ e. absurd (omega (arith, e)))) refl

    arguments-later : (n i j at : ℕ) → arguments n (i + 1) type s at ≡ arguments n (j + 1) type s at
    unfolding arguments
    arguments-later zero i j at = refl
    arguments-later (suc n) i j at =
        arguments-joined n (i + 1) at
        ∙ ap (λ (x : Text). before x (joined type (arguments n (i + 1 + 1) type) s at)) (sep-later i ∙ sym (sep-later j))
        ∙ ap (before (sep (j + 1) (q ","))) (joined-alike type (arguments n (i + 1 + 1) type) (arguments n (j + 1 + 1) type) s at (λ to. arguments-later n (i + 1) (j + 1) to))
        ∙ sym (arguments-joined n (j + 1) at)

    arguments-first : (n at : ℕ) → arguments (suc n) 0 type s at ≡ joined type (arguments n 1 type) s at
    unfolding sep
    arguments-first n at = arguments-joined n 0 at ∙ nothing-before (joined type (arguments n 1 type) s at).got _ _
      where
        nothing-before : (o : Option Text) (p m : ℕ) → before [] (record { got = o; next = p; steps = m }) ≡ record { got = o; next = p; steps = m }
        nothing-before none p m = refl
        nothing-before (some t) p m = refl

    arguments-next : (n at : ℕ) → arguments (suc n) 1 type s at ≡ before (q ",") (joined type (arguments n 1 type) s at)
    arguments-next n at =
        arguments-joined n 1 at
        ∙ ap (λ (x : Text). before x (joined type (arguments n 2 type) s at)) (sep-later 0)
        ∙ ap (before (q ",")) (joined-alike type (arguments n 2 type) (arguments n 1 type) s at (λ to. arguments-later n 1 0 to))

    angles : (o : Option Text) (p m : ℕ) → chain o p m (λ ts to. give (q "<" ++ ts ++ q ">") s to) ≡ before (q "<") (then (give (q ">")) s o p m)
    angles none p m = refl
    angles (some ts) p m = refl

    module _ (pos : ℕ) where
      -- 0x15: the first type has ended.
      first-uncounted : {p : ℕ} → none_at p ≡ argument_count s pos → ends type first_type s pos ≡ none_at p
      unfolding ends argument_list
      first-uncounted e = rw (← e) refl

      first-empty : {p : ℕ} → some_at 0 p ≡ argument_count s pos → ends type first_type s pos ≡ some_at (q "<>") p
      unfolding ends argument_list arguments
      first-empty e = rw (← e) refl

      counted : {k p : ℕ} → some_at k p ≡ argument_count s pos → ends type first_type s pos ≡ before (q "<") (joined (arguments k 0 type) (give (q ">")) s p)
      unfolding ends argument_list
      counted {k} {p} e =
          let r = arguments k 0 type s p in
          rw (← e) (after-zero (chain r.got r.next r.steps (λ ts to. give (q "<" ++ ts ++ q ">") s to))
          ∙ angles r.got r.next r.steps ∙ ap (before (q "<")) (sym (joined_is (arguments k 0 type) (give (q ">")) s p)))
        where
          after-zero : (x : Res Text) → after 0 x ≡ x
          after-zero x = ap (λ (m : ℕ). record { got = x.got; next = x.next; steps = m }) (zero-add x.steps)

      first_counted : {k p : ℕ} → 0 < k → k ≤ most_arguments → some_at k p ≡ argument_count s pos → ends type first_type s pos ≡ before (q "<") (joined type (ends type k) s p)
      unfolding more_arguments
      first_counted {k} {p} z l e =
          let one : k ≡ suc (k - 1) = omega (arith, z) in
          counted e
          ∙ ap (λ (j : ℕ). before (q "<") (joined (arguments j 0 type) (give (q ">")) s p)) one
          ∙ ap (before (q "<")) (joined-first (k - 1) ∙ joined-assoc type (arguments (k - 1) 1 type) (give (q ">")) s p)
          ∙ ap (λ (f : Reader Text). before (q "<") (joined type f s p)) (sym (frame-arguments k z l))
        where
          joined-first : (n : ℕ) → joined (arguments (suc n) 0 type) (give (q ">")) s p ≡ joined (joined type (arguments n 1 type)) (give (q ">")) s p
          joined-first n =
              joined_is (arguments (suc n) 0 type) (give (q ">")) s p
              ∙ ap (λ (x : Res Text). then (give (q ">")) s x.got x.next x.steps) (arguments-first n p)
              ∙ sym (joined_is (joined type (arguments n 1 type)) (give (q ">")) s p)

      -- An argument has ended.
      last-argument : ends type 1 s pos ≡ some_at (q ">") pos
      unfolding ends more_arguments arguments joined
      last-argument = refl

      an-argument : (v : ℕ) → 1 < v → v ≤ most_arguments → ends type v s pos ≡ before (q ",") (joined type (ends type (v - 1)) s pos)
      unfolding more_arguments
      an-argument v z l =
          let one : v - 1 ≡ suc (v - 1 - 1) = omega (arith, z) in
          ap (λ (f : Reader Text). f s pos) (frame-arguments v (omega (arith, z)) l)
          ∙ ap (λ (j : ℕ). joined (arguments j 1 type) (give (q ">")) s pos) one
          ∙ joined-before (arguments (suc (v - 1 - 1)) 1 type) (joined type (arguments (v - 1 - 1) 1 type)) (give (q ">")) s pos pos (q ",") (arguments-next (v - 1 - 1) pos)
          ∙ ap (before (q ",")) (joined-assoc type (arguments (v - 1 - 1) 1 type) (give (q ">")) s pos)
          ∙ ap (λ (f : Reader Text). before (q ",") (joined type f s pos)) (sym (frame-arguments (v - 1) (omega (arith, z)) (omega (arith, l))))

      all-brackets : (v : ℕ) → most_arguments < v → ends type v s pos ≡ some_at (brackets (v - most_arguments)) pos
      all-brackets v h = ap (λ (f : Reader Text). f s pos) (frame-brackets v h)

  -- One pair of brackets more.
  pair-more : (vs s : List ℕ) (at v : ℕ) → most_arguments < v → rest type (pairs 1 ∷ v ∷ vs) s at ≡ rest type ((v + 1) ∷ vs) s at
  unfolding rest brackets
  pair-more vs s at v h =
      let r = rest type vs s at in
      let one : v + 1 - most_arguments ≡ suc (v - most_arguments) = omega (arith, h) in
      joined-some (ends type (pairs 1)) (joined (ends type v) (rest type vs)) s at at (q "[]") (all-brackets s at (pairs 1) (omega arith))
      ∙ ap (before (q "[]")) (joined-some (ends type v) (rest type vs) s at at (brackets (v - most_arguments)) (all-brackets s at v h))
      ∙ before-both (q "[]") (brackets (v - most_arguments)) r.got r.next r.steps
      ∙ sym (joined-some (ends type (v + 1)) (rest type vs) s at at (q "[]" ++ brackets (v - most_arguments))
      (all-brackets s at (v + 1) (omega (arith, h)) ∙ ap (λ (n : ℕ). some_at (brackets n) at) one))

-- ---- Together

pub finishes : (type : Reader Text) → Finishes type
finishes type = record {
  uncounted = first-uncounted type;
  empty = first-empty type;
  counted = first_counted type;
  argument = an-argument type;
  last = last-argument type;
  bracketed = all-brackets type;
  paired = pair-more type;
}

pub begins : (type : Reader Text) → Level type → Begins type
begins type h = record {
  alone = whole-empty type;
  generic = generic-whole type h;
  vector = vector-whole type h;
  modifier = modifier-whole type h;
  torn = modifier-torn type h;
}

pub frames-read : FramesRead
frames-read type = (finishes type, begins type)
