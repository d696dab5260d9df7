-- The ways through the functions over the stack, from the answers of the code. Assumes nothing.
use mathlib.Core.Path.{◌≡◌, refl, sym, ◌∙◌, ap, subst}
use mathlib.Core.Bool.{Bool, true, false}
use mathlib.Core.List.{List, [], ◌∷◌, ◌++◌}
use mathlib.Core.Option.{Option, none, some}
use Prim.Native.Nat.{ℕ, zero, suc, ◌+◌, ◌-◌, ◌<◌, ◌≤◌}
use mathlib.Core.Logic.{◌⊎◌, inl, inr, ⊎_elim}
use native.Mathlib.Nat.{add_assoc, le_refl, le_trans, zero-add, eq-or-lt_of_le}
use native.Mathlib.Numerals.{add-one}
use native.Mathlib.Omega.{arith}
use borrow.Author.Tests.{ltb-false}
use lib.Dec.{ltb}
use lib.ListN.{length, get_or, set}
use lib.Seq.{get_or-set_same, get_or-set_other}
use Rattle.numbers.specs.Reading.{Res, Reader, some_at, none_at, give, after, chain}
use Rattle.numbers.specs.Compressed.{uint}
use Rattle.numbers.proofs.Reading.{Onward, give-onward, fail-onward, cond-onward, bind-onward}
use Rattle.numbers.proofs.Compressed.{uint-onward}
use Rattle.buffers.specs.Texts.{Text, q}
use Rattle.buffers.specs.Writes.{Wrote}
use Rattle.buffers.proofs.Writing.{wrote_none, wrote_then, wrote_kept, kept_same}
use Rattle.record.specs.Types.{unless}
use Rattle.shapes.specs.Runs.{brackets}
use Rattle.sig_leaves.specs.Leaves.{up_to, argument_count}
use Rattle.frames.specs.Stack.{joined, before, first_type, most_arguments, pairs, ends, rest, whole, stack, Modifier, Level, Moves, Other, Halts, Ends, Ascends, Descends, Paired}
use Rattle.frames.specs.Stack as spec
use Rattle.frames.specs.declared.Ended.TheVariants as ended
use Rattle.frames.specs.declared.Descent.{Descent}
use Rattle.std.specs.Prelude.{Result, Ok, Err}
use Rattle.frames.specs.declared.Ascent.{Ascent}
use Rattle.frames.specs.declared.Ascent.TheVariants as ascent
use Rattle.frames.proofs.Laws.{before-both, joined-some, joined-none, joined-before, joined-assoc, joined-alike, finishes, begins}

-- ---- A number of arguments

abbrev Small : Option ℕ → Type 0
Small none = Unit {0}
Small (some k) = k ≤ most_arguments

bounded : (s : List ℕ) (o : Option ℕ) (next m : ℕ) → Small (chain o next m (λ n to. unless (ltb 1000 n) (give n) s to)).got
bounded s none next m = tt
bounded s (some n) next m = go (ltb 1000 n) refl
  where
    go : (t : Bool) → ltb 1000 n ≡ t → Small (unless t (give n) s next).got
    go true e = tt
    go false e = ltb-false 1000 n e

module _ (s : List ℕ) (pos : ℕ) {k p : ℕ} (e : some_at k p ≡ argument_count s pos) where
  pub count_small : k ≤ most_arguments
  unfolding up_to
  count_small = subst (λ (r : Res ℕ). Small r.got) (sym e) (bounded s (uint s pos).got (uint s pos).next (uint s pos).steps)

  pub count-ahead : pos ≤ p
  unfolding up_to
  count-ahead =
      let on : Onward argument_count = bind-onward uint-onward (λ n. cond-onward (ltb 1000 n) fail-onward (give-onward n)) in
      subst (λ (r : Res ℕ). pos ≤ r.next) (sym e) (on.ahead s pos).from

-- ---- A frame at the end of a type

pub end-uncounted : (s : List ℕ) (pos : ℕ) {v : ℕ} {b : List ℕ} {at p : ℕ} → v ≡ 0 → none_at p ≡ argument_count s pos → Ends s pos v b at b (Err p)
end-uncounted s pos {b = b} {at = at} {p = p} z e = spec.broken {p = p} (kept_same b at) (λ T. rw z ((finishes T).uncounted s pos e))

module _ (s : List ℕ) (pos : ℕ) {v : ℕ} {b b' : List ℕ} {at k : ℕ} where
  pub end_empty : {c p : ℕ} → v ≡ 0 → some_at c p ≡ argument_count s pos → c ≡ 0 → Wrote b at (q "<>") b' k → Ends s pos v b at b' (Ok (ended.Closed k p))
  end_empty z e n w = spec.closed (q "<>") w (count-ahead s pos e) (λ T. rw z ((finishes T).empty s pos (rw n at e)))

  pub end-counted : {c p x : ℕ} → v ≡ 0 → some_at c p ≡ argument_count s pos → (c ≡ 0 → ⊥) → x ≡ c → Wrote b at (q "<") b' k
      → Ends s pos v b at b' (Ok (ended.Next k p x))
  end-counted {c} {p} {x} z e n y w =
      let positive : 0 < c = omega (arith, n) in
      spec.next {w = x} (q "<") w (count-ahead s pos e) (λ T. rw (z, y) ((finishes T).counted s pos positive (count_small s pos e) e))

  pub end-last : v ≡ 1 → Wrote b at (q ">") b' k → Ends s pos v b at b' (Ok (ended.Closed k pos))
  end-last z w = spec.closed (q ">") w (le_refl pos) (λ T. rw z ((finishes T).last s pos))

  pub end-argument : (v ≡ 0 → ⊥) → (v ≡ 1 → ⊥) → v ≤ most_arguments → Wrote b at (q ",") b' k → Ends s pos v b at b' (Ok (ended.Next k pos (v - 1)))
  end-argument n o l w = spec.next (q ",") w (le_refl pos) (λ T. (finishes T).argument s pos v (omega (arith, n, o)) l)

  pub end-brackets : {n : ℕ} → most_arguments < v → n ≡ v - most_arguments → Wrote b at (brackets n) b' k → Ends s pos v b at b' (Ok (ended.Closed k pos))
  end-brackets l e w = spec.closed (brackets (v - most_arguments)) (rw e at w) (le_refl pos) (λ T. (finishes T).bracketed s pos v l)

-- ---- The frames in use

stack-below : (a : List ℕ) (i v n : ℕ) → n ≤ i → stack (set a i v) n ≡ stack a n
unfolding stack
stack-below a i v zero h = refl
stack-below a i v (suc n) h = let d : n < i = omega (arith, h) in rw (get_or-set_other a i n v 0 (omega (arith, d)), stack-below a i v n (omega (arith, d))) refl

pub stack_push : (a : List ℕ) (n v : ℕ) → n < length a → stack (set a n v) (n + 1) ≡ v ∷ stack a n
unfolding stack
stack_push a n v h = ap (stack (set a n v)) (add-one n) ∙ rw (get_or-set_same a n v 0 h, stack-below a n v n (le_refl n)) refl

module _ (a : List ℕ) {n : ℕ} (z : 0 < n) where
  pub stack_top : stack a n ≡ get_or a (n - 1) 0 ∷ stack a (n - 1)
  unfolding stack
  stack_top = let one : n ≡ suc (n - 1) = omega (arith, z) in ap (stack a) one

  pub stack-change : (v : ℕ) → n ≤ length a → stack (set a (n - 1) v) n ≡ v ∷ stack a (n - 1)
  stack-change v h = let one : n ≡ n - 1 + 1 = omega (arith, z) in ap (stack (set a (n - 1) v)) one ∙ stack_push a (n - 1) v (omega (arith, z, h))

-- ---- All frames at the end of a type

module _ {s : List ℕ} {pos v : ℕ} {b b₁ : List ℕ} {at : ℕ} where
  closed_in : {k p : ℕ} → Ends s pos v b at b₁ (Ok (ended.Closed k p)) → {vs : List ℕ} {used : ℕ} {b' a' : List ℕ} {r : Result Ascent ℕ} → Ascends s p vs used b₁ k b' a' r → {more : ℕ} → used ≤ more
      → Ascends s pos (v ∷ vs) more b at b' a' r
  unfolding rest
  closed_in (spec.closed {k} {p} u w le e) {vs = vs} (spec.more {n = n} t x ahead less is) h =
      spec.more (u ++ t) (wrote_then w x) (le_trans le ahead) (le_trans less h)
      (λ T. joined-some (ends T v) (rest T vs) s pos p u (e T) ∙ ap (before u) (is T)
      ∙ before-both u t (whole T (stack _ n) s _).got (whole T (stack _ n) s _).next (whole T (stack _ n) s _).steps)
  closed_in (spec.closed {k} {p} u w le e) {vs = vs} (spec.over t x is) h =
      spec.over (u ++ t) (wrote_then w x) (λ T. joined-some (ends T v) (rest T vs) s pos p u (e T) ∙ ap (before u) (is T))
  closed_in (spec.closed {k} {p} u w le e) {vs = vs} (spec.broken x is) h =
      spec.broken (wrote_kept w x) (λ T. joined-some (ends T v) (rest T vs) s pos p u (e T) ∙ ap (before u) (is T))

  next-in : {k p x : ℕ} → Ends s pos v b at b₁ (Ok (ended.Next k p x)) → {vs a' : List ℕ} {n used : ℕ} → stack a' n ≡ x ∷ vs → n ≤ used
      → Ascends s pos (v ∷ vs) used b at b₁ a' (Ok (ascent.More k p n))
  unfolding rest
  next-in (spec.next {k} {p} {w} u o le e) {vs = vs} i h =
      spec.more u o le h
      (λ T. rw i (joined-before (ends T v) (joined T (ends T w)) (rest T vs) s pos p u (e T) ∙ ap (before u) (joined-assoc T (ends T w) (rest T vs) s p)))

  broken-in : {p : ℕ} → Ends s pos v b at b₁ (Err p) → {vs a' : List ℕ} {used : ℕ} → Ascends s pos (v ∷ vs) used b at b₁ a' (Err p)
  unfolding rest
  broken-in (spec.broken {p} k e) {vs = vs} = spec.broken k (λ T. joined-none (ends T v) (rest T vs) s pos p 0 (e T))

  -- A frame that has ended leaves a place in the buffer, or one past its end.
  pub ended-place : {k p : ℕ} → Ends s pos v b at b₁ (Ok (ended.Closed k p)) → k ≤ length b₁ + 1
  ended-place (spec.closed u w le e) = omega (arith, w.place, w.keeps.long)
  -- A frame that has ended leaves a place in the buffer, or one past its end.

-- The loop of `ascend`: what completes the frames that are left completes all.
module _ {s : List ℕ} {pos : ℕ} (a : List ℕ) {n : ℕ} (z : 0 < n) {b b₁ : List ℕ} {at : ℕ} where
  pub ascend-closed : {k p : ℕ} → Ends s pos (get_or a (n - 1) 0) b at b₁ (Ok (ended.Closed k p)) → {b' a' : List ℕ} {r : Result Ascent ℕ}
      → Ascends s p (stack a (n - 1)) (n - 1) b₁ k b' a' r → Ascends s pos (stack a n) n b at b' a' r
  ascend-closed h y = rw (stack_top a z) (closed_in h y (omega arith))

  pub ascend-next : {k p v : ℕ} → Ends s pos (get_or a (n - 1) 0) b at b₁ (Ok (ended.Next k p v)) → n ≤ length a
      → Ascends s pos (stack a n) n b at b₁ (set a (n - 1) v) (Ok (ascent.More k p n))
  ascend-next {v = v} h l = rw (stack_top a z) (next-in h (stack-change a z v l) (le_refl n))

  pub ascend-broken : {p : ℕ} {a' : List ℕ} → Ends s pos (get_or a (n - 1) 0) b at b₁ (Err p) → Ascends s pos (stack a n) n b at b₁ a' (Err p)
  ascend-broken h = rw (stack_top a z) (broken-in h)

pub ascend-over : {s : List ℕ} {pos : ℕ} (a : List ℕ) {n : ℕ} → n ≤ 0 → {b a' : List ℕ} {at : ℕ} → at ≤ length b + 1
    → Ascends s pos (stack a n) n b at b a' (Ok (ascent.Over at pos))
unfolding stack rest
ascend-over a {n} z {b} {a'} {at} h =
    let zero_is : n ≡ 0 = omega (arith, z) in rw zero_is (spec.over [] (wrote_none b at at (omega arith)) (λ T. refl))

-- ---- One pair of brackets more

module _ (a : List ℕ) {n : ℕ} (l : n < length a) where
  pub paired-new : Paired (stack a n) n (set a n (pairs 1)) (n + 1)
  paired-new = record { room = le_refl (n + 1); is = λ T s at. ap (λ (vs : List ℕ). rest T vs s at) (sym (stack_push a n (pairs 1) l)) }

  pub paired-more : 0 < n → most_arguments < get_or a (n - 1) 0 → Paired (stack a n) n (set a (n - 1) (get_or a (n - 1) 0 + 1)) n
  paired-more z h = record {
    room = omega arith;
    is = λ T s at. ap (λ (vs : List ℕ). rest T (pairs 1 ∷ vs) s at) (stack_top a z)
        ∙ (finishes T).paired (stack a (n - 1)) s at (get_or a (n - 1) 0) h
        ∙ ap (λ (vs : List ℕ). rest T vs s at) (sym (stack-change a z (get_or a (n - 1) 0 + 1) (omega (arith, l))));
  }

-- ---- The tags before a type

pub moves-none : (s : List ℕ) (pos : ℕ) (vs : List ℕ) → Moves s pos vs 0 pos vs
moves-none s pos vs = record { is = λ T h. sym (ap (λ (m : ℕ). record { got = (whole T vs s pos).got; next = (whole T vs s pos).next; steps = m }) (zero-add (whole T vs s pos).steps)) }

module _ {s : List ℕ} {pos : ℕ} {vs : List ℕ} {k p : ℕ} {ws : List ℕ} (x : Moves s pos vs k p ws) where
  moves-then : {p' : ℕ} {xs : List ℕ} (m : ℕ) → ((T : Reader Text) → Level T → whole T ws s p ≡ after m (whole T xs s p')) → Moves s pos vs (k + m) p' xs
  moves-then {p'} {xs} m e = record {
    is = λ T h. let r = whole T xs s p' in
        x.is T h ∙ ap (after k) (e T h)
        ∙ ap (λ (n : ℕ). record { got = r.got; next = r.next; steps = n }) (sym (add_assoc k m r.steps));
  }

  moves-broken : {p' : ℕ} {a' : List ℕ} {used : ℕ} (m : ℕ) → ((T : Reader Text) → Level T → whole T ws s p ≡ after m (none_at p')) → Descends s pos vs used a' (Err (p', k + m))
  moves-broken {p'} m e =
      spec.broken {p = p'} {m = k + m} (λ T h. x.is T h ∙ ap (after k) (e T h) ∙ ap (λ (n : ℕ). record { got = none; next = p'; steps = n }) (sym (add_assoc k m 0)))

module _ {s : List ℕ} {pos : ℕ} {vs : List ℕ} {p : ℕ} (a : List ℕ) (n : ℕ) {k : ℕ} (x : Moves s pos vs k p (stack a n)) where
  module _ (lt : p < length s) where
    pub descend-generic : get_or s p 0 ≡ 0x15 → n < length a → Moves s pos vs (k + 1) (p + 1) (stack (set a n first_type) (n + 1))
    descend-generic e l =
        moves-then x 1 (λ T h. (begins T h).generic (stack a n) s p lt e ∙ ap (λ (ws : List ℕ). after 1 (whole T ws s (p + 1))) (sym (stack_push a n first_type l)))

    pub descend-vector : get_or s p 0 ≡ 0x1D → (a' : List ℕ) (o : ℕ) → Paired (stack a n) n a' o → Moves s pos vs (k + 1) (p + 1) (stack a' o)
    descend-vector e a' o y =
        moves-then x 1 (λ T h. (begins T h).vector (stack a n) s p lt e
        ∙ ap (after 1) (joined-alike T (rest T (pairs 1 ∷ stack a n)) (rest T (stack a' o)) s (p + 1) (λ to. y.is T s to)))

  module _ (m : Modifier s p) where
    pub descend-modifier : {v next : ℕ} → uint s (p + 1) ≡ some_at v next → Moves s pos vs (k + 1) next (stack a n)
    descend-modifier u = moves-then x 1 (λ T h. (begins T h).modifier (stack a n) s p m u)

    pub descend-torn : {next : ℕ} {a' : List ℕ} {used : ℕ} → uint s (p + 1) ≡ none_at next → Descends s pos vs used a' (Err (next, k + 1))
    descend-torn u = moves-broken x 1 (λ T h. (begins T h).torn (stack a n) s p m u)

pub modifier : (s : List ℕ) {p : ℕ} → p < length s → 0x1F ≤ get_or s p 0 → get_or s p 0 < 0x21 → Modifier s p
modifier s {p} lt lo hi = record { inside = lt; tag = ⊎_elim (λ e. inl (sym e)) (λ g. inr (omega (arith, g, hi))) (eq-or-lt_of_le lo) }

pub read-ahead : (s : List ℕ) (p : ℕ) {v next : ℕ} → uint s (p + 1) ≡ some_at v next → p < next
read-ahead s p e = let on = subst (λ (r : Res ℕ). p + 1 ≤ r.next) e (uint-onward.ahead s (p + 1)).from in omega (arith, on)

-- The ways out of `descend`.
pub other_tag : (s : List ℕ) (p : ℕ) → (get_or s p 0 ≡ 0x15 → ⊥) → (get_or s p 0 ≡ 0x1D → ⊥) → (get_or s p 0 < 0x1F) ⊎ (0x21 ≤ get_or s p 0) → Other s p
other_tag s p g v o = record {
  plain = record { no-vector = λ _. v; no-required = λ _ e. out o e; no-optional = λ _ e. out2 o e };
  no-generic = λ _. g;
}
  where
    out : (get_or s p 0 < 0x1F) ⊎ (0x21 ≤ get_or s p 0) → get_or s p 0 ≡ 0x1F → ⊥
    out (inl l) e = absurd (omega (arith, l, e))
    out (inr l) e = absurd (omega (arith, l, e))

    out2 : (get_or s p 0 < 0x1F) ⊎ (0x21 ≤ get_or s p 0) → get_or s p 0 ≡ 0x20 → ⊥
    out2 (inl l) e = absurd (omega (arith, l, e))
    out2 (inr l) e = absurd (omega (arith, l, e))

pub other-end : {s : List ℕ} {p : ℕ} → length s ≤ p → Other s p
other-end h = record {
  plain = record { no-vector = λ l _. absurd (omega (arith, l, h)); no-required = λ l _. absurd (omega (arith, l, h)); no-optional = λ l _. absurd (omega (arith, l, h)) };
  no-generic = λ l _. absurd (omega (arith, l, h));
}

-- What is known of a descent.
pub record Came (s : List ℕ) (pos : ℕ) (vs : List ℕ) (used : ℕ) (a' : List ℕ) (d : Descent) : Type 0 where
  pub ahead : pos ≤ d.at
  pub few : d.used + pos ≤ used + d.at
  pub room : d.used ≤ length a'
  pub moved : Moves s pos vs d.passed d.at (stack a' d.used)
  pub halts : Halts s d.at d.used (length a') d.full

module _ {s : List ℕ} {pos : ℕ} {vs : List ℕ} {used : ℕ} {a' : List ℕ} {d : Descent} where
  pub came : Descends s pos vs used a' (Ok d) → Came s pos vs used a' d
  came (spec.arrived ahead few room moved halts) = record { ahead = ahead; few = few; room = room; moved = moved; halts = halts }

  -- All descents of a level together leave the place where the first began, at which a tag keeps the level.
  pub came-on : Came s pos vs used a' d → {start : ℕ} → (Other s start → ⊥) → used + start ≤ pos → 0 < length a' → start < d.at
  came-on c {start} k le room = go c.halts (eq-or-lt_of_le at_least)
    where
      at_least : start ≤ d.at
      at_least = omega (arith, c.ahead, le)

      go : {y : Bool} → Halts s d.at d.used (length a') y → (start ≡ d.at) ⊎ (start < d.at) → start < d.at
      go x (inr l) = l
      go (spec.other o) (inl same) = absurd (k (subst (Other s) (sym same) o))
      go (spec.full t f) (inl same) = omega (arith, c.ahead, c.few, le, room, f)

-- Where no frame is free, a tag keeps the level.
pub halts-full : {s : List ℕ} {p n room : ℕ} {full : Bool} → Halts s p n room full → full ≡ true → Other s p → ⊥
halts-full {s} {p} {n} {room} h e = go (subst (Halts s p n room) e h)
  where
    go : Halts s p n room true → Other s p → ⊥
    go (spec.full t f) = t
