-- The loop of `walk_sized`: its invariant, and each way through its body, over plain variables. Assumes nothing.
use mathlib.Core.Path.{◌≡◌, refl, ◌∙◌}
use mathlib.Core.Bool.{true, false, cond}
use mathlib.Core.List.{List}
use mathlib.Core.Logic.{dite}
use Prim.Native.Nat.{ℕ, suc, ◌+◌, ◌*◌, ◌-◌, ◌/◌, ◌≤◌, ◌<◌, min}
use native.Mathlib.Nat.{not-suc-le-zero, le-div_iff_mul-le, div-lt_iff_lt-mul}
use native.Mathlib.Numerals.{add-one}
use native.Mathlib.Omega.{arith}
use native.Mathlib.Decide.{dec_lt}
use borrow.Author.Count.{below_more}
use borrow.Author.Tests.{lt-ltb, le-ltb, le-leb, lt-leb}
use lib.ListN.{length, get_or, set, length-set, replicate, get_or-replicate}
use lib.Seq.{get_or-set_same, get_or-set_other}
use Rattle.numbers.specs.Lists.{tabulate}
use Rattle.numbers.proofs.Lists.{table_is}
use Rattle.buffers.specs.Replies.{value}
use Rattle.tables.specs.Extents.{Walked, start_of, is_table, passes, stop_from, stop_kind, whole_rows, if_reached, walked}

-- n rows of that size fit in the room, or not, by how many are whole.
module _ {n size room whole : ℕ} (e : whole ≡ min n (room / size)) (some : 0 < size) where
  pub fits : n ≤ whole → n * size ≤ room
  fits h = (le-div_iff_mul-le some).0 (omega arith)

  fits_not : whole < n → room < n * size
  fits_not h = (div-lt_iff_lt-mul some).0 (omega arith)

module _ (size : ℕ → ℕ) (counts : List ℕ) (n first : ℕ) where
  -- an array that holds g at each is_table kind below `kind`, and 0 elsewhere
  pub record Filled (g : ℕ → ℕ) (l : List ℕ) (kind : ℕ) : Type 0 where
    pub long : length l ≡ 64
    pub read : (k : ℕ) → k < kind → get_or l k 0 ≡ cond (is_table size counts n first k) (g k) 0
    pub rest : (k : ℕ) → kind ≤ k → k < 64 → get_or l k 0 ≡ 0

  pub record Walking (starts sizes rows : List ℕ) (at kind : ℕ) : Type 0 where
    pub low : kind ≤ 64
    pub place : at ≡ start_of size counts n first kind
    pub within : at ≤ n
    pub on : stop_kind size counts n first ≡ stop_from size counts n first (64 - kind) kind
    pub starts-ok : Filled (start_of size counts n first) starts kind
    pub sizes-ok : Filled size sizes kind
    pub rows_ok : Filled (whole_rows size counts n first) rows kind

  empty : (g : ℕ → ℕ) → Filled g (replicate 64 0) 0
  empty g = record { long = refl; read = λ k h. absurd (not-suc-le-zero h); rest = λ k h l. get_or-replicate 64 k 0 0 l }

  kept : (g : ℕ → ℕ) (l : List ℕ) (kind : ℕ) → Filled g l kind → kind < 64 → is_table size counts n first kind ≡ false → Filled g l (kind + 1)
  kept g l kind i h e =
      record {
        long = i.long;
        read = below_more _ _ i.read (i.rest kind (omega arith) h ∙ rw e);
        rest = λ k a b. i.rest k (omega arith) b;
      }

  stored : (g : ℕ → ℕ) (l : List ℕ) (kind v : ℕ) → Filled g l kind → kind < 64 → is_table size counts n first kind ≡ true → v ≡ g kind → Filled g (set l kind v) (kind + 1)
  stored g l kind v i h e q =
      record {
        long = simp length-set i.long;
        read = below_more _ _ (λ k a. get_or-set_other l kind k v 0 (λ r. omega arith) ∙ i.read k a) (get_or-set_same l kind v 0 (omega (arith, i.long)) ∙ q ∙ rw e);
        rest = λ k a b. get_or-set_other l kind k v 0 (λ r. omega arith) ∙ i.rest k (omega arith) b;
      }

  final : (g : ℕ → ℕ) (l : List ℕ) (m : ℕ) → Filled g l m → m ≤ stop_kind size counts n first + 1 → ((k : ℕ) → m ≤ k → k < 64 → stop_kind size counts n first < k) → l ≡ tabulate (if_reached size counts n first g) 0 64
  unfolding if_reached
  final g l m i a b =
      table_is (if_reached size counts n first g) 0 64 l i.long
      (λ k h.
      dite (dec_lt k m) (λ q. i.read k q ∙ rw (le-leb k (stop_kind size counts n first) (omega arith)))
      (λ q. i.rest k (omega arith) h ∙ rw (lt-leb k (stop_kind size counts n first) (b k (omega arith) h))))

  -- the cases of `is_table`, `passes` and `stop_from`
  table-yes : (k : ℕ) → 0 < get_or counts k 0 → k < 45 → is_table size counts n first k ≡ true
  unfolding is_table
  table-yes k a b = rw (lt-ltb 0 (get_or counts k 0) a, lt-ltb k 45 b)

  table_empty : (k : ℕ) → get_or counts k 0 ≤ 0 → is_table size counts n first k ≡ false
  unfolding is_table
  table_empty k a = rw (le-ltb 0 (get_or counts k 0) a)

  table-unknown : (k : ℕ) → 0 < get_or counts k 0 → 45 ≤ k → is_table size counts n first k ≡ false
  unfolding is_table
  table-unknown k a b = rw (lt-ltb 0 (get_or counts k 0) a, le-ltb k 45 b)

  passes-empty : (k : ℕ) → get_or counts k 0 ≤ 0 → passes size counts n first k ≡ true
  unfolding passes
  passes-empty k a = rw (le-ltb 0 (get_or counts k 0) a)

  passes-fitting : (k : ℕ) → 0 < get_or counts k 0 → k < 45 → start_of size counts n first (k + 1) ≤ n → passes size counts n first k ≡ true
  unfolding passes
  passes-fitting k a b c = rw (lt-ltb 0 (get_or counts k 0) a, lt-ltb k 45 b, le-leb (start_of size counts n first (k + 1)) n c)

  stops-unknown : (k : ℕ) → 0 < get_or counts k 0 → 45 ≤ k → passes size counts n first k ≡ false
  unfolding passes
  stops-unknown k a b = rw (lt-ltb 0 (get_or counts k 0) a, le-ltb k 45 b)

  stops-cut : (k : ℕ) → 0 < get_or counts k 0 → k < 45 → n < start_of size counts n first (k + 1) → passes size counts n first k ≡ false
  unfolding passes
  stops-cut k a b c = rw (lt-ltb 0 (get_or counts k 0) a, lt-ltb k 45 b, lt-leb (start_of size counts n first (k + 1)) n c)

  stop-on : (k : ℕ) → k < 64 → passes size counts n first k ≡ true → stop_from size counts n first (64 - k) k ≡ stop_from size counts n first (64 - (k + 1)) (k + 1)
  unfolding stop_from
  stop-on k h e =
      let q : 64 - k ≡ suc (64 - (k + 1)) = omega arith in
      rw (q, e)

  stop-here : (k : ℕ) → k < 64 → passes size counts n first k ≡ false → stop_from size counts n first (64 - k) k ≡ k
  unfolding stop_from
  stop-here k h e =
      let q : 64 - k ≡ suc (64 - (k + 1)) = omega arith in
      rw (q, e)

  stop-end : (k : ℕ) → 64 ≤ k → stop_from size counts n first (64 - k) k ≡ k
  unfolding stop_from
  stop-end k h =
      let q : 64 - k ≡ 0 = omega arith in
      rw q

  place-next : (k at : ℕ) → at ≡ start_of size counts n first k → start_of size counts n first (k + 1) ≡ at + get_or counts k 0 * size k
  unfolding start_of
  place-next k at e = rw (add-one, e)

  pub begin : first ≤ n → Walking (replicate 64 0) (replicate 64 0) (replicate 64 0) first 0
  unfolding start_of stop_kind
  begin h =
      record {
        low = omega arith;
        place = refl;
        within = h;
        on = refl;
        starts-ok = empty _;
        sizes-ok = empty _;
        rows_ok = empty _;
      }

  module _ (starts sizes rows : List ℕ) (at kind : ℕ) (i : Walking starts sizes rows at kind) where
    -- the three arrays, filled up to m, where the walk is left at `kind`
    left : (a b c : List ℕ) (m : ℕ) → Filled (start_of size counts n first) a m → Filled size b m → Filled (whole_rows size counts n first) c m
        → stop_kind size counts n first ≡ kind → m ≤ kind + 1 → ((k : ℕ) → m ≤ k → k < 64 → kind < k)
        → ◌≡◌ {A = Walked} (record { stop = value kind; starts = a; sizes = b; rows = c }) (walked size counts n first)
    unfolding walked
    left a b c m x y z e h g =
        rw (
          e,
          final _ a m x (omega arith) (λ k u v. rw e (g k u v)),
          final _ b m y (omega arith) (λ k u v. rw e (g k u v)),
          final _ c m z (omega arith) (λ k u v. rw e (g k u v)),
        )

    pub ended : 64 ≤ kind → ◌≡◌ {A = Walked} (record { stop = value kind; starts = starts; sizes = sizes; rows = rows }) (walked size counts n first)
    ended h = left starts sizes rows kind i.starts-ok i.sizes-ok i.rows_ok (i.on ∙ stop-end kind h) (omega arith) (λ k u v. omega arith)

    module _ (h : kind < 64) where
      pub skipped : get_or counts kind 0 ≤ 0 → Walking starts sizes rows at (kind + 1)
      skipped e =
          let t = table_empty kind e in
          let z : get_or counts kind 0 ≡ 0 = omega arith in
          record {
            low = omega arith;
            place = omega (arith, rw z at (place-next kind at i.place));
            within = i.within;
            on = i.on ∙ stop-on kind h (passes-empty kind e);
            starts-ok = kept _ _ _ i.starts-ok h t;
            sizes-ok = kept _ _ _ i.sizes-ok h t;
            rows_ok = kept _ _ _ i.rows_ok h t;
          }

      module _ (some : 0 < get_or counts kind 0) where
        pub unknown : 45 ≤ kind → ◌≡◌ {A = Walked} (record { stop = value kind; starts = starts; sizes = sizes; rows = rows }) (walked size counts n first)
        unknown e =
            let t = table-unknown kind some e in
            left starts sizes rows (kind + 1) (kept _ _ _ i.starts-ok h t) (kept _ _ _ i.sizes-ok h t) (kept _ _ _ i.rows_ok h t)
            (i.on ∙ stop-here kind h (stops-unknown kind some e)) (omega arith) (λ k u v. omega arith)

        module _ (known : kind < 45) (bytes whole : ℕ) (es : bytes ≡ size kind) (ew : whole ≡ min (get_or counts kind 0) ((n - at) / bytes)) (pos : 0 < bytes) where
          whole_is : whole ≡ whole_rows size counts n first kind
          unfolding whole_rows
          whole_is = ew ∙ rw (i.place, es)

          pub cut : whole < get_or counts kind 0
              → ◌≡◌ {A = Walked} (record { stop = value kind; starts = set starts kind at; sizes = set sizes kind bytes; rows = set rows kind whole }) (walked size counts n first)
          cut e =
              let t = table-yes kind some known in
              let q : n - at < get_or counts kind 0 * bytes = fits_not ew pos e in
              let r : n < start_of size counts n first (kind + 1) = rw (place-next kind at i.place, ← es) (omega arith) in
              left _ _ _ (kind + 1) (stored _ _ _ _ i.starts-ok h t i.place) (stored _ _ _ _ i.sizes-ok h t es) (stored _ _ _ _ i.rows_ok h t whole_is)
              (i.on ∙ stop-here kind h (stops-cut kind some known r)) (omega arith) (λ k u v. omega arith)

          pub taken : get_or counts kind 0 ≤ whole
              → Walking (set starts kind at) (set sizes kind bytes) (set rows kind whole) (at + get_or counts kind 0 * bytes) (kind + 1)
          taken e =
              let t = table-yes kind some known in
              let q : get_or counts kind 0 * bytes ≤ n - at = fits ew pos e in
              let r : at + get_or counts kind 0 * bytes ≡ start_of size counts n first (kind + 1) = rw (place-next kind at i.place, es) in
              record {
                low = omega arith;
                place = r;
                within = omega (arith, i.within);
                on = i.on ∙ stop-on kind h (passes-fitting kind some known (omega (arith, i.within)));
                starts-ok = stored _ _ _ _ i.starts-ok h t i.place;
                sizes-ok = stored _ _ _ _ i.sizes-ok h t es;
                rows_ok = stored _ _ _ _ i.rows_ok h t whole_is;
              }
