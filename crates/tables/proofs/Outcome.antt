-- The walk's reply by what opening found. Assumes nothing.
use mathlib.Core.Path.{◌≡◌, ap}
use mathlib.Core.List.{List}
use Prim.Native.Nat.{ℕ}
use lib.ListN.{length}
use Rattle.buffers.proofs.Replies.{reply-same}
use Rattle.buffers.specs.declared.Refusal.{Refusal}
use Rattle.header.specs.Stream.{opened, Opening}
use Rattle.header.specs.declared.Options.{Options}
use Rattle.std.specs.Prelude.{Err, Ok}
use Rattle.layouts.specs.Columns.{width_in, row_size}
use Rattle.layouts.specs.declared.IndexSizes.{IndexSizes}
use Rattle.tables.specs.Extents.{Walked, walk_says, walk_by, walk_of, refused_walk, walked, row_size_in}
use Rattle.tables.specs.declared.Extents.{Extents}

module _ (o : Options) (s : List ℕ) (h : Opening) where
  pub is-refused : (why : Refusal) → h ≡ opened o s → h.answer ≡ Err why → refused_walk why ≡ walk_of o s
  unfolding walk_by
  is-refused why e f = rw (← e, f)

  pub is-walked : h ≡ opened o s → h.answer ≡ (Ok tt) → walked (row_size_in o h) h.counts (length s) h.first ≡ walk_of o s
  unfolding walk_by
  is-walked e f = rw (← e, f)

-- A walk depends on the index sizes alone, not on how they were found.
pub same-walk : {v w : IndexSizes} → v ≡ w → (counts : List ℕ) (n first : ℕ)
    → walked (row_size (width_in v)) counts n first ≡ walked (row_size (width_in w)) counts n first
same-walk e counts n first = ap (λ (x : IndexSizes). walked (row_size (width_in x)) counts n first) e

-- A walk's reply is known by what it says.
pub walk_same : (a b : Extents) → walk_says a ≡ walk_says b → a ≡ b
walk_same a b e =
    let answer = reply-same a.answer b.answer (ap (λ (s : Walked). s.stop) e) in
    let starts = ap (λ (s : Walked). s.starts) e in
    let sizes = ap (λ (s : Walked). s.sizes) e in
    let rows = ap (λ (s : Walked). s.rows) e in
    let same : ◌≡◌ {A = Extents}
    (record { answer = a.answer; starts = a.starts; sizes = a.sizes; rows = a.rows })
    (record { answer = b.answer; starts = b.starts; sizes = b.sizes; rows = b.rows }) = rw (answer, starts, sizes, rows) in
    same
