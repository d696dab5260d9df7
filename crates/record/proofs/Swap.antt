-- Two GenericParam rows of one class with different names, exchanged, change that class's list of names. Assumes nothing.
use mathlib.Core.Path.{◌≡◌, refl, sym, ap, ap₂, ◌∙◌}
use mathlib.Core.Logic.{◌≢◌}
use mathlib.Core.List.{List, map}
use mathlib.Core.Option.{Option}
use Prim.Native.Nat.{ℕ, ◌+◌, ◌*◌, ◌-◌, ◌<◌}
use native.Mathlib.Decide.{dec_lt}
use native.Mathlib.Omega.{arith}
use lib.ListN.{length, get_or}
use Rattle.header.specs.Stream.{Opening}
use Rattle.heaps.specs.Lookups.{name, text_of, string}
use Rattle.layouts.specs.Kinds.{generic_param}
use Rattle.record.specs.Columns.{owner, generic_name}
use Rattle.tables.specs.Extents.{Extent, sizes_in, extent, kept_by, kept_rows, only_entire}
use Rattle.record.specs.Rows.{row_bytes, of_key}
use Rattle.header.specs.declared.Options.{Options}
use Rattle.record.specs.View.{view, view_of, place}
use Rattle.header.specs.Stream.{opened}
use Rattle.record.specs.Names.{classes, class_index}
use Rattle.record.specs.Record.{class}
use Rattle.record.specs.Rearrangement.{Swapped, Elsewhere}
use Rattle.record.specs.Demand.{SwapShows}
use Rattle.record.proofs.Parts.{part_same}
use Rattle.record.proofs.Extents.{row_inside, rows_apart}
use Rattle.record.proofs.Lift.{opened-same}
use Rattle.record.proofs.Keyed.{of_key-differs, of_key-map}
use Rattle.record.proofs.Laws.{record-length, record-at}

module _ (o : Options) (t u strings blob : List ℕ) (i j : ℕ) (s : Swapped o t u i j) where
  abbrev h : Opening
  h = opened o t

  abbrev e : Extent
  e = place o h t generic_param

  abbrev text : List ℕ → Option (List ℕ)
  text r = string strings (generic_name (sizes_in o h) r)

  off : (p : ℕ) → Elsewhere o h t p → get_or u p 0 ≡ get_or t p 0
  off p g = s.elsewhere p (λ r. g generic_param refl (row_inside e i p s.row-i r)) (λ r. g generic_param refl (row_inside e j p s.row-j r))

  pub headers : opened o u ≡ h
  headers = opened-same o t u s.same_length off

  -- Rows before both are as they were.
  before : (k : ℕ) → k < i → k < j → row_bytes e u k ≡ row_bytes e t k
  before k hi hj =
      part_same u t s.same_length (e.start + k * e.size) e.size
      (λ p l m. s.elsewhere p (rows_apart e k i p hi (l, m)) (rows_apart e k j p hj (l, m)))

  module _ (c : ℕ) (oi : owner (sizes_in o h) (row_bytes e t i) ≡ c) (oj : owner (sizes_in o h) (row_bytes e t j) ≡ c)
      (ne : text (row_bytes e t i) ≢ text (row_bytes e t j)) where
    lists-differ : of_key (owner (sizes_in o h)) text (row_bytes e u) e.rows c ≢ of_key (owner (sizes_in o h)) text (row_bytes e t) e.rows c
    lists-differ = go (dec_lt i j) (dec_lt j i)
      where
        go : Dec (i < j) → Dec (j < i) → of_key (owner (sizes_in o h)) text (row_bytes e u) e.rows c ≢ of_key (owner (sizes_in o h)) text (row_bytes e t) e.rows c
        go (yes l) _ =
            of_key-differs (owner (sizes_in o h)) text _ _ c _ i s.row-i (λ k b. before k b (omega arith)) oi (ap (owner (sizes_in o h)) s.at_i ∙ oj)
            (λ q. ne (sym q ∙ ap text s.at_i))
        go (no n) (yes l) =
            of_key-differs (owner (sizes_in o h)) text _ _ c _ j s.row-j (λ k b. before k (omega arith) b) oj (ap (owner (sizes_in o h)) s.at_j ∙ oi)
            (λ q. ne (sym (ap text s.at_j) ∙ q))
        go (no n) (no m) = absurd (ne (ap (λ k. text (row_bytes e t k)) (omega arith)))

    -- The texts of the names that the rows of x give c, where opening found g and a stream of length n.
    abbrev texts : Opening → ℕ → List ℕ → List (Option (List ℕ))
    texts g n x = of_key (owner (sizes_in o g)) (λ b. string strings (generic_name (sizes_in o g) b)) (row_bytes (extent o g n generic_param) x) (extent o g n generic_param).rows c

    texts-are : (x : List ℕ) → map text_of ((view o x strings blob).generics c) ≡ texts (opened o x) (length x) x
    unfolding view_of kept_by only_entire string
    texts-are x =
        let g = opened o x in
        let at = extent o g (length x) generic_param in
        of_key-map text_of (owner (sizes_in o g)) (λ b. name strings (generic_name (sizes_in o g) b)) (row_bytes at x) at.rows c

    pub generics-differ : map text_of ((view o u strings blob).generics c) ≢ map text_of ((view o t strings blob).generics c)
    generics-differ q =
        lists-differ (sym (ap₂ (λ g n. texts g n u) headers s.same_length) ∙ sym (texts-are u) ∙ q ∙ texts-are t)

classes-same : (o : Options) (t u strings blob : List ℕ) → opened o u ≡ opened o t → length u ≡ length t → classes (view o u strings blob) ≡ classes (view o t strings blob)
unfolding classes view_of
classes-same o t u strings blob h l = ap₂ (λ g n. kept_rows o g n 0x02 - 1) h l

pub swap-shows : SwapShows
unfolding class
swap-shows o t u strings blob i j c s listed oi oj ne =
    let v = view o t strings blob in
    let w = view o u strings blob in
    let texts = generics-differ o t u strings blob i j s (2 * class_index c) oi oj ne in
    let differ : class w c ≢ class v c = λ q. texts (ap (λ r. map text_of r.generics) q) in (
      texts,
      differ,
      λ q.
          let n = classes-same o t u strings blob (headers o t u strings blob i j s) s.same_length in
          let m = record-length v in
          differ (sym (record-at w c (class v c) (omega arith)) ∙ ap (λ r. get_or r c (class v c)) q ∙ record-at v c (class v c) (omega arith)),
    )
