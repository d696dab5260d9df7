-- Parts of heaps as what an answer comes to. Assumes nothing.
use mathlib.Core.Path.{◌≡◌, refl, sym, ap, ◌∙◌}
use mathlib.Core.Logic.{◌≢◌}
use mathlib.Core.List.{List, [], ◌∷◌}
use mathlib.Core.Option.{none, some}
use Prim.Native.Nat.{ℕ, ◌+◌, ◌≤◌}
use native.Mathlib.Omega.{arith}
use denote.Bor.{Bor}
use lib.ListN.{length, drop, length-drop}
use lib.Seq.{length-take-le}
use Rattle.numbers.specs.Parts.{part, CutOf}
use Rattle.numbers.proofs.Parts.{cut-is}
use Rattle.buffers.specs.Writes.{Wrote}
use Rattle.buffers.specs.Replies.{name_or_5}
use Rattle.buffers.specs.Telling as telling
use Rattle.buffers.specs.Telling.{ToldIs}
use Rattle.buffers.specs.declared.Reason.{Reason}
use Rattle.buffers.specs.declared.Reason.TheVariants.{Untold}
use Rattle.buffers.proofs.Writing.{kept_same}
use Rattle.heaps.specs.Lookups.{Part, string_at, blob_at, bytes_of, name, part_name, text_of, string, blob, Inside}
use Rattle.heaps.proofs.Lookups.{blob-within}
use Rattle.record.specs.Missing.{and_then}
use Rattle.record.specs.References.{not_empty}
use Rattle.std.specs.Prelude.{Ok, Err}
use Rattle.buffers.specs.declared.Unnamed.TheVariants.{Missing}

-- What a part comes to at a place.
module _ {b : List ℕ} {at : ℕ} {p : Part} where
  pub told_part : (s : Bor (List ℕ)) {b' : List ℕ} {start n end : ℕ} {text : Bor (List ℕ)} → p ≡ Ok (record { start = start; len = n }) → Inside s.now p
      → CutOf text s start n → Wrote b at text.now b' end → ToldIs (name_or_5 (bytes_of s.now p)) b at b' (Ok end)
  told_part s {text = text} f i c w = telling.name text.now (rw (f, ← (cut-is _ s _ _ (rw f at i) c).bytes) refl) w

  pub told-absent : (s : List ℕ) {why : Reason} → p ≡ Err why → ToldIs (name_or_5 (bytes_of s p)) b at b (Err (Missing Untold))
  told-absent s f = telling.missing {why = Untold} (rw f refl) (kept_same b at)

-- The bytes that a lookup of a string finds are the string, and those of a blob the blob.
pub string_bytes : (s : List ℕ) (i : ℕ) {p : Part} → p ≡ string_at s i → string s i ≡ bytes_of s p
unfolding string name
string_bytes s i {p} e = rw (← e) (go p)
  where
    go : (p : Part) → text_of (part_name s p) ≡ bytes_of s p
    go (Ok span) = refl
    go (Err why) = refl

pub blob-bytes : (s : List ℕ) (i : ℕ) {p : Part} → p ≡ blob_at s i → blob s i ≡ bytes_of s p
unfolding blob
blob-bytes s i e = rw e refl

-- A part that has bytes.
has-bytes : (x : List ℕ) → length x ≢ 0 → some x ≡ and_then (some x) not_empty
unfolding not_empty
has-bytes [] h = absurd (h refl)
has-bytes (b ∷ x) h = refl

module _ (s : List ℕ) {p : Part} {start n : ℕ} (f : p ≡ Ok (record { start = start; len = n })) where
  pub none-empty : n ≡ 0 → bytes_of s (Err Untold) ≡ and_then (bytes_of s p) not_empty
  unfolding not_empty
  none-empty e = rw (f, e) refl

  pub some-filled : n ≢ 0 → Inside s p → bytes_of s (Ok (record { start = start; len = n })) ≡ and_then (bytes_of s p) not_empty
  some-filled h i =
      let within : start + n ≤ length s = rw f at i in
      let long : length (part s start n) ≡ n = length-take-le n (drop start s) (omega (arith, length-drop start s)) in
      rw f (has-bytes (part s start n) (λ z. h (sym long ∙ z)))

pub none-absent : (s : List ℕ) {p : Part} {why : Reason} → p ≡ Err why → bytes_of s (Err why) ≡ and_then (bytes_of s p) not_empty
none-absent s f = rw f refl

-- The blob that a lookup finds, as a slice of the heap; and none.
pub blob-there : (s : Bor (List ℕ)) (i : ℕ) {p : Part} {start n : ℕ} {text : Bor (List ℕ)} → p ≡ blob_at s.now i → p ≡ Ok (record { start = start; len = n }) → CutOf text s start n
    → blob s.now i ≡ some text.now
blob-there s i {text = text} e f c =
    blob-bytes s.now i e ∙ rw f (ap some (sym (cut-is text s _ _ (blob-within s.now i (sym f ∙ e)) c).bytes))

pub blob-gone : (s : List ℕ) (i : ℕ) {p : Part} {why : Reason} → p ≡ blob_at s i → p ≡ Err why → blob s i ≡ none
blob-gone s i e f = blob-bytes s i e ∙ rw f refl
