-- Lookups in the strings heap (ECMA-335 II.24.2.3) and the blob heap (II.24.2.4), and what the raw lookup hands back.
use Rattle.std.specs.Prelude.{◌≡◌, Result, Ok, Err, ℕ, zero, suc, ◌+◌, ◌<◌, ◌≤◌, Bool, true, false, cond, List, [], ◌∷◌, length, drop, ◌==◌, ◌≢◌, nat_le, nat_lt, slice_index}
use Rattle.std.proofs.Math.Option.{Option, none, some}
use Rattle.std.specs.Borrow.{Bor}
use Rattle.numbers.specs.Compressed.{uint}
use Rattle.numbers.specs.Parts.{part, PartOf}
use Rattle.buffers.specs.Texts.{Text}
use Rattle.buffers.specs.Replies.{number, reason, Answer, value, refused_by}
use Rattle.buffers.specs.declared.Reason.{Reason}
use Rattle.buffers.specs.declared.Reason.TheVariants.{Untold, NullIndex, PastEnd, NoZero}
use Rattle.buffers.specs.declared.Refusal.{Refusal}
use Rattle.buffers.specs.declared.Refusal.TheVariants.{NoName, NotFound}
use Rattle.heaps.specs.declared.Heap.{Heap}
use Rattle.heaps.specs.declared.Heap.TheVariants.{Strings, Blobs}
use Rattle.heaps.specs.declared.Span.{Span}

-- Where in its heap the bytes of a lookup are, or why there are none, as the code has it.
abbrev pub Part : Type 0
Part = Result Span Reason

-- How many bytes stand before the first x: all of them where there is none.
unfoldable pub before : ℕ → List ℕ → ℕ
before x [] = zero
before x (b ∷ s) = cond (b == x) zero (suc (before x s))

-- That n bytes of a list are there, from a position on, and none of them is x.
pub record Without (x : ℕ) (s : List ℕ) (at n : ℕ) : Type 0 where
  pub room : at + n ≤ length s
  pub each : (i : ℕ) → i < n → slice_index s (at + i) ≢ x

-- The string at an index of the strings heap (`get_string`): the bytes up to the next zero byte. Tested in this order, it is absent
-- for index 0, for an index at or past the end, and where no zero byte follows.
unfoldable pub string_at : List ℕ → ℕ → Part
string_at s i =
    cond (i == 0) (Err NullIndex)
    (cond (nat_le (length s) i) (Err PastEnd)
    (cond (nat_lt (i + before 0 (drop i s)) (length s)) (Ok (record { start = i; len = before 0 (drop i s) })) (Err NoZero)))

-- So many bytes from a position on, where the heap has them.
unfoldable pub bytes_at : List ℕ → Option ℕ → ℕ → Part
bytes_at s none at = Err Untold
bytes_at s (some n) at = cond (nat_le (at + n) (length s)) (Ok (record { start = at; len = n })) (Err Untold)

-- The blob at an index of the blob heap (`get_blob`): a compressed length, then that many bytes. Index 0 is like any other.
unfoldable pub blob_at : List ℕ → ℕ → Part
blob_at s i = let r = uint s i in bytes_at s r.got r.next

-- The bytes that a lookup finds; none where it is absent.
abbrev pub bytes_of : List ℕ → Part → Option (List ℕ)
bytes_of s (Ok p) = some (part s p.start p.len)
bytes_of s (Err why) = none

-- A string that was looked up: a text, or missing for a reason.
pub data Name : Type 0 where
  found : Text → Name
  missing : Reason → Name

abbrev pub part_name : List ℕ → Part → Name
part_name s (Ok p) = found (part s p.start p.len)
part_name s (Err why) = missing why

unfoldable pub name : List ℕ → ℕ → Name
name s i = part_name s (string_at s i)

-- Its text, without the reason where it is missing.
abbrev pub text_of : Name → Option Text
text_of (found t) = some t
text_of (missing why) = none

unfoldable pub string : List ℕ → ℕ → Option Text
string s i = text_of (name s i)

-- Whether a value is there.
abbrev pub is_there : {A : Type 0} → Option A → Bool
is_there none = false
is_there (some a) = true

-- Why it is missing; no reason is told where it is not.
abbrev pub reason_of : Name → Reason
reason_of (found t) = Untold
reason_of (missing why) = why

-- The answer of a name that may be missing: 5 where it is, and the reason.
abbrev pub name_or_why : Name → Answer Text
name_or_why (found t) = value t
name_or_why (missing why) = refused_by (NoName why)

unfoldable pub blob : List ℕ → ℕ → Option (List ℕ)
blob s i = bytes_of s (blob_at s i)

-- What each case of a lookup says in numbers: 0 where there is something, or the number that says no, and the reason beside it; and where
-- the part begins and how long it is. Document 01 leaves the part beside a refusal free: for C it is the empty part at the start of the heap
-- that was meant.
abbrev pub part_number : Part → ℕ
part_number (Ok p) = 0
part_number (Err why) = number (NotFound why)

abbrev pub part_reason : Part → ℕ
part_reason (Ok p) = 0
part_reason (Err why) = reason (NotFound why)

abbrev pub part_start : Part → ℕ
part_start (Ok p) = p.start
part_start (Err why) = 0

abbrev pub part_length : Part → ℕ
part_length (Ok p) = p.len
part_length (Err why) = 0

-- A lookup lies in its heap.
abbrev pub Inside : List ℕ → Part → Type 0
Inside s p = part_start p + part_length p ≤ length s

-- What is handed out is the very part of s that p says, or p's reason as a refusal.
abbrev pub Handed : Result (Bor (List ℕ)) Refusal → Bor (List ℕ) → Part → Type 0
Handed (Ok r) s (Ok p) = PartOf r s p.start p.len
Handed (Ok r) s (Err why) = ⊥
Handed (Err refusal) s (Ok p) = ⊥
Handed (Err refusal) s (Err why) = refusal ≡ NotFound why

-- The raw lookup over two heaps: the very part of the heap that is meant.
abbrev pub Looked : Result (Bor (List ℕ)) Refusal → Bor (List ℕ) → Bor (List ℕ) → Heap → ℕ → Type 0
Looked r strings blobs Strings i = Handed r strings (string_at strings.now i)
Looked r strings blobs Blobs i = Handed r blobs (blob_at blobs.now i)
