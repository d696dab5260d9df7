-- Types inside of generic types at one level (II.23.2.12), by a stack of frames: what is still to be read and written behind a type that
-- ends. `FramesRead` says that reading by frames is the recursion of the definition.
use Rattle.std.specs.Prelude.{◌≡◌, List, [], ◌∷◌, ◌++◌, ◌⊎◌, Bool, true, false, cond, ℕ, zero, suc, ◌+◌, ◌-◌, ◌<◌, ◌≤◌, eqb, ltb, length, get_or, Result, Ok, Err}
use Rattle.std.proofs.Math.Option.{Option, none, some}
use Rattle.numbers.specs.Reading.{Res, Reader, some_at, none_at, give, after, ◌>>=◌}
use Rattle.numbers.specs.Compressed.{uint}
use Rattle.buffers.specs.Texts.{Text, q}
use Rattle.buffers.specs.Writes.{Kept, Wrote}
use Rattle.record.specs.Types.{arguments, instance}
use Rattle.shapes.specs.Runs.{brackets, SameLevel, Plain}
use Rattle.sig_leaves.specs.Leaves.{argument_count}
use Rattle.frames.specs.declared.Ended.{Ended}
use Rattle.frames.specs.declared.Ended.TheVariants as ended
use Rattle.frames.specs.declared.Descent.{Descent}
use Rattle.frames.specs.declared.Ascent.{Ascent}
use Rattle.frames.specs.declared.Ascent.TheVariants as ascent

-- Two readings one after the other, and their texts joined.
unfoldable pub joined : Reader Text → Reader Text → Reader Text
joined p r = do
  t ← p
  u ← r
  give (t ++ u)

-- A text that may be missing, behind another; and a result with a text before its own.
abbrev pub behind_text : Text → Option Text → Option Text
behind_text t none = none
behind_text t (some u) = some (t ++ u)

abbrev pub before : Text → Res Text → Res Text
before u r = record { got = behind_text u r.got; next = r.next; steps = r.steps }

-- The arguments of a generic type in angle brackets: what `instance` reads after its first type.
unfoldable pub argument_list : Reader Text → Reader Text
argument_list type = do
  n ← argument_count
  ts ← arguments n 0 type
  give (q "<" ++ ts ++ q ">")

-- What follows an argument that is not the last: n more.
unfoldable pub more_arguments : ℕ → Reader Text → Reader Text
more_arguments n type = joined (arguments n 1 type) (give (q ">"))

-- A frame is a number. 0: the first type of a generic type is read. 1 to 1,000: an argument is read, and so many of them, this one
-- included, have not ended. Above: so many pairs of brackets follow as it is above.
abbrev pub first_type : ℕ
first_type = 0

abbrev pub most_arguments : ℕ
most_arguments = 1000

abbrev pub pairs : ℕ → ℕ
pairs n = most_arguments + n

-- What a frame asks for behind a type that has ended.
unfoldable pub ends : Reader Text → ℕ → Reader Text
ends type v =
    cond (eqb v first_type) (argument_list type)
    (cond (ltb most_arguments v) (give (brackets (v - most_arguments))) (more_arguments (v - 1) type))

-- What all frames ask for, the innermost first.
unfoldable pub rest : Reader Text → List ℕ → Reader Text
rest type [] = give []
rest type (v ∷ vs) = joined (ends type v) (rest type vs)

-- A type, and behind it what all frames ask for.
abbrev pub whole : Reader Text → List ℕ → Reader Text
whole type vs = joined type (rest type vs)

-- The frames in use are the first n of an array, the innermost last.
unfoldable pub stack : List ℕ → ℕ → List ℕ
stack a zero = []
stack a (suc n) = get_or a n 0 ∷ stack a n

-- 0x1F or 0x20 stands at the position.
pub record Modifier (s : List ℕ) (at : ℕ) : Type 0 where
  pub inside : at < length s
  pub tag : (get_or s at 0 ≡ 0x1F) ⊎ (get_or s at 0 ≡ 0x20)

-- What a reading of types says of the four tags that keep the level.
pub record Level (type : Reader Text) : Type 0 where
  pub same : SameLevel type
  pub generic : (s : List ℕ) (at : ℕ) → at < length s → get_or s at 0 ≡ 0x15 → type s at ≡ after 1 (instance type s (at + 1))

-- What a type with frames behind it comes to, by the tag that begins it. Here and below all are equations of results: text, position and
-- type bytes.
pub record Begins (type : Reader Text) : Type 0 where
  pub alone : (s : List ℕ) (at : ℕ) → whole type [] s at ≡ type s at
  pub generic : (vs s : List ℕ) (at : ℕ) → at < length s → get_or s at 0 ≡ 0x15
      → whole type vs s at ≡ after 1 (whole type (first_type ∷ vs) s (at + 1))
  pub vector : (vs s : List ℕ) (at : ℕ) → at < length s → get_or s at 0 ≡ 0x1D
      → whole type vs s at ≡ after 1 (whole type (pairs 1 ∷ vs) s (at + 1))
  pub modifier : (vs s : List ℕ) (at : ℕ) → Modifier s at → {v next : ℕ} → uint s (at + 1) ≡ some_at v next
      → whole type vs s at ≡ after 1 (whole type vs s next)
  pub torn : (vs s : List ℕ) (at : ℕ) → Modifier s at → {next : ℕ} → uint s (at + 1) ≡ none_at next
      → whole type vs s at ≡ after 1 (none_at next)

-- What a frame comes to where a type has ended.
pub record Finishes (type : Reader Text) : Type 0 where
  pub uncounted : (s : List ℕ) (at : ℕ) {next : ℕ} → none_at next ≡ argument_count s at → ends type first_type s at ≡ none_at next
  pub empty : (s : List ℕ) (at : ℕ) {next : ℕ} → some_at 0 next ≡ argument_count s at → ends type first_type s at ≡ some_at (q "<>") next
  pub counted : (s : List ℕ) (at : ℕ) {n next : ℕ} → 0 < n → n ≤ most_arguments → some_at n next ≡ argument_count s at
      → ends type first_type s at ≡ before (q "<") (joined type (ends type n) s next)
  pub argument : (s : List ℕ) (at v : ℕ) → 1 < v → v ≤ most_arguments
      → ends type v s at ≡ before (q ",") (joined type (ends type (v - 1)) s at)
  pub last : (s : List ℕ) (at : ℕ) → ends type 1 s at ≡ some_at (q ">") at
  pub bracketed : (s : List ℕ) (at v : ℕ) → most_arguments < v → ends type v s at ≡ some_at (brackets (v - most_arguments)) at
  pub paired : (vs s : List ℕ) (at v : ℕ) → most_arguments < v → rest type (pairs 1 ∷ v ∷ vs) s at ≡ rest type ((v + 1) ∷ vs) s at

-- Reading by frames is the recursion of the definition, for every reading of types that says so of the four tags.
abbrev pub FramesRead : Type 0
FramesRead = (type : Reader Text) → Finishes type × (Level type → Begins type)

-- A frame v at the end of a type: it has ended too, with u; or an argument follows behind u, and the frame is now another; or the
-- reading fails.
pub data Ends (s : List ℕ) (pos v : ℕ) (b : List ℕ) (at : ℕ) (b' : List ℕ) : Result Ended ℕ → Type 0 where
  closed : {k p : ℕ} (u : Text) → Wrote b at u b' k → pos ≤ p → ((type : Reader Text) → ends type v s pos ≡ some_at u p)
      → Ends s pos v b at b' (Ok (ended.Closed k p))
  next : {k p w : ℕ} (u : Text) → Wrote b at u b' k → pos ≤ p → ((type : Reader Text) → ends type v s pos ≡ before u (joined type (ends type w) s p))
      → Ends s pos v b at b' (Ok (ended.Next k p w))
  broken : {p : ℕ} → Kept b at b' → ((type : Reader Text) → ends type v s pos ≡ none_at p) → Ends s pos v b at b' (Err p)

-- All frames at the end of a type, and the array after it.
pub data Ascends (s : List ℕ) (pos : ℕ) (vs : List ℕ) (used : ℕ) (b : List ℕ) (at : ℕ) (b' : List ℕ) (a' : List ℕ) : Result Ascent ℕ → Type 0 where
  more : {k p n : ℕ} (u : Text) → Wrote b at u b' k → pos ≤ p → n ≤ used
      → ((type : Reader Text) → rest type vs s pos ≡ before u (whole type (stack a' n) s p)) → Ascends s pos vs used b at b' a' (Ok (ascent.More k p n))
  over : {k p : ℕ} (u : Text) → Wrote b at u b' k → ((type : Reader Text) → rest type vs s pos ≡ some_at u p)
      → Ascends s pos vs used b at b' a' (Ok (ascent.Over k p))
  broken : {p : ℕ} → Kept b at b' → ((type : Reader Text) → rest type vs s pos ≡ none_at p) → Ascends s pos vs used b at b' a' (Err p)

-- A type and what follows it is another type and what follows that, m type bytes later.
pub record Moves (s : List ℕ) (pos : ℕ) (vs : List ℕ) (m p : ℕ) (ws : List ℕ) : Type 0 where
  pub is : (type : Reader Text) → Level type → whole type vs s pos ≡ after m (whole type ws s p)

-- None of the four tags stands at the position.
pub record Other (s : List ℕ) (at : ℕ) : Type 0 where
  pub plain : Plain s at
  pub no-generic : at < length s → get_or s at 0 ≡ 0x15 → ⊥

-- Where the tags have been passed up to: to a type that begins with none of them; or to one for which no frame is free.
pub data Halts (s : List ℕ) (at n room : ℕ) : Bool → Type 0 where
  other : Other s at → Halts s at n room false
  full : (Other s at → ⊥) → n ≡ room → Halts s at n room true

-- The tags that keep the level before a type are passed, and the frames that they ask for are put on the stack.
pub data Descends (s : List ℕ) (pos : ℕ) (vs : List ℕ) (used : ℕ) (a' : List ℕ) : Result Descent (ℕ × ℕ) → Type 0 where
  arrived : {d : Descent} → pos ≤ d.at → d.used + pos ≤ used + d.at → d.used ≤ length a' → Moves s pos vs d.passed d.at (stack a' d.used)
      → Halts s d.at d.used (length a') d.full → Descends s pos vs used a' (Ok d)
  broken : {p m : ℕ} → ((type : Reader Text) → Level type → whole type vs s pos ≡ after m (none_at p))
      → Descends s pos vs used a' (Err (p, m))

-- The frames in use ask for one pair of brackets and then for what others asked for.
pub record Paired (vs : List ℕ) (used : ℕ) (a' : List ℕ) (n : ℕ) : Type 0 where
  pub room : n ≤ used + 1
  pub is : (type : Reader Text) (s : List ℕ) (at : ℕ) → rest type (pairs 1 ∷ vs) s at ≡ rest type (stack a' n) s at
