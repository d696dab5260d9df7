-- What is claimed of reasons (2026-02, "Say why a string is missing"): each sentence of the request stands above what says it.
-- proofs/Reasons.antt proves them. That the listing shows no reason is stated where the listing is (lines/Reasons.antt).
use Rattle.std.specs.Prelude.{◌≡◌, ◌⊎◌, ◌≢◌, Bool, true, false, List, [], ◌∷◌, map, ℕ, ◌+◌, ◌≤◌, ◌<◌, length, take, drop}
use Rattle.numbers.specs.Parts.{part}
use Rattle.buffers.specs.Texts.{q}
use Rattle.buffers.specs.Replies.{Refused, refused, refused_by}
use Rattle.buffers.specs.declared.Reason.{Reason}
use Rattle.buffers.specs.declared.Reason.TheVariants.{NullIndex, PastEnd, NoZero}
use Rattle.buffers.specs.declared.Refusal.TheVariants.{NoName}
use Rattle.heaps.specs.Lookups.{before, string_at, blob_at, part_number, part_reason, found, missing, name, text_of}
use Rattle.header.specs.declared.Options.{Options}
use Rattle.header.specs.Stream.{base}
use Rattle.record.specs.Columns.{type_name}
use Rattle.record.specs.View.{View, view}
use Rattle.record.specs.Names.{name_in, classes, class_index, class_row, class_full_name, class_named}
use Rattle.record.specs.Record.{class_record}
use Rattle.record.specs.Answers.{walk_answer, NumberCall, number_answer, NameCall, name_answer, ClassName, GenericName, BaseName, MethodName, MethodGenericName, ReturnType, ParameterType, ParameterName, ModuleName, ModuleRefName, AssemblyName, AssemblyCulture, AssemblyRefName, AssemblyRefKey, ConstantValue, Typelib, class_name}
use Rattle.record.specs.Cases.{whole_tables, whole_strings}

-- "The string lookup shall tell three things apart, tested in this order: index 0, an index at or past the end, and a string with no
-- closing zero."
pub record ThreeReasons (s : List ℕ) (i : ℕ) : Type 0 where
  pub null : i ≡ 0 → name s i ≡ missing NullIndex
  pub past : i ≢ 0 → length s ≤ i → name s i ≡ missing PastEnd
  pub unclosed : i ≢ 0 → i < length s → length s ≤ i + before 0 (drop i s) → name s i ≡ missing NoZero
  pub closed : i ≢ 0 → i + before 0 (drop i s) < length s → name s i ≡ found (part s i (before 0 (drop i s)))

abbrev pub StringReasons : Type 0
StringReasons = (s : List ℕ) (i : ℕ) → ThreeReasons s i

-- A reason that is told is one of the three.
abbrev pub Told : ℕ → Type 0
Told reason = (1 ≤ reason) × (reason ≤ 3)

-- "7 for a string carries the reason", "7 for a blob does not".
abbrev pub LookupReasons : Type 0
LookupReasons =
    (s : List ℕ) (i : ℕ) → (part_number (string_at s i) ≡ 7 → Told (part_reason (string_at s i))) × (part_reason (blob_at s i) ≡ 0)

-- "Class, method or generic name": the calls whose 5 carries the reason. Generic names are those of classes and of methods.
abbrev pub tells_reason : NameCall → Bool
tells_reason (ClassName c) = true
tells_reason (GenericName c g) = true
tells_reason (BaseName c b) = false
tells_reason (MethodName c m) = true
tells_reason (MethodGenericName c m g) = true
tells_reason (ReturnType c m) = false
tells_reason (ParameterType c m p) = false
tells_reason (ParameterName c m p) = false
tells_reason ModuleName = false
tells_reason (ModuleRefName i) = false
tells_reason AssemblyName = false
tells_reason AssemblyCulture = false
tells_reason (AssemblyRefName i) = false
tells_reason (AssemblyRefKey i) = false
tells_reason (ConstantValue i) = false
tells_reason Typelib = false

-- "5 for those names carries the reason": always one of the three.
abbrev pub ReasonTold : Type 0
ReasonTold =
    (o : Options) (t strings blob : List ℕ) (call : NameCall) (w : Refused) → tells_reason call ≡ true
    → name_answer call (view o t strings blob) ≡ refused w → w.number ≡ 5 → Told w.reason

-- "5 for types and parameter names does not", nor does any other number of a call, nor a call for a number, nor the walk.
abbrev pub ReasonUntold : Type 0
ReasonUntold =
    (o : Options) (t strings blob : List ℕ)
    → ((call : NameCall) (w : Refused) → name_answer call (view o t strings blob) ≡ refused w
    → (tells_reason call ≡ false) ⊎ (w.number ≢ 5) → w.reason ≡ 0)
    × ((call : NumberCall) (w : Refused) → number_answer call (view o t strings blob) ≡ refused w → w.reason ≡ 0)
    × ((w : Refused) → (walk_answer (view o t strings blob)).stop ≡ refused w → w.reason ≡ 0)

-- "A missing class name passes the reason up": a listed class has no name exactly where its own name column finds no string, and for that
-- reason. So neither a missing namespace, nor a missing name around it, nor a name that is empty once it is cut makes its name missing.
abbrev pub OwnReason : Type 0
OwnReason =
    (o : Options) (t strings blob : List ℕ) (c : ℕ) (why : Reason) → let v = view o t strings blob in c < classes v
    → (class_named v c ≡ missing why → name_in v type_name (class_row v c) ≡ missing why)
    × (name_in v type_name (class_row v c) ≡ missing why → class_named v c ≡ missing why)

-- The text of a class's name is the full name that signatures, namespaces and base types go by.
abbrev pub NamesAgree : Type 0
NamesAgree = (v : View) (c : ℕ) → text_of (class_named v c) ≡ class_full_name v (class_index c)

-- Smallest inputs: a heap of four bytes at each index, and one of none; the whole case of document 01 with its strings cut before its
-- class's name and within it, and with a name that is cut to nothing.
pub record SmallestReasons : Type 0 where
  pub four :
      map (name (0x00 ∷ 0x41 ∷ 0x00 ∷ 0x42 ∷ [])) (0 ∷ 1 ∷ 2 ∷ 3 ∷ 4 ∷ 5 ∷ [])
      ≡ missing NullIndex ∷ found (q "A") ∷ found [] ∷ missing NoZero ∷ missing PastEnd ∷ missing PastEnd ∷ []
  pub none : map (name []) (0 ∷ 1 ∷ []) ≡ missing NullIndex ∷ missing PastEnd ∷ []
  pub before-it : class_name (view base whole_tables (take 5 whole_strings) []) 0 ≡ refused_by (NoName PastEnd)
  pub within-it : class_name (view base whole_tables (take 6 whole_strings) []) 0 ≡ refused_by (NoName NoZero)
  pub to-nothing :
      map (λ k. k.name) (class_record (view base whole_tables (0x00 ∷ 0x41 ∷ 0x00 ∷ 0x4E ∷ 0x00 ∷ 0x60 ∷ 0x31 ∷ 0x00 ∷ []) []))
      ≡ found (q "N.") ∷ []
