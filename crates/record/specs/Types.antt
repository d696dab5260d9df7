-- The text of a type in a signature (ECMA-335 II.23.2.12 with the tags of II.23.1.16), as `parse_sig_type`, `get_type_fullname` and
-- `parse_method_def_signature` render it.
use Rattle.std.specs.Prelude.{Bool, cond, List, [], ◌∷◌, ◌++◌, ℕ, zero, suc, ◌+◌, ◌-◌, ◌/◌, ◌%◌, ltb, eqb, length}
use Rattle.std.proofs.Math.Option.{Option, none, some}
use Rattle.numbers.specs.Reading.{Res, Reader, none_at, fail, give, ◌>>=◌, byte}
use Rattle.record.specs.Readings.{known, type_byte, attempt, times, in_blob}
use Rattle.numbers.specs.Compressed.{uint, sint}
use Rattle.buffers.specs.Texts.{Text, q}
use Rattle.record.specs.Dims.{sep, dims}

-- What a signature's names come from: the full names of TypeDef and TypeRef rows and the signatures of TypeSpec rows, each by
-- the row's number from 1, and the names of the class's and of the method's generic parameters, by their place from 0.
pub record Env : Type 0 where
  pub type_defs : ℕ → Option Text
  pub type_refs : ℕ → Option Text
  pub type_specs : ℕ → Option (List ℕ)
  pub generics : ℕ → Option Text
  pub mgenerics : ℕ → Option Text

-- What stands beside a number in a table, or d.
unfoldable pub look : {A : Type 0} → ℕ → List (ℕ × A) → A → A
look b [] d = d
look b (r ∷ rs) d = cond (eqb b r.0) r.1 (look b rs d)

-- The types that are their tag alone, II.23.1.16.
unfoldable pub names : List (ℕ × Text)
names =
    (0x01, q "void") ∷ (0x02, q "bool") ∷ (0x03, q "char") ∷ (0x04, q "sbyte") ∷
    (0x05, q "byte") ∷ (0x06, q "short") ∷ (0x07, q "ushort") ∷ (0x08, q "int") ∷
    (0x09, q "uint") ∷ (0x0A, q "long") ∷ (0x0B, q "ulong") ∷ (0x0C, q "float") ∷
    (0x0D, q "double") ∷ (0x0E, q "string") ∷ (0x16, q "TypedReference") ∷ (0x18, q "IntPtr") ∷
    (0x19, q "UIntPtr") ∷ (0x1C, q "object") ∷
    []

-- The text of such a type; missing for any other tag.
unfoldable pub simple : ℕ → Option Text
simple b = look b (each-some names) none
  where
    each-some : List (ℕ × Text) → List (ℕ × Option Text)
    each-some [] = []
    each-some (r ∷ rs) = (r.0, some r.1) ∷ each-some rs

-- A result from elsewhere: nothing is read here.
abbrev pub aside : {A : Type 0} → Res A → Reader A
aside r s at = record { got = r.got; next = at; steps = r.steps }

-- The name behind a TypeDefOrRef index (`get_type_fullname`), as a signature has it (II.23.2.8) or a column (II.24.2.6): the two low bits
-- say which table, the rest is the row. A TypeSpec row has a signature (II.23.2.14), which `type` reads.
unfoldable pub type_full_name : Env → Reader Text → ℕ → Res Text
type_full_name e type i = look (i % 4)
    ((0, known (e.type_defs (i / 4)) [] 0) ∷ (1, known (e.type_refs (i / 4)) [] 0) ∷ (2, in_blob type (e.type_specs (i / 4))) ∷ [])
    (none_at 0)

-- A reading that is refused where the test holds.
abbrev pub unless : {A : Type 0} → Bool → Reader A → Reader A
unless t p = cond t fail p

-- The number of parameters, at most 2,000.
unfoldable pub counted : Reader ℕ
counted = do
  n ← uint
  unless (ltb 2000 n) (give n)

-- What stands before a method's types, II.23.2.1 (`parse_method_def_signature`): flags, a generic count if flag 0x10 is set, the number of parameters.
unfoldable pub method_start : Reader ℕ
method_start = do
  flags ← byte
  _ ← cond (eqb (flags / 16 % 2) 1) uint (give 0)
  counted

-- Generic arguments i, i + 1, .., n of them, all of which must be there, with commas between.
unfoldable pub arguments : ℕ → ℕ → Reader Text → Reader Text
arguments zero i type = give []
arguments (suc n) i type = do
  t ← type
  ts ← arguments n (i + 1) type
  give (sep i (q ",") ++ t ++ ts)

-- Parameter i in the text of a function pointer (II.23.2.10): one that failed is left out, and so is the separator before it.
unfoldable pub shown : ℕ → Option Text → Text
shown i none = []
shown i (some t) = sep i (q ", ") ++ t

-- Parameters i, i + 1, .., n of them. One that fails does not end the reading, which goes on after the bytes it took.
unfoldable pub parameters : ℕ → ℕ → Reader Text → Reader Text
parameters zero i type = give []
parameters (suc n) i type = do
  t ← attempt type
  ts ← parameters n (i + 1) type
  give (shown i t ++ ts)

-- Below, `deeper` reads a type one level down and `same` one at this level.

-- 0x0F, 0x10, 0x1D: a type between two texts.
unfoldable pub around : Text → Text → Reader Text → Reader Text
around before behind type = do
  t ← type
  give (before ++ t ++ behind)

-- 0x11, 0x12: the name behind a TypeDefOrRef index (II.23.2.8).
unfoldable pub class_type : Env → Reader Text → Reader Text
class_type e deeper = do
  i ← uint
  aside (type_full_name e deeper i)

-- 0x13, 0x1E: the generic parameter at a place.
unfoldable pub generic : (ℕ → Option Text) → Reader Text
generic name = do
  i ← uint
  known (name i)

-- 0x15, II.23.2.12: a type with its arguments, at most 1,000.
unfoldable pub instance : Reader Text → Reader Text
instance same = do
  t ← same
  n ← uint
  unless (ltb 1000 n) do
    ts ← arguments n 0 same
    give (t ++ q "<" ++ ts ++ q ">")

-- 0x1B: a function pointer, whose signature is a method's (II.23.2.1): its return type (II.23.2.11), its parameters.
unfoldable pub fn_ptr : Reader Text → Reader Text
fn_ptr deeper = do
  n ← method_start
  t ← deeper
  ts ← parameters n 0 deeper
  give (q "FnPtr<" ++ t ++ q "(" ++ ts ++ q ")>")

-- II.23.2.13, ArrayShape: the rank, the sizes, the lower bounds.
unfoldable pub shape : Reader Text
shape = do
  rank ← uint
  n ← uint
  sizes ← times n uint
  m ← uint
  bounds ← times m sint
  give (q "[" ++ dims rank 0 sizes bounds ++ q "]")

-- 0x14: a type and the shape of an array of it.
unfoldable pub array : Reader Text → Reader Text
array deeper = do
  t ← deeper
  d ← shape
  give (t ++ d)

-- 0x1F, 0x20, II.23.2.7: a modifier is passed over.
unfoldable pub modified : Reader Text → Reader Text
modified same = do
  _ ← uint
  same

-- What follows a type byte b, II.23.1.16 (`parse_sig_type`): these tags pass on one level more or the same; the rest are their tag alone or refused.
unfoldable pub form : Env → Reader Text → Reader Text → ℕ → Reader Text
form e deeper same b = look b (
    (0x0F, around (q "Ptr<") (q ">") deeper) ∷ (0x10, around (q "ref ") [] deeper) ∷
    (0x11, class_type e deeper) ∷ (0x12, class_type e deeper) ∷
    (0x13, generic e.generics) ∷ (0x14, array deeper) ∷
    (0x15, instance same) ∷ (0x1B, fn_ptr deeper) ∷
    (0x1D, around [] (q "[]") same) ∷ (0x1E, generic e.mgenerics) ∷
    (0x1F, modified same) ∷ (0x20, modified same) ∷ [])
    (known (simple b))

-- A type at some level, where `deeper` is a type one level down. n only says that this ends: it is at least the bytes left, and any such
-- number gives the same (`within-enough` in proofs/Unfold.antt).
unfoldable pub within : Env → Reader Text → ℕ → Reader Text
within e deeper zero = fail
within e deeper (suc n) = type_byte >>= (λ b. form e deeper (within e deeper n) b)

-- A type with so many levels left: with none left the byte is read and refused. Without n its equation is
-- type e (suc l) = type_byte >>= form e (type e l) (type e (suc l)), which `type-is` in proofs/Unfold.antt proves.
unfoldable pub type : Env → ℕ → Reader Text
type e zero = type_byte >>= (λ b. fail)
type e (suc l) = λ s at. within e (type e l) (length s - at) s at
