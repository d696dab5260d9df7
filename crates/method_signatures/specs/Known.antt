-- What is known of a method's signature after some of its types have been read, and when that is true. It says what is still to come, and
-- nothing of what was: so it can be handed from one question to the next, whatever they ask.
use Rattle.std.specs.Prelude.{◌≡◌, List, [], ℕ, ◌+◌, ◌-◌, ◌*◌, ◌≤◌, ◌<◌, length, drop}
use Rattle.std.proofs.Math.Option.{Option}
use Rattle.numbers.specs.Parts.{part}
use Rattle.buffers.specs.Texts.{Text}
use Rattle.record.specs.Missing.{over, or_default}
use Rattle.record.specs.View.{View}
use Rattle.record.specs.Methods.{signature_in}
use Rattle.method_signatures.specs.Signatures.{type_by, types_from}
use Rattle.method_signatures.specs.declared.Reading.{Reading}
use Rattle.method_signatures.specs.declared.Signature.{Signature}

-- The types of the parameters of method m, which class c takes; none where it has no signature.
unfoldable pub types_of : View → ℕ → ℕ → List (Option Text)
types_of v c m = or_default [] (over (λ s. s.parameters) (signature_in v c m))

-- The parameters are counted, and the types from the number of those read on are those that are read from the position on.
pub record Reads (v : View) (heap : List ℕ) (c m : ℕ) (k : Signature) : Type 0 where
  pub inside : k.start + k.len ≤ length heap
  pub counted : k.count ≡ length (types_of v c m)
  pub rest : drop k.read (types_of v c m) ≡ types_from (type_by v m k.owner) (k.count - k.read) (part heap k.start k.len) k.next

-- Class c and method m as one number, which is not 0: where a method's row, from 1, is below 4294967296, no other two have it.
abbrev pub key_of : ℕ → ℕ → ℕ
key_of c m = c * 4294967296 + m + 1

-- What is known is true of the class and the method whose number it has; of number 0 it says nothing.
pub record KnowsSignature (v : View) (heap : List ℕ) (k : Signature) : Type 0 where
  pub signature : (c m : ℕ) → m + 1 < 4294967296 → k.method ≡ key_of c m → Reads v heap c m k

-- It is about method m, which class c takes.
pub record About (k : Signature) (c m : ℕ) : Type 0 where
  pub narrow : m + 1 < 4294967296
  pub method : k.method ≡ key_of c m

-- What a reading of method m, which class c takes, found, behind so many types, whose end is at a position.
abbrev pub known_behind : Reading → ℕ → ℕ → ℕ → ℕ → Signature
known_behind r c m read next = record {
  method = key_of c m;
  owner = r.owner;
  start = r.start;
  len = r.len;
  count = r.count;
  read = read;
  next = next;
}

-- What is known, after one more type, whose end is at a position.
abbrev pub read_more : Signature → ℕ → Signature
read_more k next = record {
  method = k.method;
  owner = k.owner;
  start = k.start;
  len = k.len;
  count = k.count;
  read = k.read + 1;
  next = next;
}
