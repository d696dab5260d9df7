-- A method's signature (ECMA-335 II.23.2.1), read by a class as far as its return type. The types of its parameters are read on demand,
-- from the position behind it.
use Rattle.std.specs.Prelude.{◌≡◌, true, false, List, [], ◌∷◌, ℕ, zero, suc, ◌+◌, ◌≤◌, ◌<◌, length, Some, None}
use Rattle.std.proofs.Math.Option.{Option, none, some}
use Rattle.numbers.specs.Reading.{Reader}
use Rattle.numbers.specs.Parts.{part}
use Rattle.buffers.specs.Texts.{Text}
use Rattle.buffers.specs.Writes.{Kept, Wrote}
use Rattle.classes.specs.declared.ClassNumber.{ClassNumber}
use Rattle.record.specs.Columns.{method_list}
use Rattle.record.specs.View.{View}
use Rattle.record.specs.Types.{type}
use Rattle.record.specs.Names.{env, levels, number_in, classes, class_row, method_generics}
use Rattle.record.specs.Methods.{Signature, readers_from, readers}
use Rattle.method_signatures.specs.declared.Reading.{Reading}
use Rattle.std.specs.declared.option.Option as std

-- A class that reads a method, and the class from which on others may read it too, as the code has them.
abbrev pub ClassReader : Type 0
ClassReader = std.Option (ClassNumber × ClassNumber)

-- A type in method m's signature, as a class reads it that is this owner of generic parameters.
abbrev pub type_by : View → ℕ → ℕ → Reader Text
type_by v m owner = type (env v (v.generics owner) (method_generics v m)) levels

-- The types of n parameters from a position on. One that fails is missing, and the reading goes on after the bytes it took.
unfoldable pub types_from : Reader Text → ℕ → List ℕ → ℕ → List (Option Text)
types_from type zero s at = []
types_from type (suc n) s at = (type s at).got ∷ types_from type n s (type s at).next

-- The position behind them.
unfoldable pub behind : Reader Text → ℕ → List ℕ → ℕ → ℕ
behind type zero s at = at
behind type (suc n) s at = behind type n s (type s at).next

-- No class before c reads method m.
abbrev pub ReadFrom : View → ℕ → ℕ → Type 0
ReadFrom v m c = readers v m ≡ readers_from v m c

-- Class c is there, and its first method comes after method m; or it is not there.
abbrev pub PastMethod : View → ℕ → ℕ → Type 0
PastMethod v m c = c < classes v → m + 1 < number_in v method_list (class_row v c)

-- Of the classes from c on the first that reads method m, and the class from which on the others are, which begins past the method.
abbrev pub ReaderIs : View → ℕ → ℕ → ClassReader → Type 0
ReaderIs v m c (Some found) =
    (c < found.1.0) × (found.1.0 ≤ classes v) × (readers_from v m c ≡ found.0.0 ∷ readers_from v m found.1.0) × PastMethod v m found.1.0
ReaderIs v m c None = readers_from v m c ≡ []

-- With which class the search for the readers of method m begins, by the mode: with c, which takes it; or with one before which none reads it.
abbrev pub FirstIn : View → ℕ → ℕ → ℕ → Type 0
FirstIn v c m first = (v.taker ≡ true → first ≡ c) × (v.taker ≡ false → ReadFrom v m first)

-- Who reads method m next, by the mode: the class itself; or the first from it on that reads it.
abbrev pub NextIn : View → ℕ → ClassNumber → ClassReader → Type 0
NextIn v m class r = (v.taker ≡ true → r ≡ Some (class, class)) × (v.taker ≡ false → ReaderIs v m class.0 r)

-- From the buffer b to b', r is the reading d of method m's signature: the return type was written at the place, and the parameters' types
-- follow in that part of the blob heap, as that owner's class reads them; or there is no reading, and nothing before the place changed.
pub data ReadingIs (v : View) (heap : List ℕ) (m : ℕ) (d : Option Signature) (b : List ℕ) (at : ℕ) (b' : List ℕ) : std.Option Reading → Type 0 where
  read : {r : Reading} (t : Text) → r.start + r.len ≤ length heap
      → d ≡ some (record { returns = t; parameters = types_from (type_by v m r.owner) r.count (part heap r.start r.len) r.next })
      → Wrote b at t b' r.end → ReadingIs v heap m d b at b' (Some r)
  missing : d ≡ none → Kept b at b' → ReadingIs v heap m d b at b' None
