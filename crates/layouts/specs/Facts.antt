-- What the definitions imply and a reader may want to see stated. proofs/Facts.antt proves each.
use Rattle.std.specs.Prelude.{◌≡◌, Bool, true, false, List, [], ◌∷◌, ℕ, ◌+◌, ◌*◌, ◌-◌, ◌^◌, ◌<◌, get_or}
use Rattle.numbers.specs.Bits.{bit_at}
use Rattle.numbers.specs.Fixed.{TwoOrFour}
use Rattle.layouts.specs.Kinds.{decl_security}
use Rattle.layouts.specs.Columns.{Column, index_size, heap_size, index_sizes, width_in, row_size}

-- For all 256 heap sizes bytes and each of the three heaps, 2 plus twice the heap's bit is the size of an index into it.
abbrev pub HeapWidths : Type 0
HeapWidths = (heap k : ℕ) → heap < 256 → k < 3 → 2 + 2 * bit_at heap k ≡ heap_size heap k

-- Every column takes 2 or 4 bytes, and so does every index.
abbrev pub ColumnsTwoOrFour : Type 0
ColumnsTwoOrFour = (decl : Bool) (heap : ℕ) (cs : List ℕ) (c : Column) → TwoOrFour (width_in (index_sizes decl heap cs) c)

-- A row of a known table has bytes.
abbrev pub RowsHaveBytes : Type 0
RowsHaveBytes = (decl : Bool) (heap : ℕ) (cs : List ℕ) (k : ℕ) → k < 45 → 0 < row_size (width_in (index_sizes decl heap cs)) k

-- Where all tables have fewer rows than the tag leaves numbers for, an index into any of them has 2 bytes.
abbrev pub FewRows : Type 0
FewRows = (cs : List ℕ) (bits : ℕ) → ((t : ℕ) → get_or cs t 0 < 2 ^ (16 - bits)) → (ts : List ℕ) → index_size cs bits ts ≡ 2

-- With fewer than 2,048 rows of DeclSecurity, the sizes of the Rust are those of the standard.
abbrev pub FewDeclSecurity : Type 0
FewDeclSecurity = (heap : ℕ) (cs : List ℕ) → get_or cs decl_security 0 < 2048 → index_sizes true heap cs ≡ index_sizes false heap cs

-- Document 01: 2,047 Field rows keep HasCustomAttribute at 2 bytes, 2,048 make it 4.
pub record FieldRows : Type 0 where
  pub narrow : (index_sizes false 0 (0 ∷ 0 ∷ 0 ∷ 0 ∷ 2047 ∷ [])).has_custom_attribute ≡ 2
  pub wide : (index_sizes false 0 (0 ∷ 0 ∷ 0 ∷ 0 ∷ 2048 ∷ [])).has_custom_attribute ≡ 4
