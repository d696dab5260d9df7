-- The facts of specs/Facts.antt. Assumes nothing.
use mathlib.Core.Path.{refl}
use mathlib.Core.Bool.{Bool, true, false, cond, ◌&&◌}
use mathlib.Core.List.{List, [], ◌∷◌}
use mathlib.Core.Logic.{inl, inr, ⊎_elim}
use Prim.Native.Nat.{ℕ, zero, suc, ◌+◌, ◌*◌, ◌-◌, ◌^◌, ◌<◌}
use native.Mathlib.Nat.{not-suc-le-zero, le_of_suc-le-suc, eq-or-lt_of_le}
use native.Mathlib.Omega.{arith}
use borrow.Author.Tests.{lt-leb}
use lib.Dec.{T, eqb, eqb→eq}
use lib.ListN.{length, get_or}
use Rattle.numbers.specs.Bits.{bit_at}
use Rattle.numbers.specs.Fixed.{TwoOrFour}
use Rattle.layouts.specs.Kinds.{decl_security}
use Rattle.layouts.specs.Columns.{Column, Two, Four, String, Guid, Blob, TypeDef, Field, MethodDef, Param, Event, Property}
use Rattle.layouts.specs.Columns.{ModuleRef, AssemblyRef, GenericParam, TypeDefOrRef, HasConstant, HasCustomAttribute}
use Rattle.layouts.specs.Columns.{HasFieldMarshall, HasDeclSecurity, MemberRefParent, HasSemantics, MethodDefOrRef}
use Rattle.layouts.specs.Columns.{MemberForwarded, Implementation, CustomAttributeType, ResolutionScope, TypeOrMethodDef}
use Rattle.layouts.specs.Columns.{tables, reaches, index_size, heap_size, has_custom_attribute, index_sizes, width_in, sum_of}
use Rattle.layouts.specs.Columns.{row_size}
use Rattle.layouts.specs.Facts.{HeapWidths, ColumnsTwoOrFour, RowsHaveBytes, FewRows, FewDeclSecurity, FieldRows}
use Rattle.layouts.proofs.Reaches.{small, and_left, and_right}
use Rattle.layouts.proofs.Sizes.{few}

-- Whether a test passes at every number below n, and what that says of each.
abbrev every : (ℕ → Bool) → ℕ → Bool
every f zero = true
every f (suc n) = f n && every f n

every-at : (f : ℕ → Bool) (n : ℕ) → T (every f n) → (k : ℕ) → k < n → T (f k)
every-at f zero t k h = absurd (not-suc-le-zero h)
every-at f (suc n) t k h =
    ⊎_elim
    (λ e. rw e (and_left (f n) (every f n) t))
    (λ l. every-at f n (and_right (f n) (every f n) t) k l)
    (eq-or-lt_of_le (le_of_suc-le-suc h))

-- 2 plus twice the bit is a heap's size: one test over the 256 heap sizes bytes and the three heaps.
abbrev right : ℕ → ℕ → Bool
right heap k = eqb (2 + 2 * bit_at heap k) (heap_size heap k)

abbrev rights : ℕ → Bool
rights heap = every (right heap) 3

all_right : T (every rights 256)
unfolding heap_size bit_at
all_right = tt

pub heap-widths : HeapWidths
heap-widths heap k h l = eqb→eq _ _ (every-at (right heap) 3 (every-at rights 256 all_right heap h) k l)

two-four : (b : Bool) → TwoOrFour (cond b 4 2)
two-four true = inr refl
two-four false = inl refl

pub index-two-four : (cs : List ℕ) (bits : ℕ) (ts : List ℕ) → TwoOrFour (index_size cs bits ts)
unfolding index_size
index-two-four cs bits ts = two-four (reaches cs (2 ^ (16 - bits)) ts)

pub heap-two-four : (heap k : ℕ) → TwoOrFour (heap_size heap k)
unfolding heap_size
heap-two-four heap k = two-four (eqb (bit_at heap k) 1)

pub two-or-four : ColumnsTwoOrFour
unfolding index_sizes
two-or-four decl heap cs Two = inl refl
two-or-four decl heap cs Four = inr refl
two-or-four decl heap cs String = heap-two-four heap _
two-or-four decl heap cs Guid = heap-two-four heap _
two-or-four decl heap cs Blob = heap-two-four heap _
two-or-four decl heap cs TypeDef = index-two-four cs _ _
two-or-four decl heap cs Field = index-two-four cs _ _
two-or-four decl heap cs MethodDef = index-two-four cs _ _
two-or-four decl heap cs Param = index-two-four cs _ _
two-or-four decl heap cs Event = index-two-four cs _ _
two-or-four decl heap cs Property = index-two-four cs _ _
two-or-four decl heap cs ModuleRef = index-two-four cs _ _
two-or-four decl heap cs AssemblyRef = index-two-four cs _ _
two-or-four decl heap cs GenericParam = index-two-four cs _ _
two-or-four decl heap cs TypeDefOrRef = index-two-four cs _ _
two-or-four decl heap cs HasConstant = index-two-four cs _ _
two-or-four decl heap cs HasCustomAttribute = index-two-four cs _ _
two-or-four decl heap cs HasFieldMarshall = index-two-four cs _ _
two-or-four decl heap cs HasDeclSecurity = index-two-four cs _ _
two-or-four decl heap cs MemberRefParent = index-two-four cs _ _
two-or-four decl heap cs HasSemantics = index-two-four cs _ _
two-or-four decl heap cs MethodDefOrRef = index-two-four cs _ _
two-or-four decl heap cs MemberForwarded = index-two-four cs _ _
two-or-four decl heap cs Implementation = index-two-four cs _ _
two-or-four decl heap cs CustomAttributeType = index-two-four cs _ _
two-or-four decl heap cs ResolutionScope = index-two-four cs _ _
two-or-four decl heap cs TypeOrMethodDef = index-two-four cs _ _

width-pos : (decl : Bool) (heap : ℕ) (cs : List ℕ) (c : Column) → 0 < width_in (index_sizes decl heap cs) c
width-pos decl heap cs c = ⊎_elim (λ e. omega arith) (λ e. omega arith) (two-or-four decl heap cs c)

-- Every table has a column: one test over all of them.
abbrev full : List (List Column) → Bool
full [] = true
full ([] ∷ ts) = false
full ((c ∷ cs) ∷ ts) = full ts

full_at : (f : Column → ℕ) → ((c : Column) → 0 < f c) → (ts : List (List Column)) → T (full ts) → (k : ℕ) → k < length ts → 0 < sum_of f (get_or ts k [])
unfolding sum_of
full_at f h [] t k l = absurd (not-suc-le-zero l)
full_at f h ([] ∷ ts) t k l = absurd t
full_at f h ((c ∷ cs) ∷ ts) t zero l = omega (arith, h c)
full_at f h ((c ∷ cs) ∷ ts) t (suc k) l = full_at f h ts t k (le_of_suc-le-suc l)

pub size-pos : RowsHaveBytes
unfolding row_size tables
size-pos decl heap cs k h = full_at (width_in (index_sizes decl heap cs)) (width-pos decl heap cs) tables tt k h

pub few-rows : FewRows
unfolding index_size
few-rows cs bits h ts = rw (small cs (2 ^ (16 - bits)) h ts)

pub few-decl-security : FewDeclSecurity
unfolding index_sizes
few-decl-security heap cs h = rw (few cs true (lt-leb 2048 (get_or cs decl_security 0) h))

pub field-rows : FieldRows
unfolding index_sizes index_size reaches has_custom_attribute
field-rows = record { narrow = refl; wide = refl }
