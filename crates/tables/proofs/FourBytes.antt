-- Which indices can have 4 bytes: the laws behind `FourBytes`. Assumes nothing.
use mathlib.Core.Path.{◌≡◌, refl}
use mathlib.Core.Bool.{Bool, true, false}
use mathlib.Core.List.{List}
use mathlib.Core.Logic.{inl, inr}
use Prim.Native.Nat.{ℕ, ◌≤◌}
use native.Mathlib.Omega.{arith}
use lib.ListN.{length, get_or}
use Rattle.numbers.specs.Bits.{bit_at, ones_below}
use Rattle.numbers.specs.Fixed.{le_at}
use Rattle.numbers.specs.Lists.{tabulate}
use Rattle.header.specs.Stream.{row_count, over_limit, opened}
use Rattle.header.specs.declared.Options.{Options}
use Rattle.header.proofs.Cases.{all-counted}
use Rattle.layouts.specs.Columns.{Column, Two, Four, String, Guid, Blob, TypeDef, Field, MethodDef, Param, Event, Property}
use Rattle.layouts.specs.Columns.{ModuleRef, AssemblyRef, GenericParam, TypeDefOrRef, HasConstant, HasCustomAttribute}
use Rattle.layouts.specs.Columns.{HasFieldMarshall, HasDeclSecurity, MemberRefParent, HasSemantics, MethodDefOrRef}
use Rattle.layouts.specs.Columns.{MemberForwarded, Implementation, CustomAttributeType, ResolutionScope, TypeOrMethodDef}
use Rattle.layouts.specs.Columns.{reaches, index_size, has_custom_attribute, index_sizes, width_in}
use Rattle.layouts.proofs.Facts.{few-rows}
use Rattle.tables.specs.Extents.{counted}
use Rattle.tables.specs.Partition.{by_rows, OfThree, old_limit, width_of, FourBytes}
use Rattle.tables.proofs.Places.{stands}

-- Where no count is over the old limit, none reaches 16,384: an index with two bits of tag or fewer has 2 bytes.
module _ (cs : List ℕ) (few : (t : ℕ) → get_or cs t 0 ≤ old_limit) where
  pub no-tag : (ts : List ℕ) → index_size cs 0 ts ≡ 2
  no-tag = few-rows cs 0 (λ t. omega (arith, few t))

  pub one_bit : (ts : List ℕ) → index_size cs 1 ts ≡ 2
  one_bit = few-rows cs 1 (λ t. omega (arith, few t))

  pub two-bits : (ts : List ℕ) → index_size cs 2 ts ≡ 2
  two-bits = few-rows cs 2 (λ t. omega (arith, few t))

-- What the counts do to a column: nothing, nothing up to that limit, or it is one of the three.
data Sort (c : Column) : Type 0 where
  Fixed : by_rows c ≡ false
      → ((decl : Bool) (heap : ℕ) (cs ds : List ℕ) → width_in (index_sizes decl heap cs) c ≡ width_in (index_sizes decl heap ds) c) → Sort c
  Narrow : by_rows c ≡ true
      → ((decl : Bool) (heap : ℕ) (cs : List ℕ) → ((t : ℕ) → get_or cs t 0 ≤ old_limit) → width_in (index_sizes decl heap cs) c ≡ 2) → Sort c
  Wide : by_rows c ≡ true → OfThree c → Sort c

sort : (c : Column) → Sort c
unfolding index_sizes
sort Two = Fixed refl (λ decl heap cs ds. refl)
sort Four = Fixed refl (λ decl heap cs ds. refl)
sort String = Fixed refl (λ decl heap cs ds. refl)
sort Guid = Fixed refl (λ decl heap cs ds. refl)
sort Blob = Fixed refl (λ decl heap cs ds. refl)
sort TypeDef = Narrow refl (λ decl heap cs few. no-tag cs few _)
sort Field = Narrow refl (λ decl heap cs few. no-tag cs few _)
sort MethodDef = Narrow refl (λ decl heap cs few. no-tag cs few _)
sort Param = Narrow refl (λ decl heap cs few. no-tag cs few _)
sort Event = Narrow refl (λ decl heap cs few. no-tag cs few _)
sort Property = Narrow refl (λ decl heap cs few. no-tag cs few _)
sort ModuleRef = Narrow refl (λ decl heap cs few. no-tag cs few _)
sort AssemblyRef = Narrow refl (λ decl heap cs few. no-tag cs few _)
sort GenericParam = Narrow refl (λ decl heap cs few. no-tag cs few _)
sort TypeDefOrRef = Narrow refl (λ decl heap cs few. two-bits cs few _)
sort HasConstant = Narrow refl (λ decl heap cs few. two-bits cs few _)
sort HasCustomAttribute = Wide refl (inl refl)
sort HasFieldMarshall = Narrow refl (λ decl heap cs few. one_bit cs few _)
sort HasDeclSecurity = Narrow refl (λ decl heap cs few. two-bits cs few _)
sort MemberRefParent = Wide refl (inr (inl refl))
sort HasSemantics = Narrow refl (λ decl heap cs few. one_bit cs few _)
sort MethodDefOrRef = Narrow refl (λ decl heap cs few. one_bit cs few _)
sort MemberForwarded = Narrow refl (λ decl heap cs few. one_bit cs few _)
sort Implementation = Narrow refl (λ decl heap cs few. two-bits cs few _)
sort CustomAttributeType = Wide refl (inr (inr refl))
sort ResolutionScope = Narrow refl (λ decl heap cs few. two-bits cs few _)
sort TypeOrMethodDef = Narrow refl (λ decl heap cs few. one_bit cs few _)

only-three : (o : Options) (s : List ℕ) (c : Column) → o.limit ≤ old_limit → by_rows c ≡ true → width_of o s c ≡ 4 → OfThree c
only-three o s c l b e = go (sort c)
  where
    go : Sort c → OfThree c
    go (Fixed f g) = let z : ◌≡◌ {A = ℕ} 0 1 = cc in absurd (omega arith)
    go (Narrow f g) = absurd (omega (arith, g (counted o (opened o s)) (opened o s).heap (opened o s).counts (λ t. omega (arith, all-counted o s t))))
    go (Wide f three) = three

by-no-count : (decl : Bool) (heap : ℕ) (cs ds : List ℕ) (c : Column) → by_rows c ≡ false
    → width_in (index_sizes decl heap cs) c ≡ width_in (index_sizes decl heap ds) c
by-no-count decl heap cs ds c b = go (sort c)
  where
    go : Sort c → width_in (index_sizes decl heap cs) c ≡ width_in (index_sizes decl heap ds) c
    go (Fixed f g) = g decl heap cs ds
    go (Narrow f g) = let z : ◌≡◌ {A = ℕ} 0 1 = cc in absurd (omega arith)
    go (Wide f three) = let z : ◌≡◌ {A = ℕ} 0 1 = cc in absurd (omega arith)

pub four_bytes : FourBytes
unfolding opened over_limit row_count tabulate bit_at ones_below le_at index_sizes index_size reaches has_custom_attribute
four_bytes =
    record {
      only = only-three;
      attribute = (refl, refl);
      parent = (refl, refl);
      type = (refl, refl);
      others = by-no-count;
      sums = λ o s k l r. (stands o (opened o s) (length s) k l r).sized;
    }
