-- The code's lists of tables, which have the Rust's order, give the sizes of the standard's. Assumes nothing.
use mathlib.Core.Path.{◌≡◌, refl, ap, ◌∙◌}
use mathlib.Core.Bool.{Bool, true, false, cond, ◌||◌}
use mathlib.Core.List.{List, ◌∷◌}
use Prim.Native.Nat.{ℕ, ◌-◌, ◌^◌}
use lib.Dec.{T, leb}
use lib.ListN.{get_or}
use Rattle.layouts.specs.declared.IndexSizes.{IndexSizes}
use Rattle.layouts.specs.Kinds.{decl_security}
use Rattle.layouts.specs.Columns.{reaches, index_size, has_custom_attribute}
use Rattle.layouts.proofs.Reaches.{within, reordered}

-- A size as the code finds it, from a list of the same tables.
pub sized : (cs : List ℕ) (bits : ℕ) (ts us : List ℕ) {x : ℕ} → x ≡ index_size cs bits ts → T (within ts us) → T (within us ts) → x ≡ index_size cs bits us
unfolding index_size
sized cs bits ts us e v w = e ∙ ap (λ (b : Bool). cond b 4 2) (reordered cs (2 ^ (16 - bits)) ts us v w)

-- DeclSecurity, where it counts, counts beside the others.
module _ (cs : List ℕ) where
  counted : (n : ℕ) → reaches cs n (has_custom_attribute true) ≡ (leb n (get_or cs decl_security 0) || reaches cs n (has_custom_attribute false))
  unfolding reaches has_custom_attribute
  counted n = reordered cs n (has_custom_attribute true) (decl_security ∷ has_custom_attribute false) tt tt

  pub many : (decl : Bool) → decl ≡ true → leb 2048 (get_or cs decl_security 0) ≡ true → 4 ≡ index_size cs 5 (has_custom_attribute decl)
  unfolding index_size
  many decl e h = rw (e, counted 2048, h)

  pub few : (decl : Bool) → leb 2048 (get_or cs decl_security 0) ≡ false
      → index_size cs 5 (has_custom_attribute false) ≡ index_size cs 5 (has_custom_attribute decl)
  unfolding index_size
  few true h = rw (counted 2048, h)
  few false h = refl

-- Sizes that are those of s, one by one, are s.
pub made : (s : IndexSizes)
    {x0 x1 x2 x3 x4 x5 x6 x7 x8 x9 x10 x11 x12 x13 x14 x15 x16 x17 x18 x19 x20 x21 x22 x23 x24 : ℕ}
    → x0 ≡ s.string
    → x1 ≡ s.guid
    → x2 ≡ s.blob
    → x3 ≡ s.type_def
    → x4 ≡ s.field
    → x5 ≡ s.method_def
    → x6 ≡ s.param
    → x7 ≡ s.event
    → x8 ≡ s.property
    → x9 ≡ s.module_ref
    → x10 ≡ s.assembly_ref
    → x11 ≡ s.generic_param
    → x12 ≡ s.type_def_or_ref
    → x13 ≡ s.has_constant
    → x14 ≡ s.has_custom_attribute
    → x15 ≡ s.has_field_marshall
    → x16 ≡ s.has_decl_security
    → x17 ≡ s.member_ref_parent
    → x18 ≡ s.has_semantics
    → x19 ≡ s.method_def_or_ref
    → x20 ≡ s.member_forwarded
    → x21 ≡ s.implementation
    → x22 ≡ s.custom_attribute_type
    → x23 ≡ s.resolution_scope
    → x24 ≡ s.type_or_method_def
    → ◌≡◌ {A = IndexSizes}
    (record {
      string = x0;
      guid = x1;
      blob = x2;
      type_def = x3;
      field = x4;
      method_def = x5;
      param = x6;
      event = x7;
      property = x8;
      module_ref = x9;
      assembly_ref = x10;
      generic_param = x11;
      type_def_or_ref = x12;
      has_constant = x13;
      has_custom_attribute = x14;
      has_field_marshall = x15;
      has_decl_security = x16;
      member_ref_parent = x17;
      has_semantics = x18;
      method_def_or_ref = x19;
      member_forwarded = x20;
      implementation = x21;
      custom_attribute_type = x22;
      resolution_scope = x23;
      type_or_method_def = x24;
    })
    s
made s e0 e1 e2 e3 e4 e5 e6 e7 e8 e9 e10 e11 e12 e13 e14 e15 e16 e17 e18 e19 e20 e21 e22 e23 e24 =
    rw (e0, e1, e2, e3, e4, e5, e6, e7, e8, e9, e10, e11, e12, e13, e14, e15, e16, e17, e18, e19, e20, e21, e22, e23, e24)
