-- The listing shows no reason. Assumes nothing.
use mathlib.Core.Path.{◌≡◌, refl, ap, ap₂}
use mathlib.Core.List.{List, [], ◌∷◌, ◌++◌, map}
use Prim.Native.Nat.{ℕ, suc, ◌+◌}
use mathlib.Core.Bool.{Bool, true, false}
use lib.ListN.{length}
use Rattle.buffers.specs.Texts.{Text, q}
use Rattle.heaps.specs.Lookups.{Name, found, missing, text_of}
use Rattle.record.specs.View.{View}
use Rattle.record.specs.Record.{Method, Class}
use Rattle.record.specs.Allowance.{method_work, is_over}
use Rattle.lines.specs.Lines.{value_line}
use Rattle.lines.specs.Listing.{each, each_from, signature_lines, method_lines, class_lines, record_lines}
use Rattle.lines.specs.Reasons.{untold, untold_method, untold_class, ReasonsDoNotShow}

text_same : (n : Name) → text_of (untold n) ≡ text_of n
text_same (found t) = refl
text_same (missing why) = refl

-- What each item gives is the same of items that are changed so.
module _ {A : Type 0} (f : A → Text) (g : A → A) (same : (a : A) → f (g a) ≡ f a) where
  each_same : (l : List A) → each f (map g l) ≡ each f l
  unfolding each
  each_same [] = refl
  each_same (a ∷ l) = ap₂ ◌++◌ (same a) (each_same l)

names_same : (key : Text) (l : List Name) → each (λ n. value_line key (text_of n)) (map untold l) ≡ each (λ n. value_line key (text_of n)) l
names_same key = each_same (λ n. value_line key (text_of n)) untold (λ n. ap (value_line key) (text_same n))

-- The same of items that are shown with their numbers.
from-same : {A : Type 0} (f : ℕ → A → Text) (g : A → A) → ((i : ℕ) (a : A) → f i (g a) ≡ f i a) → (i : ℕ) (l : List A)
    → each_from f i (map g l) ≡ each_from f i l
unfolding each_from
from-same f g same i [] = refl
from-same f g same i (a ∷ l) = ap₂ ◌++◌ (same i a) (from-same f g same (i + 1) l)

signature-same : (over : Bool) (m : Method) → signature_lines over (untold_method m) ≡ signature_lines over m
unfolding signature_lines
signature-same true m = refl
signature-same false m = refl

method-same : (v : View) (c i : ℕ) (m : Method) → method_lines v c i (untold_method m) ≡ method_lines v c i m
unfolding method_lines
method-same v c i m =
    rw (text_same m.name, names_same (q "mgeneric=") m.generics, signature-same (is_over (method_work v c i)) m)

class_same : (v : View) (i : ℕ) (c : Class) → class_lines v i (untold_class c) ≡ class_lines v i c
unfolding class_lines
class_same v i c =
    rw (text_same c.name, names_same (q "generic=") c.generics, from-same (method_lines v i) untold_method (method-same v i) 0 c.methods)

long_same : {A : Type 0} (g : A → A) (l : List A) → length (map g l) ≡ length l
long_same g [] = refl
long_same g (a ∷ l) = ap suc (long_same g l)

pub reasons-do-not-show : ReasonsDoNotShow
unfolding record_lines
reasons-do-not-show v stop l = rw (long_same untold_class l, from-same (class_lines v) untold_class (class_same v) 0 l)
