-- Every reading of a signature goes onward: the position after it is not before where it began, and not past the end if it began
-- within. Assumes nothing.
use mathlib.Core.List.{List, [], ◌∷◌, ◌++◌}
use mathlib.Core.Option.{Option}
use Prim.Native.Nat.{ℕ, zero, suc, ◌+◌, ◌-◌, ◌/◌, ◌%◌}
use native.Mathlib.Nat.{le_refl}
use native.Mathlib.Omega.{arith}
use lib.Dec.{ltb, eqb}
use lib.ListN.{length}
use Rattle.numbers.specs.Reading.{Res, Reader}
use Rattle.numbers.proofs.Pick.{pick-lt}
use Rattle.numbers.proofs.Reading.{Ahead, Onward, give-onward, fail-onward, byte-onward, cond-onward, bind-onward}
use Rattle.numbers.proofs.Compressed.{uint-onward, sint-onward}
use Rattle.buffers.specs.Texts.{Text}
use Rattle.record.specs.Readings.{known, type_byte, attempt, times}
use Rattle.record.specs.Types.{Env, look, type_full_name, aside, counted, method_start, arguments, shown, parameters, around, class_type, generic, shape, array, modified, instance, fn_ptr, form, within, type}

stay : (s : List ℕ) (at : ℕ) → Ahead s at at
stay s at = record { from = le_refl at; within = λ h. h }

known-onward : {A : Type 0} (o : Option A) → Onward (known o)
known-onward o = record { ahead = λ s at. stay s at }

attempt-onward : {A : Type 0} {p : Reader A} → Onward p → Onward (attempt p)
attempt-onward f = record { ahead = f.ahead }

type_byte-onward : Onward type_byte
type_byte-onward = record {
  ahead = λ s at. pick-lt (λ (r : Res ℕ). Ahead s at r.next) at (length s)
      (λ h. record { from = omega arith; within = λ _. omega arith })
      (λ h. stay s at);
}

times-onward : {A : Type 0} (n : ℕ) {p : Reader A} → Onward p → Onward (times n p)
unfolding times
times-onward zero f = give-onward []
times-onward (suc n) f = bind-onward f (λ a. bind-onward (times-onward n f) (λ xs. give-onward (a ∷ xs)))

pub method_start-onward : Onward method_start
unfolding method_start counted
method_start-onward = bind-onward byte-onward (λ b. bind-onward (cond-onward (eqb (b / 16 % 2) 1) uint-onward (give-onward 0)) (λ _.
    bind-onward uint-onward (λ n. cond-onward (ltb 2000 n) fail-onward (give-onward n))))

aside-onward : {A : Type 0} (r : Res A) → Onward (aside r)
aside-onward r = record { ahead = λ s at. stay s at }

pub arguments-onward : (n i : ℕ) {p : Reader Text} → Onward p → Onward (arguments n i p)
unfolding arguments
arguments-onward zero i f = give-onward []
arguments-onward (suc n) i f = bind-onward f (λ t. bind-onward (arguments-onward n (i + 1) f) (λ ts. give-onward _))

pub parameters-onward : (n i : ℕ) {p : Reader Text} → Onward p → Onward (parameters n i p)
unfolding parameters
parameters-onward zero i f = give-onward []
parameters-onward (suc n) i f = bind-onward (attempt-onward f) (λ t. bind-onward (parameters-onward n (i + 1) f) (λ ts. give-onward (shown i t ++ ts)))

-- Every row of a table goes onward.
data Rows : List (ℕ × Reader Text) → Type 0 where
  none_left : Rows []
  and-row : {k : ℕ} {p : Reader Text} {ps : List (ℕ × Reader Text)} → Onward p → Rows ps → Rows ((k, p) ∷ ps)

look-onward : (b : ℕ) {ps : List (ℕ × Reader Text)} {d : Reader Text} → Rows ps → Onward d → Onward (look b ps d)
unfolding look
look-onward b none_left g = g
look-onward b (and-row {k = k} f r) g = cond-onward (eqb b k) f (look-onward b r g)

shape-onward : Onward shape
unfolding shape
shape-onward = bind-onward uint-onward (λ r. bind-onward uint-onward (λ n. bind-onward (times-onward n uint-onward) (λ ks.
    bind-onward uint-onward (λ m. bind-onward (times-onward m sint-onward) (λ ls. give-onward _)))))

array-onward : {p : Reader Text} → Onward p → Onward (array p)
unfolding array
array-onward f = bind-onward f (λ t. bind-onward shape-onward (λ d. give-onward _))

around-onward : (u v : Text) {p : Reader Text} → Onward p → Onward (around u v p)
unfolding around
around-onward u v f = bind-onward f (λ t. give-onward _)

instance-onward : {p : Reader Text} → Onward p → Onward (instance p)
unfolding instance
instance-onward f = bind-onward f (λ t. bind-onward uint-onward (λ n. cond-onward (ltb 1000 n) fail-onward (bind-onward (arguments-onward n 0 f) (λ ts. give-onward _))))

fn_ptr-onward : {p : Reader Text} → Onward p → Onward (fn_ptr p)
unfolding fn_ptr
fn_ptr-onward f = bind-onward method_start-onward (λ n. bind-onward f (λ t. bind-onward (parameters-onward n 0 f) (λ ts. give-onward _)))

pub form-onward : (e : Env) {d f : Reader Text} (b : ℕ) → Onward d → Onward f → Onward (form e d f b)
unfolding form class_type generic modified
form-onward e {d} {f} b hd hf = look-onward b
    (and-row (around-onward _ _ hd) (and-row (around-onward _ _ hd)
    (and-row (bind-onward uint-onward (λ i. aside-onward (type_full_name e d i))) (and-row (bind-onward uint-onward (λ i. aside-onward (type_full_name e d i)))
    (and-row (bind-onward uint-onward (λ i. known-onward _)) (and-row (array-onward hd)
    (and-row (instance-onward hf) (and-row (fn_ptr-onward hd)
    (and-row (around-onward _ _ hf) (and-row (bind-onward uint-onward (λ i. known-onward _))
    (and-row (bind-onward uint-onward (λ _. hf)) (and-row (bind-onward uint-onward (λ _. hf)) none_left))))))))))))
    (known-onward _)

pub within-onward : (e : Env) {d : Reader Text} (n : ℕ) → Onward d → Onward (within e d n)
unfolding within
within-onward e zero hd = fail-onward
within-onward e (suc n) hd = bind-onward type_byte-onward (λ b. form-onward e b hd (within-onward e n hd))

pub type-onward : (e : Env) (l : ℕ) → Onward (type e l)
unfolding type
type-onward e zero = bind-onward type_byte-onward (λ b. fail-onward)
type-onward e (suc l) = record { ahead = λ s at. (within-onward e (length s - at) (type-onward e l)).ahead s at }
