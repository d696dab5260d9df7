-- The answer that a listing shows, by whether its call counts more than the ceiling. Assumes nothing.
use mathlib.Core.Path.{◌≡◌, refl, subst}
use mathlib.Core.Bool.{Bool, true, false, cond}
use Prim.Native.Nat.{ℕ}
use lib.Dec.{T}
use Rattle.buffers.specs.Replies.{Answer, refused, value}
use Rattle.record.specs.View.{View}
use Rattle.record.specs.Answers.{walk_answer, class_name, generic_name, method_name, method_generic_name, NameCall, BaseName, ReturnType, ParameterType, ParameterName, name_answer}
use Rattle.record.specs.Allowance.{name_work, is_over}
use Rattle.lines.specs.Lines.{goes_on}
use Rattle.lines.specs.Ceiling.{comes_first, beyond, listed}
use Rattle.lines.specs.Cursors.{cursor, done, next_number, after_stop, next_at, place_work, is_over_at, counts_anew}
use Rattle.lines.specs.declared.Place.{Place}
use Rattle.lines.specs.declared.Place.TheVariants.{Stop, Classes, Class, Flags, Generic, Base, Method, MethodFlags, MethodGeneric, Returns, ParamType, ParamName, Done, Packing, Size}
use Rattle.lines.specs.declared.Cursor.{Cursor}

module _ (call : NameCall) (v : View) where
  pub listed-within : is_over (name_work call v) ≡ false → listed call v ≡ name_answer call v
  unfolding listed
  listed-within e = rw e

  pub listed-beyond : is_over (name_work call v) ≡ true → listed call v ≡ beyond (comes_first call)
  unfolding listed
  listed-beyond e = rw e

-- ---- Where lines are within it

module _ (v : View) where
  -- Every line, where every name is.
  pub all-at : ((call : NameCall) → is_over (name_work call v) ≡ false) → (c : Cursor) → is_over_at v c ≡ false
  unfolding is_over_at is_over
  all-at all c = go c.place c.class.0 c.method
    where
      go : (p : Place) (k m : ℕ) → is_over_at v (cursor p k m 0) ≡ false
      go Stop k m = refl
      go Classes k m = refl
      go Class k m = refl
      go Flags k m = refl
      go Packing k m = refl
      go Size k m = refl
      go Generic k m = refl
      go Base k m = all (BaseName k 0)
      go Method k m = refl
      go MethodFlags k m = refl
      go MethodGeneric k m = refl
      go Returns k m = all (ReturnType k m)
      go ParamType k m = all (ParameterType k m 0)
      go ParamName k m = all (ParameterName k m 0)
      go Done k m = refl

  -- What a line counts, by its place.
  pub counts-at : (c : Cursor) {p : Place} → c.place ≡ p → is_over (place_work v p c.class.0 c.method) ≡ is_over_at v c
  unfolding is_over_at
  counts-at c e = rw e

  -- The next line, unless it counts something anew.
  abbrev Stays : Cursor → Type 0
  Stays d = counts_anew d.place d.i ≡ false → is_over_at v d ≡ false

  either_stays : (b : Bool) (x y : Cursor) → Stays x → Stays y → Stays (cond b x y)
  either_stays true x y f g = f
  either_stays false x y f g = g

  stays-after_stop : (a : Answer ℕ) → Stays (after_stop a)
  unfolding is_over_at is_over
  stays-after_stop (value stop) h = refl
  stays-after_stop (refused w) h = refl

  pub stays_within : (c : Cursor) → is_over_at v c ≡ false → Stays (next_at v c)
  unfolding next_at is_over_at is_over
  stays_within c within = go c.place c.class.0 c.method c.i within
    where
      go : (p : Place) (k m i : ℕ) → is_over_at v (cursor p k m i) ≡ false → Stays (next_at v (cursor p k m i))
      go Stop k m i w = stays-after_stop (walk_answer v).stop
      go Classes k m i w = λ _. refl
      go Class k m i w = either_stays (goes_on (class_name v k)) (cursor Flags k 0 0) done (λ _. refl) (λ _. refl)
      go Flags k m i w = λ _. refl
      go Packing k m i w = λ _. refl
      go Size k m i w = λ _. refl
      go Generic k m i w = either_stays (goes_on (generic_name v k i)) (cursor Generic k 0 (next_number i)) (cursor Base k 0 0) (λ _. refl) (λ h. absurd (subst T h tt))
      go Base k m i w = either_stays (goes_on (listed (BaseName k i) v)) (cursor Base k 0 (next_number i)) (cursor Method k 0 0) (λ _. w) (λ _. refl)
      go Method k m i w = either_stays (goes_on (method_name v k m)) (cursor MethodFlags k m 0) (cursor Class (next_number k) 0 0) (λ _. refl) (λ _. refl)
      go MethodFlags k m i w = λ _. refl
      go MethodGeneric k m i w = either_stays (goes_on (method_generic_name v k m i)) (cursor MethodGeneric k m (next_number i)) (cursor Returns k m 0) (λ _. refl) (λ h. absurd (subst T h tt))
      go Returns k m i w = either_stays (goes_on (listed (ReturnType k m) v)) (cursor ParamType k m 0) (cursor Method k (next_number m) 0) (λ _. w) (λ _. refl)
      go ParamType k m i w = either_stays (goes_on (listed (ParameterType k m i) v)) (cursor ParamName k m i) (cursor Method k (next_number m) 0) (λ _. w) (λ _. refl)
      go ParamName k m i w = either_stays (goes_on (listed (ParameterName k m i) v)) (cursor ParamType k m (next_number i)) (cursor Method k (next_number m) 0) (λ _. w) (λ _. refl)
      go Done k m i w = λ _. refl
