-- The proof that the listing line by line is the listing, and in how many steps. Assumes nothing.
use mathlib.Core.Path.{◌≡◌, refl, sym, ◌∙◌, ap, subst}
use mathlib.Core.Bool.{Bool, true, false, cond}
use mathlib.Core.List.{List, [], ◌∷◌, ◌++◌, append_assoc, append-nil}
use mathlib.Core.Option.{Option, none, some}
use Prim.Native.Nat.{ℕ, zero, suc, ◌+◌, ◌*◌, ◌<◌, ◌≤◌}
use native.Mathlib.Omega.{arith}
use lib.ListN.{length, get_elem?}
use Rattle.buffers.specs.Texts.{Text, q}
use Rattle.buffers.specs.Replies as replies
use Rattle.buffers.specs.Replies.{Answer, refused, refused_by, value, name_or_5}
use Rattle.buffers.specs.declared.Refusal.{Refusal}
use Rattle.buffers.specs.declared.Refusal.TheVariants.{NoSuchRow, TooManySteps}
use Rattle.heaps.specs.Lookups.{Name, found, missing, text_of, name_or_why}
use Rattle.tables.specs.Extents.{walk_by}
use Rattle.record.specs.Missing.{over}
use Rattle.record.specs.View.{ClassLayout, View}
use Rattle.record.specs.Record.{Parameter, Method, Class, class_record}
use Rattle.record.specs.Answers.{◌⟫◌, or_no_row, walk_answer, the_classes, the_class, the_method, class_count, class_flags, class_packing, class_size, class_name, generic_name, base_name, method_name, method_flags, method_generic_name, return_type, parameter_type, parameter_name}
use Rattle.record.specs.Answers.{BaseName, ReturnType, ParameterType, ParameterName}
use Rattle.record.specs.Allowance.{base_work, method_work, is_over}
use Rattle.lines.specs.Lines.{value_line, spent_line, missing_line, refused_line, number_or_key, answer_line, or_key_line, name_line, goes_on}
use Rattle.lines.specs.Listing.{each, each_from, parameter_lines, signature_lines, method_lines, base_lines, class_lines, record_lines, listing}
use Rattle.lines.specs.Cursors.{cursor, first, done, next_number, stop_line, after_stop, line_at, next_at, Steps, here, onward}
use Rattle.lines.specs.declared.Place.TheVariants.{Class as AtClass, Generic, Base, Method as AtMethod, MethodGeneric, Returns, ParamType}
use Rattle.lines.specs.declared.Cursor.{Cursor}
use Rattle.lines.proofs.Ceiling.{listed-within, listed-beyond}
use Rattle.std.specs.Prelude.{Ok, Err}
use Rattle.header.specs.Stream.{Opened}

-- Nothing that the record counts has more items than a table has rows, and one more for the type that a class extends. (Few.antt shows
-- it.) So the listing has an end that can be counted to, and no number of a cursor comes near its 32 bits.
abbrev pub most : ℕ
most = 15_001

abbrev pub Few : {A : Type 0} → List A → Type 0
Few l = length l ≤ most

pub record FewInMethod (m : Method) : Type 0 where
  pub generics : Few m.generics
  pub parameters : Few m.parameters

pub record FewInClass (c : Class) : Type 0 where
  pub generics : Few c.generics
  pub bases : Few c.bases
  pub methods : Few c.methods
  pub each : (i : ℕ) (m : Method) → get_elem? c.methods i ≡ some m → FewInMethod m

pub record FewIn (v : View) : Type 0 where
  pub classes : Few (class_record v)
  pub each : (i : ℕ) (c : Class) → get_elem? (class_record v) i ≡ some c → FewInClass c

-- At most n steps from one cursor to another, and the text of their lines.
pub data Within (v : View) : ℕ → Cursor → Text → Cursor → Type 0 where
  stay : {n : ℕ} {c : Cursor} → Within v n c [] c
  go : {n : ℕ} {c d : Cursor} {t : Text} → Within v n (next_at v c) t d → Within v (suc n) c (line_at v c ++ t) d

module _ {v : View} where
  pub the-steps : {n : ℕ} {c d : Cursor} {t : Text} → Within v n c t d → Steps v c t d
  the-steps stay = here
  the-steps (go s) = onward (the-steps s)

  pub fewer : {m n : ℕ} {c d : Cursor} {t : Text} → m ≤ n → Within v m c t d → Within v n c t d
  fewer h stay = stay
  fewer {n = zero} h (go s) = absurd (omega arith)
  fewer {n = suc n} h (go s) = go {n = n} (fewer (omega arith) s)

  -- Steps one after the other, and one more step in front.
  pub then : {m n : ℕ} {a b c : Cursor} {t u : Text} → Within v m a t b → Within v n b u c → Within v (m + n) a (t ++ u) c
  then stay r = fewer (omega arith) r
  then {n = k} {c = e} {u = u} (go {n} {c} {d} {t} s) r =
      fewer (omega arith) (subst (λ (x : Text). Within v (suc (n + k)) c x e) (sym (append_assoc (line_at v c) t u)) (go (then s r)))

  after : {n : ℕ} {c d e : Cursor} {t u : Text} → line_at v c ≡ t → next_at v c ≡ d → Within v n d u e → Within v (suc n) c (t ++ u) e
  after {n} {c} {d} {e} {t} {u} l g s =
      subst (λ (x : Text). Within v (suc n) c (x ++ u) e) l (go (subst (λ (x : Cursor). Within v n x u e) (sym g) s))

  single : {c d : Cursor} {t : Text} → line_at v c ≡ t → next_at v c ≡ d → Within v 1 c t d
  single {c} {d} {t} l g = subst (λ (x : Text). Within v 1 c x d) (append-nil t) (after {n = 0} l g stay)

  -- The items of a list, by the steps of each.
  items : {A : Type 0} (f : A → Text) (at : ℕ → Cursor) {end : Cursor} {k m : ℕ} (l : List A)
      → ((i : ℕ) (a : A) → get_elem? l i ≡ some a → Within v k (at i) (f a) (at (suc i))) → Within v m (at (length l)) [] end
      → Within v (k * length l + m) (at 0) (each f l) end
  unfolding each
  items f at [] one past = fewer (omega arith) past
  items f at (a ∷ l) one past = fewer (omega arith) (then (one 0 a refl) (items f (λ i. at (suc i)) l (λ i b e. one (suc i) b e) past))

  -- The same of items that are shown with their numbers.
  items-from : {A : Type 0} (f : ℕ → A → Text) (at : ℕ → Cursor) {end : Cursor} {k m : ℕ} (j : ℕ) (l : List A)
      → ((i : ℕ) (a : A) → get_elem? l i ≡ some a → Within v k (at (j + i)) (f (j + i) a) (at (suc (j + i)))) → Within v m (at (j + length l)) [] end
      → Within v (k * length l + m) (at j) (each_from f j l) end
  unfolding each_from
  items-from f at {end} {k} {m} j [] one past =
      let here : j + 0 ≡ j = omega arith in
      fewer (omega arith) (subst (λ (x : ℕ). Within v m (at x) [] end) here past)
  items-from f at {end} {k} {m} j (a ∷ l) one past =
      let here : j + 0 ≡ j = omega arith in
      let next : suc (j + 0) ≡ j + 1 = omega arith in
      let more : (i : ℕ) → j + suc i ≡ j + 1 + i = λ i. omega arith in
      let step : Within v k (at j) (f j a) (at (j + 1)) =
      subst (λ (x : ℕ). Within v k (at j) (f j a) (at x)) next (subst (λ (x : ℕ). Within v k (at x) (f x a) (at (suc (j + 0)))) here (one 0 a refl)) in
      fewer (omega arith)
      (then step
      (items-from f at (j + 1) l
      (λ i b e. subst (λ (x : ℕ). Within v k (at x) (f x b) (at (suc x))) (more i) (one (suc i) b e))
      (subst (λ (x : ℕ). Within v m (at x) [] end) (more (length l)) past)))

  -- From the first on.
  numbered : {A : Type 0} (f : ℕ → A → Text) (at : ℕ → Cursor) {end : Cursor} {k m : ℕ} (l : List A)
      → ((i : ℕ) (a : A) → get_elem? l i ≡ some a → Within v k (at i) (f i a) (at (suc i))) → Within v m (at (length l)) [] end
      → Within v (k * length l + m) (at 0) (each_from f 0 l) end
  numbered f at {end} {k} {m} l one past =
      let all : (i : ℕ) → i ≡ 0 + i = λ i. omega arith in
      items-from f at 0 l
      (λ i a e. subst (λ (x : ℕ). Within v k (at x) (f x a) (at (suc x))) (all i) (one i a e))
      (subst (λ (x : ℕ). Within v m (at x) [] end) (all (length l)) past)

-- An item of a list has a number below the list's length, and past the end there is none.
pub item-below : {A : Type 0} (l : List A) (i : ℕ) {a : A} → get_elem? l i ≡ some a → i < length l
item-below [] i e = let z : ◌≡◌ {A = ℕ} 0 1 = cc in absurd (omega arith)
item-below (a ∷ l) zero e = omega arith
item-below (a ∷ l) (suc i) e = omega (arith, item-below l i e)

item-end : {A : Type 0} (l : List A) → get_elem? l (length l) ≡ none
item-end [] = refl
item-end (a ∷ l) = item-end l

next-few : {A : Type 0} (l : List A) (i : ℕ) {a : A} → Few l → get_elem? l i ≡ some a → next_number i ≡ suc i
next-few l i f e = omega (arith, item-below l i e)

-- A name by its answer: its line, and that the listing goes on after it; and that past the last row it goes elsewhere.
record Shown (o : Option Text) (a : Answer Text) : Type 0 where
  line : (key : Text) → name_line key a ≡ value_line key o
  has : goes_on a ≡ true

shown-text : (o : Option Text) → Shown o (name_or_5 o)
unfolding missing_line
shown-text none = record { line = λ key. refl; has = refl }
shown-text (some t) = record { line = λ key. refl; has = refl }

-- Whatever the reason is.
shown-name : (n : Name) → Shown (text_of n) (name_or_why n)
unfolding missing_line
shown-name (found t) = record { line = λ key. refl; has = refl }
shown-name (missing why) = record { line = λ key. refl; has = refl }

module _ {o : Option Text} {x a : Answer Text} (s : Shown o x) (e : a ≡ x) where
  told : (key : Text) → name_line key a ≡ value_line key o
  told key = ap (name_line key) e ∙ s.line key

  goes : (y z : Cursor) → cond (goes_on a) y z ≡ y
  goes y z = ap (λ (b : Bool). cond b y z) (ap goes_on e ∙ s.has)

module _ {a : Answer Text} (e : a ≡ refused_by NoSuchRow) where
  untold : (key : Text) → name_line key a ≡ []
  unfolding missing_line
  untold key = ap (name_line key) e

  leaves : (x y : Cursor) → cond (goes_on a) x y ≡ y
  leaves x y = ap (λ (b : Bool). cond b x y) (ap goes_on e)

-- Beyond the ceiling there is the mark, and the listing goes on past what it is about.
module _ {a : Answer Text} (e : a ≡ refused_by TooManySteps) where
  marked : (key : Text) → name_line key a ≡ spent_line key
  unfolding missing_line
  marked key = ap (name_line key) e

  ends : (x y : Cursor) → cond (goes_on a) x y ≡ y
  ends x y = ap (λ (b : Bool). cond b x y) (ap goes_on e)

-- How many steps the lines of a method, of a class and of a record take: a step for each line, and one past the end of each list.
abbrev method_steps : ℕ
method_steps = 3 * most + 5

abbrev class_steps : ℕ
class_steps = (method_steps + 2) * most + 7

abbrev pub listing_steps : ℕ
listing_steps = class_steps * most + 3

-- A method's lines.
module _ (v : View) (c m : ℕ) (k : Method) (is : the_method v c m ≡ value k) where
  generic-at : (i : ℕ) {n : Name} → get_elem? k.generics i ≡ some n → method_generic_name v c m i ≡ name_or_why n
  unfolding method_generic_name
  generic-at i e = rw (is, e)

  generic-past : method_generic_name v c m (length k.generics) ≡ refused_by NoSuchRow
  unfolding method_generic_name
  generic-past = rw (is, item-end k.generics)

  type_at : (i : ℕ) {p : Parameter} → get_elem? k.parameters i ≡ some p → parameter_type v c m i ≡ name_or_5 p.type
  unfolding parameter_type
  type_at i e = rw (is, e)

  name-at : (i : ℕ) {p : Parameter} → get_elem? k.parameters i ≡ some p → parameter_name v c m i ≡ name_or_5 p.name
  unfolding parameter_name
  name-at i e = rw (is, e)

  type-past : parameter_type v c m (length k.parameters) ≡ refused_by NoSuchRow
  unfolding parameter_type
  type-past = rw (is, item-end k.parameters)

  method-name : method_name v c m ≡ name_or_why k.name
  unfolding method_name
  method-name = rw is

  method-flags : method_flags v c m ≡ value k.flags
  unfolding method_flags
  method-flags = rw is

  return-type : return_type v c m ≡ name_or_5 k.returns
  unfolding return_type
  return-type = rw is

  module _ (few : FewInMethod k) where
    generic-step : (i : ℕ) (n : Name) → get_elem? k.generics i ≡ some n
        → Within v 1 (cursor MethodGeneric c m i) (value_line (q "mgeneric=") (text_of n)) (cursor MethodGeneric c m (suc i))
    unfolding line_at next_at
    generic-step i n e =
        single (told (shown-name n) (generic-at i e) (q "mgeneric="))
        (goes (shown-name n) (generic-at i e) _ _ ∙ ap (cursor MethodGeneric c m) (next-few k.generics i few.generics e))

    module _ (within : is_over (method_work v c m) ≡ false) where
      parameter-steps : (i : ℕ) (p : Parameter) → get_elem? k.parameters i ≡ some p
          → Within v 2 (cursor ParamType c m i) (parameter_lines p) (cursor ParamType c m (suc i))
      unfolding parameter_lines line_at next_at
      parameter-steps i p e =
          let type = listed-within (ParameterType c m i) v within ∙ type_at i e in
          let name = listed-within (ParameterName c m i) v within ∙ name-at i e in
          after (told (shown-text p.type) type (q "ptype=")) (goes (shown-text p.type) type _ _)
          (single (told (shown-text p.name) name (q "pname="))
          (goes (shown-text p.name) name _ _ ∙ ap (cursor ParamType c m) (next-few k.parameters i few.parameters e)))

    signature-steps : next_number m ≡ suc m → (over : Bool) → is_over (method_work v c m) ≡ over
        → Within v (2 * most + 2) (cursor Returns c m 0) (signature_lines over k) (cursor AtMethod c (suc m) 0)
    unfolding signature_lines line_at next_at
    signature-steps n true over =
        let spent = listed-beyond (ReturnType c m) v over in
        fewer (omega arith) (single (marked spent (q "returns=")) (ends spent _ _ ∙ ap (λ (x : ℕ). cursor AtMethod c x 0) n))
    signature-steps n false within =
        let type = listed-within (ReturnType c m) v within ∙ return-type in
        let past = listed-within (ParameterType c m (length k.parameters)) v within ∙ type-past in
        fewer (omega (arith, few.parameters))
        (after (told (shown-text k.returns) type (q "returns=")) (goes (shown-text k.returns) type _ _)
        (items parameter_lines (cursor ParamType c m) k.parameters (parameter-steps within)
        (single (untold past (q "ptype=")) (leaves past _ _ ∙ ap (λ (x : ℕ). cursor AtMethod c x 0) n))))

    method-steps : next_number m ≡ suc m → Within v method_steps (cursor AtMethod c m 0) (method_lines v c m k) (cursor AtMethod c (suc m) 0)
    unfolding method_lines line_at next_at
    method-steps n =
        fewer (omega (arith, few.generics))
        (after (told (shown-name k.name) method-name (q "method=")) (goes (shown-name k.name) method-name _ _)
        (after (ap (answer_line (q "mflags=")) method-flags) refl
        (then (items (λ n. value_line (q "mgeneric=") (text_of n)) (cursor MethodGeneric c m) k.generics generic-step
        (single (untold generic-past (q "mgeneric=")) (leaves generic-past _ _)))
        (signature-steps n (is_over (method_work v c m)) refl))))

-- A number that may be missing, by its answer and by the record.
or-key-shown : (key : Text) (f : ClassLayout → ℕ) (o : Option ClassLayout) → or_key_line key (or_no_row o ⟫ (λ l. value (f l))) ≡ number_or_key key (over f o)
or-key-shown key f none = refl
or-key-shown key f (some l) = refl

-- A class's lines.
module _ (v : View) (c : ℕ) (k : Class) (is : the_class v c ≡ value k) where
  method-at : (m : ℕ) {x : Method} → get_elem? k.methods m ≡ some x → the_method v c m ≡ value x
  method-at m e = rw (is, e)

  method-past : method_name v c (length k.methods) ≡ refused_by NoSuchRow
  unfolding method_name
  method-past = rw (is, item-end k.methods)

  class-name : class_name v c ≡ name_or_why k.name
  unfolding class_name
  class-name = rw is

  class-flags : class_flags v c ≡ value k.flags
  unfolding class_flags
  class-flags = rw is

  packing-shown : or_key_line (q "packing=") (class_packing v c) ≡ number_or_key (q "packing=") (over (λ l. l.packing) k.layout)
  unfolding class_packing
  packing-shown =
      ap (λ (a : Answer Class). or_key_line (q "packing=") (a ⟫ (λ x. or_no_row x.layout) ⟫ (λ l. value l.packing))) is
      ∙ or-key-shown (q "packing=") (λ l. l.packing) k.layout

  size-shown : or_key_line (q "size=") (class_size v c) ≡ number_or_key (q "size=") (over (λ l. l.size) k.layout)
  unfolding class_size
  size-shown =
      ap (λ (a : Answer Class). or_key_line (q "size=") (a ⟫ (λ x. or_no_row x.layout) ⟫ (λ l. value l.size))) is
      ∙ or-key-shown (q "size=") (λ l. l.size) k.layout

  class-generic : (i : ℕ) {n : Name} → get_elem? k.generics i ≡ some n → generic_name v c i ≡ name_or_why n
  unfolding generic_name
  class-generic i e = rw (is, e)

  class-generic-past : generic_name v c (length k.generics) ≡ refused_by NoSuchRow
  unfolding generic_name
  class-generic-past = rw (is, item-end k.generics)

  base-at : (i : ℕ) {t : Text} → get_elem? k.bases i ≡ some t → base_name v c i ≡ name_or_5 (some t)
  unfolding base_name
  base-at i e = rw (is, e)

  base-past : base_name v c (length k.bases) ≡ refused_by NoSuchRow
  unfolding base_name
  base-past = rw (is, item-end k.bases)

  module _ (few : FewInClass k) where
    class-generic-step : (i : ℕ) (n : Name) → get_elem? k.generics i ≡ some n
        → Within v 1 (cursor Generic c 0 i) (value_line (q "generic=") (text_of n)) (cursor Generic c 0 (suc i))
    unfolding line_at next_at
    class-generic-step i n e =
        single (told (shown-name n) (class-generic i e) (q "generic="))
        (goes (shown-name n) (class-generic i e) _ _ ∙ ap (cursor Generic c 0) (next-few k.generics i few.generics e))

    module _ (within : is_over (base_work v c) ≡ false) where
      base_step : (i : ℕ) (t : Text) → get_elem? k.bases i ≡ some t
          → Within v 1 (cursor Base c 0 i) (value_line (q "base=") (some t)) (cursor Base c 0 (suc i))
      unfolding line_at next_at
      base_step i t e =
          let name = listed-within (BaseName c i) v within ∙ base-at i e in
          single (told (shown-text (some t)) name (q "base="))
          (goes (shown-text (some t)) name _ _ ∙ ap (cursor Base c 0) (next-few k.bases i few.bases e))

    base-steps : (over : Bool) → is_over (base_work v c) ≡ over
        → Within v (most + 1) (cursor Base c 0 0) (base_lines over k.bases) (cursor AtMethod c 0 0)
    unfolding base_lines line_at next_at
    base-steps true over =
        let spent = listed-beyond (BaseName c 0) v over in
        fewer (omega arith) (single (marked spent (q "base=")) (ends spent _ _))
    base-steps false within =
        let past = listed-within (BaseName c (length k.bases)) v within ∙ base-past in
        fewer (omega (arith, few.bases))
        (items (λ b. value_line (q "base=") (some b)) (cursor Base c 0) k.bases (base_step within)
        (single (untold past (q "base=")) (leaves past _ _)))

    method-turn : (m : ℕ) (x : Method) → get_elem? k.methods m ≡ some x
        → Within v method_steps (cursor AtMethod c m 0) (method_lines v c m x) (cursor AtMethod c (suc m) 0)
    method-turn m x e = method-steps v c m x (method-at m e) (few.each m x e) (next-few k.methods m few.methods e)

    class-steps : next_number c ≡ suc c → Within v class_steps (cursor AtClass c 0 0) (class_lines v c k) (cursor AtClass (suc c) 0 0)
    unfolding class_lines line_at next_at
    class-steps n =
        fewer (omega (arith, few.generics, few.methods))
        (after (told (shown-name k.name) class-name (q "class=")) (goes (shown-name k.name) class-name _ _)
        (after (ap (answer_line (q "flags=")) class-flags) refl
        (after packing-shown refl
        (after size-shown refl
        (then (items (λ n. value_line (q "generic=") (text_of n)) (cursor Generic c 0) k.generics class-generic-step
        (single (untold class-generic-past (q "generic=")) (leaves class-generic-past _ _)))
        (then (base-steps (is_over (base_work v c)) refl)
        (numbered (method_lines v c) (λ (m : ℕ). cursor AtMethod c m 0) k.methods method-turn
        (single (untold method-past (q "method=")) (leaves method-past _ _ ∙ ap (λ (x : ℕ). cursor AtClass x 0 0) n)))))))))

-- The whole listing, by what opening the streams found.
module _ (v : View) (few : FewIn v) where
  module _ (ready : the_classes v ≡ value (class_record v)) where
    class-at : (c : ℕ) {k : Class} → get_elem? (class_record v) c ≡ some k → the_class v c ≡ value k
    class-at c e = rw (ready, e)

    class-past : class_name v (length (class_record v)) ≡ refused_by NoSuchRow
    unfolding class_name
    class-past = rw (ready, item-end (class_record v))

    class-count : class_count v ≡ value (length (class_record v))
    unfolding class_count
    class-count = rw ready

    class-turn : (c : ℕ) (k : Class) → get_elem? (class_record v) c ≡ some k
        → Within v class_steps (cursor AtClass c 0 0) (class_lines v c k) (cursor AtClass (suc c) 0 0)
    class-turn c k e = class-steps v c k (class-at c e) (few.each c k e) (next-few (class_record v) c few.classes e)

    record-steps : (stop : ℕ) → (walk_answer v).stop ≡ value stop → Within v listing_steps first (record_lines v stop (class_record v)) done
    unfolding record_lines line_at next_at
    record-steps stop e =
        fewer (omega (arith, few.classes))
        (after (ap stop_line e) (ap after_stop e)
        (after (ap (answer_line (q "classes=")) class-count) refl
        (numbered (class_lines v) (λ (c : ℕ). cursor AtClass c 0 0) (class_record v) class-turn
        (single (untold class-past (q "class=")) (leaves class-past _ _)))))

    listing-found : (stop : ℕ) → (walk_answer v).stop ≡ value stop → listing v ≡ record_lines v stop (class_record v)
    unfolding listing
    listing-found stop e = rw (e, ready)

  listing-refused : (w : replies.Refused) → (walk_answer v).stop ≡ refused w → listing v ≡ refused_line w.number
  unfolding listing
  listing-refused w e = rw e

  refused-steps : (w : replies.Refused) → (walk_answer v).stop ≡ refused w → Within v 1 first (refused_line w.number) done
  unfolding line_at next_at
  refused-steps w e = single (ap stop_line e) (ap after_stop e)

  stop-refused : {why : Refusal} → v.header.answer ≡ Err why → (walk_answer v).stop ≡ refused_by why
  unfolding walk_by
  stop-refused e = rw e

  abbrev Listed : Text → Type 0
  Listed t = Within v listing_steps first t done

  by-opening : (a : Opened) → v.header.answer ≡ a → (s : Answer ℕ) → (walk_answer v).stop ≡ s → Listed (listing v)
  by-opening a e (refused w) f = subst Listed (sym (listing-refused w f)) (fewer (omega arith) (refused-steps w f))
  by-opening (Err why) e (value stop) f =
      let g : refused_by why ≡ value stop = sym (stop-refused e) ∙ f in
      let z : ◌≡◌ {A = ℕ} 0 1 = cc in
      absurd (omega arith)
  by-opening (Ok tt) e (value stop) f =
      let ready : the_classes v ≡ value (class_record v) = rw e in
      subst Listed (sym (listing-found ready stop f)) (record-steps ready stop f)

pub listed : (v : View) → FewIn v → Within v listing_steps first (listing v) done
listed v few = by-opening v few v.header.answer refl (walk_answer v).stop refl
