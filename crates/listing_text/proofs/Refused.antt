-- The listing of a stream that is refused, from any cursor: the line of the refusal at the first place, and no other. Assumes nothing.
use mathlib.Core.Path.{◌≡◌, refl, ap, ◌∙◌}
use mathlib.Core.Bool.{Bool, true, false, cond}
use mathlib.Core.List.{List, [], ◌∷◌, ◌++◌}
use Prim.Native.Nat.{ℕ, suc, ◌-◌, ◌<◌, ◌≤◌}
use native.Mathlib.Omega.{arith}
use borrow.Author.Tests.{ne_eqb}
use denote.Enum.Declared.{tag_of}
use types.Run.{OneOf, miss}
use lib.Dec.{ltb}
use lib.ListN.{length}
use Rattle.buffers.specs.Texts.{Text}
use Rattle.buffers.specs.Replies.{number, Answer, refused_by}
use Rattle.buffers.specs.declared.Refusal.{Refusal}
use Rattle.buffers.specs.declared.Refusal.TheVariants.{ShortHeader, ShortCounts, TooManyRows}
use Rattle.buffers.proofs.Writing.{wrote_none}
use Rattle.header.specs.Stream.{opened, counts_end, over_limit, refused_header}
use Rattle.header.specs.Stream.{Opening}
use Rattle.header.specs.declared.Options.{Options}
use Rattle.tables.specs.Extents.{walk_by}
use Rattle.record.specs.View.{View, view, view_of}
use Rattle.record.specs.Answers.{walk_answer, NumberCall, ClassCount, ClassFlags, ClassPacking, ClassSize, MethodFlags, number_answer, NameCall, ClassName, GenericName, BaseName, MethodName, MethodGenericName, ReturnType, ParameterType, ParameterName, ModuleName, ModuleRefName, AssemblyName, AssemblyCulture, AssemblyRefName, AssemblyRefKey, ConstantValue, Typelib, name_answer}
use Rattle.record.proofs.Laws.{opening-first}
use Rattle.record.specs.Allowance.{base_work, method_work, name_work, count_of, is_over}
use Rattle.lines.specs.Lines.{answer_line, or_key_line, missing_line, name_line, goes_on, refused_line}
use Rattle.lines.specs.Cursors.{cursor, done, next_number, line_at, next_at, Went, Stepped}
use Rattle.lines.specs.declared.Place.{Place}
use Rattle.lines.specs.declared.Place.TheVariants as at
use Rattle.lines.specs.declared.Cursor.{Cursor}
use Rattle.lines.specs.declared.Step.{Step}
use Rattle.lines.specs.Ceiling.{listed}
use Rattle.lines.proofs.Ceiling.{listed-within}
use Rattle.lines.specs.contracts.Place.{the_type}
use Rattle.listing_steps.specs.Filling.{is_done, Piece, piece_from, piece_of, most_steps, Pieced}
use Rattle.listing_steps.proofs.Filling.{is-done, goes_on as goes-further, going_start, going-out, going_done, going-full, going_on}
use Rattle.std.specs.Prelude.{Ok, Err}

-- Opening refuses by 1, 2 or 3.
by_tests : (short cut over : Bool) (h : Opening) {why : Refusal} → h.answer ≡ (Ok tt)
    → (cond short (refused_header ShortHeader) (cond cut (refused_header ShortCounts) (cond over (refused_header TooManyRows) h))).answer ≡ Err why
    → number why ≤ 3
by_tests true cut over h {why} r e = let is : why ≡ ShortHeader = cc in rw is (omega arith)
by_tests false true over h {why} r e = let is : why ≡ ShortCounts = cc in rw is (omega arith)
by_tests false false true h {why} r e = let is : why ≡ TooManyRows = cc in rw is (omega arith)
by_tests false false false h {why} r e = let z : ◌≡◌ {A = ℕ} 0 1 = cc in absurd (omega arith)

few : (o : Options) (t : List ℕ) {why : Refusal} → (opened o t).answer ≡ Err why → number why ≤ 3
unfolding opened
few o t e = by_tests (ltb (length t) 24) (ltb (length t) (counts_end t)) (over_limit o.limit t 64) _ refl e

-- The tags of all places but the first and the last.
abbrev others : List ℕ
others = 1 ∷ 2 ∷ 3 ∷ 4 ∷ 5 ∷ 6 ∷ 7 ∷ 8 ∷ 9 ∷ 10 ∷ 11 ∷ 13 ∷ 14 ∷ []

-- No line, and the listing is done.
abbrev nothing : Piece
nothing = record { text = []; next = done }

module _ (o : Options) (t strings blob : List ℕ) {why : Refusal} (e : (opened o t).answer ≡ Err why) where
  abbrev v : View
  v = view o t strings blob

  -- No answer has a line, and the first line is the refusal.
  no_number : (call : NumberCall) (key : Text) → answer_line key (number_answer call v) ≡ []
  unfolding view_of
  no_number call key = rw ((opening-first v why e).0 call)

  -- Nor has one that may be missing: the stream is refused, the number is not missing.
  no_key : (call : NumberCall) (key : Text) → or_key_line key (number_answer call v) ≡ []
  unfolding view_of
  no_key call key = let low = few o t e in rw ((opening-first v why e).0 call, ne_eqb (number why) 4 (λ z. omega arith))

  no_name : (call : NameCall) (key : Text) → name_line key (name_answer call v) ≡ []
  unfolding view_of missing_line
  no_name call key =
      let low = few o t e in
      rw ((opening-first v why e).1 call, ne_eqb (number why) 5 (λ z. omega arith), ne_eqb (number why) 6 (λ z. omega arith), ne_eqb (number why) 11 (λ z. omega arith))

  passes : (call : NameCall) (x y : Cursor) → cond (goes_on (name_answer call v)) x y ≡ y
  unfolding view_of
  passes call x y =
      let low = few o t e in
      rw ((opening-first v why e).1 call, ne_eqb (number why) 5 (λ z. omega arith), ne_eqb (number why) 6 (λ z. omega arith))

  -- Nothing is counted, so nothing is beyond the ceiling.
  counts-nothing : (call : NameCall) → count_of (name_work call v) ≡ 0
  unfolding view_of base_work method_work
  counts-nothing (ClassName c) = refl
  counts-nothing (GenericName c g) = refl
  counts-nothing (BaseName c b) = rw e
  counts-nothing (MethodName c m) = refl
  counts-nothing (MethodGenericName c m g) = refl
  counts-nothing (ReturnType c m) = rw e
  counts-nothing (ParameterType c m p) = rw e
  counts-nothing (ParameterName c m p) = rw e
  counts-nothing ModuleName = refl
  counts-nothing (ModuleRefName i) = refl
  counts-nothing AssemblyName = refl
  counts-nothing AssemblyCulture = refl
  counts-nothing (AssemblyRefName i) = refl
  counts-nothing (AssemblyRefKey i) = refl
  counts-nothing (ConstantValue i) = refl
  counts-nothing Typelib = refl

  is_plain : (call : NameCall) → listed call v ≡ name_answer call v
  unfolding is_over
  is_plain call = listed-within call v (rw (counts-nothing call))

  no-listed : (call : NameCall) (key : Text) → name_line key (listed call v) ≡ []
  no-listed call key = ap (name_line key) (is_plain call) ∙ no_name call key

  passes-listed : (call : NameCall) (x y : Cursor) → cond (goes_on (listed call v)) x y ≡ y
  passes-listed call x y = ap (λ (a : Answer Text). cond (goes_on a) x y) (is_plain call) ∙ passes call x y

  stop_is : (walk_answer v).stop ≡ refused_by why
  unfolding view_of walk_by
  stop_is = rw e

  -- From a cursor that is so many steps before the end no line is added.
  module _ (room : ℕ) where
    abbrev Ends : ℕ → Cursor → Type 0
    Ends k c = (n : ℕ) → k ≤ n → piece_from v room n [] c ≡ nothing

    ends-done : Ends 0 done
    ends-done n h = is-done v room [] done n refl

    skips : {k : ℕ} (c d : Cursor) → is_done c.place ≡ false → line_at v c ≡ [] → next_at v c ≡ d → Ends k d → Ends (suc k) c
    skips c d f l g ends n h =
        let in-room : length ([] ++ line_at v c) ≤ room = rw l (omega arith) in
        goes-further v room [] c n (omega arith) f in-room ∙ rw (l, g) (ends (n - 1) (omega arith))

    ends-class : (c m i : ℕ) → Ends 1 (cursor at.Class c m i)
    unfolding line_at next_at
    ends-class c m i = skips _ _ refl (no_name (ClassName c) _) (passes (ClassName c) _ _) ends-done

    ends-classes : (c m i : ℕ) → Ends 2 (cursor at.Classes c m i)
    unfolding line_at next_at
    ends-classes c m i = skips _ _ refl (no_number ClassCount _) refl (ends-class 0 0 0)

    ends-method : (c m i : ℕ) → Ends 2 (cursor at.Method c m i)
    unfolding line_at next_at
    ends-method c m i = skips _ _ refl (no_name (MethodName c m) _) (passes (MethodName c m) _ _) (ends-class (next_number c) 0 0)

    ends-base : (c m i : ℕ) → Ends 3 (cursor at.Base c m i)
    unfolding line_at next_at
    ends-base c m i = skips _ _ refl (no-listed (BaseName c i) _) (passes-listed (BaseName c i) _ _) (ends-method c 0 0)

    ends-generic : (c m i : ℕ) → Ends 4 (cursor at.Generic c m i)
    unfolding line_at next_at
    ends-generic c m i = skips _ _ refl (no_name (GenericName c i) _) (passes (GenericName c i) _ _) (ends-base c 0 0)

    ends-size : (c m i : ℕ) → Ends 5 (cursor at.Size c m i)
    unfolding line_at next_at
    ends-size c m i = skips _ _ refl (no_key (ClassSize c) _) refl (ends-generic c 0 0)

    ends-packing : (c m i : ℕ) → Ends 6 (cursor at.Packing c m i)
    unfolding line_at next_at
    ends-packing c m i = skips _ _ refl (no_key (ClassPacking c) _) refl (ends-size c 0 0)

    ends-flags : (c m i : ℕ) → Ends 7 (cursor at.Flags c m i)
    unfolding line_at next_at
    ends-flags c m i = skips _ _ refl (no_number (ClassFlags c) _) refl (ends-packing c 0 0)

    ends-param-type : (c m i : ℕ) → Ends 3 (cursor at.ParamType c m i)
    unfolding line_at next_at
    ends-param-type c m i = skips _ _ refl (no-listed (ParameterType c m i) _) (passes-listed (ParameterType c m i) _ _) (ends-method c (next_number m) 0)

    ends-param-name : (c m i : ℕ) → Ends 3 (cursor at.ParamName c m i)
    unfolding line_at next_at
    ends-param-name c m i = skips _ _ refl (no-listed (ParameterName c m i) _) (passes-listed (ParameterName c m i) _ _) (ends-method c (next_number m) 0)

    ends-returns : (c m i : ℕ) → Ends 3 (cursor at.Returns c m i)
    unfolding line_at next_at
    ends-returns c m i = skips _ _ refl (no-listed (ReturnType c m) _) (passes-listed (ReturnType c m) _ _) (ends-method c (next_number m) 0)

    ends-method-generic : (c m i : ℕ) → Ends 4 (cursor at.MethodGeneric c m i)
    unfolding line_at next_at
    ends-method-generic c m i = skips _ _ refl (no_name (MethodGenericName c m i) _) (passes (MethodGenericName c m i) _ _) (ends-returns c m 0)

    ends-method-flags : (c m i : ℕ) → Ends 5 (cursor at.MethodFlags c m i)
    unfolding line_at next_at
    ends-method-flags c m i = skips _ _ refl (no_number (MethodFlags c m) _) refl (ends-method-generic c m 0)

    -- No place but the first and the last is more than seven steps away.
    elsewhere : (p : Place) (c m i : ℕ) → OneOf others (tag_of the_type p) → Ends 7 (cursor p c m i)
    elsewhere at.Stop c m i h = absurd (miss others 0 tt h)
    elsewhere at.Classes c m i h = λ n k. ends-classes c m i n (omega arith)
    elsewhere at.Class c m i h = λ n k. ends-class c m i n (omega arith)
    elsewhere at.Flags c m i h = ends-flags c m i
    elsewhere at.Packing c m i h = λ n k. ends-packing c m i n (omega arith)
    elsewhere at.Size c m i h = λ n k. ends-size c m i n (omega arith)
    elsewhere at.Generic c m i h = λ n k. ends-generic c m i n (omega arith)
    elsewhere at.Base c m i h = λ n k. ends-base c m i n (omega arith)
    elsewhere at.Method c m i h = λ n k. ends-method c m i n (omega arith)
    elsewhere at.MethodFlags c m i h = λ n k. ends-method-flags c m i n (omega arith)
    elsewhere at.MethodGeneric c m i h = λ n k. ends-method-generic c m i n (omega arith)
    elsewhere at.Returns c m i h = λ n k. ends-returns c m i n (omega arith)
    elsewhere at.ParamType c m i h = λ n k. ends-param-type c m i n (omega arith)
    elsewhere at.ParamName c m i h = λ n k. ends-param-name c m i n (omega arith)
    elsewhere at.Done c m i h = absurd (miss others 12 tt h)

  -- What is done with a buffer.
  module _ (from : Cursor) {b : List ℕ} where
    pub refused-done : from.place ≡ at.Done → Pieced (piece_of v (length b) from) b b (record { next = from; at = 0 })
    refused-done f = going-out (going_done (going_start v b from most_steps) refl (ap is_done f)) (omega arith)

    pub refused-elsewhere : {next : Cursor} → OneOf others (tag_of the_type from.place) → next ≡ done
        → Pieced (piece_of v (length b) from) b b (record { next = next; at = 0 })
    refused-elsewhere h g =
        rw (elsewhere (length b) from.place from.class.0 from.method from.i h most_steps (omega arith))
        (record { wrote = wrote_none b 0 0 (omega arith); goes = g })

    module _ {b' : List ℕ} {s : Step} (f : from.place ≡ at.Stop) (w : Went (refused_line (number why)) done b 0 b' s) where
      steps : Stepped v from b 0 b' s
      unfolding line_at next_at
      steps = rw f (rw stop_is w)

      pub refused_full : length b' < s.at → Pieced (piece_of v (length b) from) b b' (record { next = from; at = 0 })
      refused_full h = going-out (going-full (going_start v b from most_steps) steps h) (omega arith)

      pub refused-first : s.at ≤ length b' → Pieced (piece_of v (length b) from) b b' s
      refused-first h =
          going-out
          (going_done (going_on (going_start v b from most_steps) steps (omega arith) refl (ap is_done f) h) refl (ap (λ (c : Cursor). is_done c.place) w.goes))
          (omega arith)
